-- What the writer of a dump answers, and what a stopped one wrote.
use Rattle.std.specs.Prelude.{◌≡◌, ℕ, List, take, Result, Ok, Err}
use Rattle.fd_site.specs.Journal.{Entry, kept_sectors}
use Rattle.fd_kdh.specs.declared.header.Header.{Header}
use Rattle.fd_part.specs.Dump.{IsBegunDump, dump_sectors}
use Rattle.fd_part.specs.declared.outcome.Wrote.{Wrote}
use Rattle.fd_part.specs.declared.outcome.Wrote.TheVariants.{Whole, Stopped}
use Rattle.fd_part.specs.declared.outcome.PartFault.{PartFault}
use Rattle.fd_part.specs.declared.outcome.PartFault.TheVariants.{NoRoom, SiteFault}

-- a stopped dump's journal: of a begun one, the first n sectors were kept
pub record IsStoppedDump (body : List ℕ) (h : Header) (size block n : ℕ) (journal : List Entry) : Type 0 where
  pub begun : IsBegunDump body h size block journal
  pub sectors : kept_sectors journal ≡ take n (dump_sectors body h size block)

-- P where all was written
abbrev pub IfWhole : Wrote → Type 0 → Type 0
IfWhole Whole P = P
IfWhole Stopped P = Unit {0}

-- P where the writer stopped
abbrev pub IfStopped : Wrote → Type 0 → Type 0
IfStopped Whole P = Unit {0}
IfStopped Stopped P = P

-- P where the answer is that all was written
abbrev pub OnWhole : Result Wrote PartFault → Type 0 → Type 0
OnWhole (Ok wrote) P = IfWhole wrote P
OnWhole (Err fault) P = Unit {0}

-- P where it is that the writer stopped
abbrev pub OnStopped : Result Wrote PartFault → Type 0 → Type 0
OnStopped (Ok wrote) P = IfStopped wrote P
OnStopped (Err fault) P = Unit {0}

-- P where it is that the partition has no room
abbrev pub OnNoRoom : Result Wrote PartFault → Type 0 → Type 0
OnNoRoom (Ok wrote) P = Unit {0}
OnNoRoom (Err (NoRoom room)) P = P
OnNoRoom (Err SiteFault) P = Unit {0}

-- the same of an answer that says no more where all was written
abbrev pub OnLacking : Result Unit PartFault → Type 0 → Type 0
OnLacking (Ok done) P = Unit {0}
OnLacking (Err (NoRoom room)) P = P
OnLacking (Err SiteFault) P = Unit {0}
