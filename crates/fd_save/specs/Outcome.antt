-- What saving and clearing answer, and what they leave.
use Rattle.std.specs.Prelude.{◌≡◌, ◌⊎◌, ℕ, ◌+◌, Bool, List, [], ◌∷◌, length, slice_range, Option, Some, None, Result, Ok, Err}
use Rattle.fd_site.specs.Begun.{IsBegun}
use Rattle.fd_site.specs.Contents.{Adds, Contents, Told, file_of, part_of, with_entries}
use Rattle.fd_site.specs.Journal.{Entry, Write}
use Rattle.fd_site.specs.Seen.{Seen}
use Rattle.fd_kdh.specs.declared.header.Header.{Header}
use Rattle.fd_judge.specs.Verdict.{judged}
use Rattle.fd_judge.specs.declared.verdict.Verdict.TheVariants as verdict
use Rattle.fd_judge.specs.declared.why.Why.{Why}
use Rattle.fd_save.specs.Number.{IsNumberOf}
use Rattle.fd_save.specs.Saving.{IsBegunSave, IsSaveJournal, clearing, parity_of}
use Rattle.fd_save.specs.declared.fault.SaveFault.{SaveFault}
use Rattle.fd_save.specs.declared.fault.SaveFault.TheVariants.{Refused, NoNumber, SiteFault}
use Rattle.fd_save.specs.declared.saved.Options.{Options}
use Rattle.fd_save.specs.declared.saved.Saved.{Saved}

-- judging finds this dump
abbrev pub Finds : Bool → Seen → Header → (at : ℕ) → (sector : List ℕ) → Type 0
Finds force old h at sector = Told old.told (λ c. judged (part_of c) old.block force ≡ verdict.Dump h at sector)

-- judging refuses the partition
abbrev pub Refuses : Bool → Seen → Why → Type 0
Refuses force old why = Told old.told (λ c. judged (part_of c) old.block force ≡ verdict.Refused why)

-- the next dump gets this number, or there is none
abbrev pub Numbers : Option ℕ → Seen → Option ℕ → Type 0
Numbers max old number = Told old.told (λ c. IsNumberOf (file_of c) max number)

-- what is told grew by entries that P says of the partition's bytes from a place on, so many of them
pub record Copies (P : List ℕ → List Entry → Type 0) (at len : ℕ) (old new : Option Contents) : Type 0 where
  pub body : List ℕ
  pub bytes : Told old (λ c. body ≡ slice_range (part_of c) at (at + len))
  pub adds : Adds (P body) old new

-- a piece of the partition, so many bytes from a place on, was written to a file's place
pub record CopiesPiece (name : List ℕ) (from at count : ℕ) (old new : Option Contents) : Type 0 where
  pub piece : List ℕ
  pub size : length piece ≡ count
  pub bytes : Told old (λ c. piece ≡ slice_range (part_of c) from (from + count))
  pub told : new ≡ with_entries old (Write name at piece ∷ [])

-- a dump was saved
pub record Saves (options : Options) (old : Seen) (new : Option Contents) (saved : Saved) : Type 0 where
  pub found : Finds options.force old saved.header saved.at saved.sector
  pub number : Numbers options.max old (Some saved.number)
  pub files : Copies (λ body. IsSaveJournal body saved.header (parity_of saved.sector) saved.number) saved.at saved.header.dumplength old.told new

-- a dump's saving was begun
pub record HasBegun (options : Options) (old : Seen) (new : Option Contents) : Type 0 where
  pub saved : Saved
  pub found : Finds options.force old saved.header saved.at saved.sector
  pub number : Numbers options.max old (Some saved.number)
  pub files : Copies (λ body. IsBegunSave body saved.header (parity_of saved.sector) saved.number) saved.at saved.header.dumplength old.told new

-- nothing was added, or a dump's saving was begun
abbrev pub MayHaveBegun : Options → Seen → Option Contents → Type 0
MayHaveBegun options old new = (new ≡ old.told) ⊎ HasBegun options old new

-- a dump is there, and no number for it
pub record HasNoNumber (options : Options) (old : Seen) : Type 0 where
  pub header : Header
  pub at : ℕ
  pub sector : List ℕ
  pub found : Finds options.force old header at sector
  pub none : Numbers options.max old None

-- P of the reason where the answer is that judging refused
abbrev pub OnRefused : {A : Type 0} → Result A SaveFault → (Why → Type 0) → Type 0
OnRefused (Ok a) P = Unit {0}
OnRefused (Err (Refused why)) P = P why
OnRefused (Err NoNumber) P = Unit {0}
OnRefused (Err SiteFault) P = Unit {0}

-- P where the answer is no and no fault of the site
abbrev pub OnNo : {A : Type 0} → Result A SaveFault → Type 0 → Type 0
OnNo (Ok a) P = Unit {0}
OnNo (Err (Refused why)) P = P
OnNo (Err NoNumber) P = P
OnNo (Err SiteFault) P = Unit {0}

-- of a dump that judging finds, clearing was begun or done
pub record Clears (P : List Entry → List Entry → Type 0) (force : Bool) (old : Seen) (new : Option Contents) : Type 0 where
  pub header : Header
  pub at : ℕ
  pub sector : List ℕ
  pub found : Finds force old header at sector
  pub adds : Adds (P (clearing old.size old.block sector)) old.told new

-- the entries that were planned, all of them
abbrev pub IsAll : (planned added : List Entry) → Type 0
IsAll planned added = added ≡ planned

-- nothing was added, or clearing was begun
abbrev pub MayHaveBegunToClear : Bool → Seen → Option Contents → Type 0
MayHaveBegunToClear force old new = (new ≡ old.told) ⊎ Clears IsBegun force old new
