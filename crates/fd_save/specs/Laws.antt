-- What holds of a site once a dump was saved, and wherever a machine stops in that.
use Rattle.std.specs.Prelude.{◌≡◌, ℕ, Bool, IsTrue, List, ◌++◌, length, Option, Some}
use Rattle.fd_site.specs.Contents.{Contents, file_of, part_of}
use Rattle.fd_site.specs.Journal.{Entry}
use Rattle.fd_kdh.specs.declared.header.Header.{Header}
use Rattle.fd_judge.specs.Verdict.{judged}
use Rattle.fd_judge.specs.declared.verdict.Verdict.TheVariants as verdict
use Rattle.fd_part.specs.Partition.{is_good}
use Rattle.fd_save.specs.Number.{IsNumberOf}
use Rattle.fd_save.specs.Saving.{IsSaveJournal, clearing, parity_of}

-- what a site holds after these entries more
abbrev pub then_adds : Contents → List Entry → Contents
then_adds c added = record c { journal = c.journal ++ added }

-- a dump that judging finds on a partition, the next number, and what saving it and clearing it would add
pub record IsSavecore (force : Bool) (max : Option ℕ) (block : ℕ) (was : Contents) (h : Header) (at : ℕ) (sector body : List ℕ) (number : ℕ) (planned : List Entry) : Type 0 where
  pub good : IsTrue (is_good (length (part_of was)) block)
  pub found : judged (part_of was) block force ≡ verdict.Dump h at sector
  pub free : IsNumberOf (file_of was) max (Some number)
  pub journal : List Entry
  pub is_save : IsSaveJournal body h (parity_of sector) number journal
  pub is : planned ≡ journal ++ clearing (length (part_of was)) block sector
