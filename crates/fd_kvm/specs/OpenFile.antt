-- A file that was opened, without the pages that are kept of it. No public clause cites these.
use Rattle.std.specs.Prelude.{ℕ, ◌+◌, ◌-◌, ◌%◌, ◌≤◌, List, length}
use Rattle.fd_site.specs.Contents.{Contents}
use Rattle.fd_vmcore.specs.Sections.{Sections}
use Rattle.fd_kvm.specs.Reader.{StandsFor}

-- its name, and its sections
pub record OpenFile : Type 0 where
  pub name : List ℕ
  pub sections : Sections

-- a reader of it that keeps these pages stands for the file
abbrev pub StandsWith : OpenFile → List (ℕ × List ℕ) → Contents → Type 0
StandsWith file pages c = StandsFor (record { name = file.name; sections = file.sections; pages = pages }) c

-- a file has the whole block of 4096 bytes in which this place lies
abbrev pub HasBlock : (place : ℕ) → List ℕ → Type 0
HasBlock place f = place - place % 4096 + 4096 ≤ length f
