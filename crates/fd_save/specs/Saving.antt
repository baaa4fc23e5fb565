-- What saving a dump asks of a site, whole or begun. What clearing it does is the rule of fd_part.
use Rattle.std.specs.Prelude.{◌≡◌, ℕ, ◌+◌, List, ◌++◌, codes}
use Rattle.fd_bytes.specs.Field.{u32_be_at}
use Rattle.fd_site.specs.Begun.{IsBegun}
use Rattle.fd_site.specs.FileJournal.{IsFileJournal}
use Rattle.fd_site.specs.Journal.{Entry}
use Rattle.fd_kdh.specs.Layout.{Parity, start_of}
use Rattle.fd_kdh.specs.declared.header.Header.{Header}
use Rattle.fd_info.specs.Bounds.{bounds_text}
use Rattle.fd_info.specs.Info.{info_text}
use Rattle.fd_info.specs.Name.{bounds_name, info_name, vmcore_name}
pub use Rattle.fd_part.specs.Clearing.{cleared_sector, clearing}

-- the parity word of a header's sector
abbrev pub parity_of : List ℕ → ℕ
parity_of sector = u32_be_at sector (start_of Parity)

-- the device that dumps are saved from
abbrev pub device_name : List ℕ
device_name = codes "dumpdev"

-- the journal of a save: the dump's file, what is known of it, and the number that comes next, each whole before the next
pub record IsSaveJournal (body : List ℕ) (h : Header) (parity number : ℕ) (journal : List Entry) : Type 0 where
  pub vmcore : List Entry
  pub info : List Entry
  pub bounds : List Entry
  pub is_vmcore : IsFileJournal (vmcore_name number) body vmcore
  pub is_info : IsFileJournal (info_name number) (info_text h device_name parity number) info
  pub is_bounds : IsFileJournal bounds_name (bounds_text (number + 1)) bounds
  pub is : journal ≡ vmcore ++ (info ++ bounds)

-- what a save began to add: the first of its entries, and what failing the next may add
pub record IsBegunSave (body : List ℕ) (h : Header) (parity number : ℕ) (added : List Entry) : Type 0 where
  pub planned : List Entry
  pub is_save : IsSaveJournal body h parity number planned
  pub begun : IsBegun planned added
