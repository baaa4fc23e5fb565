-- The files that a server writes: those of savecore(8), one pair for each session.
use Rattle.std.specs.Prelude.{◌≡◌, ℕ, zero, suc, ◌+◌, Bool, true, false, ◌&&◌, is_none, List, [], ◌∷◌, codes, Option, Some, None}
use Rattle.fd_bytes.specs.Field.{u32_be_at}
use Rattle.fd_kdh.specs.Layout.{Parity, start_of}
use Rattle.fd_kdh.specs.declared.header.Header.{Header}
use Rattle.fd_info.specs.Info.{info_text}
use Rattle.fd_info.specs.Name.{info_name, vmcore_name}
use Rattle.fd_netmsg.specs.Each.{Each}
use Rattle.fd_site.specs.Journal.{Entry, Create, Write, Sync, is_on, file_after}

-- a directory, as each name's file
abbrev pub Files : Type 0
Files = List ℕ → Option (List ℕ)

-- a directory after these entries
abbrev pub files_after : Files → List Entry → Files
files_after files entries q = file_after q (files q) entries

-- the least number from n on, of so many, with neither file
abbrev pub is_free : Files → ℕ → Bool
is_free files n = is_none (files (vmcore_name n)) && is_none (files (info_name n))

abbrev pub free_from : Files → ℕ → ℕ → Option ℕ
free_from files zero n = None
free_from files (suc more) n = elim (is_free files n) [ true ↦ Some n | false ↦ free_from files more (n + 1) ]

-- the least free number from 0 to 65535
unfoldable pub free_number : Files → Option ℕ
free_number files = free_from files 65536 0

-- the device that info.N says a dump was found on, and the parity word of a header's bytes
abbrev pub device_name : List ℕ
device_name = codes "netdump"

abbrev pub parity_of : List ℕ → ℕ
parity_of header = u32_be_at header (start_of Parity)

-- the entries at a session's end: the file of its dump is synced, and that of its text is made, written and synced
abbrev pub finish_of : (vmcore info text : List ℕ) → List Entry
finish_of vmcore info text = Sync vmcore ∷ Create info ∷ Write info 0 text ∷ Sync info ∷ []

abbrev pub end_of : ℕ → Header → ℕ → List Entry
end_of n h parity = finish_of (vmcore_name n) (info_name n) (info_text h device_name parity n)

-- no entry is on this file, and on neither file of a number
abbrev pub NoneOn : List ℕ → List Entry → Type 0
NoneOn q es = Each (λ e. is_on q e ≡ false) es

pub record AreApart (n : ℕ) (es : List Entry) : Type 0 where
  pub core : NoneOn (vmcore_name n) es
  pub info : NoneOn (info_name n) es
