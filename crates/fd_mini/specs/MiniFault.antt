-- How it is printed that a page isn't a header page that can be read.
use Rattle.std.specs.Prelude.{ℕ, List, ◌++◌, codes}
use Rattle.std.specs.Fmt.{decimal}
use Rattle.fd_mini.specs.declared.mini_fault.MiniFault.{MiniFault}
use Rattle.fd_mini.specs.declared.mini_fault.MiniFault.TheVariants.{BadMagic, UnknownVersion, BigGranule, TooLarge}
use Rattle.fd_mini.specs.declared.mini_fault.MiniField.{MiniField}
use Rattle.fd_mini.specs.declared.mini_fault.MiniField.TheVariants.{DumpAvail, Bitmap}

-- the number of its refusal
abbrev pub mini_number : MiniFault → ℕ
mini_number BadMagic = 46
mini_number (UnknownVersion version) = 47
mini_number (BigGranule flags) = 48
mini_number (TooLarge field size) = 49

-- the field's name
abbrev pub field_text : MiniField → List ℕ
field_text DumpAvail = codes "dumpavailsize "
field_text Bitmap = codes "bitmapsize "

-- the text of its refusal
abbrev pub mini_text : MiniFault → List ℕ
mini_text BadMagic = codes "not a minidump"
mini_text (UnknownVersion version) = codes "minidump version " ++ decimal version
mini_text (BigGranule flags) = codes "granule flags " ++ decimal flags
mini_text (TooLarge field size) = field_text field ++ decimal size
