-- How it is printed that a kernel address has no byte.
use Rattle.std.specs.Prelude.{ℕ, List, ◌++◌, codes}
use Rattle.fd_bytes.specs.Printed.{hex}
use Rattle.fd_mini.specs.declared.address_fault.AddressFault.{AddressFault}
use Rattle.fd_mini.specs.declared.address_fault.AddressFault.TheVariants.{NotMapped, TableMissing, NotDumped, Outside, PastTop}

-- the number of its refusal
abbrev pub address_number : AddressFault → ℕ
address_number (NotMapped va) = 21
address_number (TableMissing va) = 22
address_number (NotDumped va) = 23
address_number (Outside va) = 24
address_number PastTop = 25

-- the text of its refusal
abbrev pub address_text : AddressFault → List ℕ
address_text (NotMapped va) = codes "not mapped at 0x" ++ hex 16 va
address_text (TableMissing va) = codes "table missing at 0x" ++ hex 16 va
address_text (NotDumped va) = codes "not dumped at 0x" ++ hex 16 va
address_text (Outside va) = codes "outside at 0x" ++ hex 16 va
address_text PastTop = codes "past the top"
