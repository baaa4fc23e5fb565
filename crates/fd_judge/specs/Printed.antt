-- What is printed where a partition holds no dump that can be saved, and the numbers of these refusals.
use Rattle.std.specs.Prelude.{ℕ, List, ◌++◌, codes}
use Rattle.std.specs.Fmt.{decimal}
use Rattle.fd_bytes.specs.Printed.{hex}
use Rattle.fd_judge.specs.declared.why.Why.{Why}
use Rattle.fd_judge.specs.declared.why.Why.TheVariants.{NoMagic, TextDump, Cleared, UnknownVersion, BadParity, Compressed}
use Rattle.fd_judge.specs.declared.why.Why.TheVariants.{Encrypted, UnknownArch, BadBlock, LengthDiffers, BadExtent, Disagree}

abbrev pub why_number : Why → ℕ
why_number NoMagic = 1
why_number TextDump = 2
why_number Cleared = 3
why_number (UnknownVersion version) = 4
why_number (BadParity sum) = 5
why_number (Compressed compression) = 6
why_number (Encrypted size) = 7
why_number UnknownArch = 8
why_number (BadBlock block) = 9
why_number (LengthDiffers len extent) = 10
why_number (BadExtent extent) = 11
why_number (Disagree place) = 12

abbrev pub why_text : Why → List ℕ
why_text NoMagic = codes "no dump"
why_text TextDump = codes "text dump"
why_text Cleared = codes "cleared dump"
why_text (UnknownVersion version) = codes "header version " ++ decimal version
why_text (BadParity sum) = codes "parity 0x" ++ hex 8 sum
why_text (Compressed compression) = codes "compression " ++ decimal compression
why_text (Encrypted size) = codes "key size " ++ decimal size
why_text UnknownArch = codes "unknown architecture"
why_text (BadBlock block) = codes "block " ++ decimal block
why_text (LengthDiffers len extent) = codes "length " ++ (decimal len ++ (codes " extent " ++ decimal extent))
why_text (BadExtent extent) = codes "extent " ++ decimal extent
why_text (Disagree place) = codes "headers differ at " ++ decimal place
