-- What is printed where something is refused, and the status that the program then ends with.
use Rattle.std.specs.Prelude.{ℕ, List, ◌++◌, codes, Option, Some, None}
use Rattle.std.specs.Fmt.{decimal}
use Rattle.fd_bytes.specs.Printed.{refused_line}
use Rattle.fd_imgfile.specs.Fault.{image_number, image_text}
use Rattle.fd_imgfile.specs.declared.fault.ImageFault.TheVariants as image
use Rattle.fd_mini.specs.AddressFault.{address_number, address_text}
use Rattle.fd_mini.specs.MiniFault.{mini_number, mini_text}
use Rattle.fd_part.specs.Printed.{bad_partition_number, bad_partition_text, no_room_number, no_room_text}
use Rattle.fd_judge.specs.Printed.{why_number, why_text}
use Rattle.fd_cli.specs.declared.refusal.Refusal.{Refusal}
use Rattle.fd_cli.specs.declared.refusal.Refusal.TheVariants.{Judged, Address, NoFile, NotImage, BadImage, NoRoom, Partition}
use Rattle.fd_cli.specs.declared.refusal.Refusal.TheVariants.{Mini, Short, BadAvail, NotCommand, NoNumber, NoAnswer, TurnsSpent}

abbrev pub number_of : Refusal → ℕ
number_of (Judged why) = why_number why
number_of (Address fault) = address_number fault
number_of (NoAnswer number) = 31
number_of NoFile = image_number image.NoFile
number_of (NotImage place) = image_number (image.NotImage place)
number_of (BadImage bad) = image_number (image.BadImage bad)
number_of (NoRoom room) = no_room_number
number_of (Partition bad) = bad_partition_number
number_of (Mini fault) = mini_number fault
number_of (Short need have) = 50
number_of (BadAvail index) = 51
number_of NotCommand = 60
number_of (TurnsSpent turns) = 61
number_of NoNumber = 62

abbrev pub text_of : Refusal → List ℕ
text_of (Judged why) = why_text why
text_of (Address fault) = address_text fault
text_of (NoAnswer number) = codes "no answer to " ++ decimal number
text_of NoFile = image_text image.NoFile
text_of (NotImage place) = image_text (image.NotImage place)
text_of (BadImage bad) = image_text (image.BadImage bad)
text_of (NoRoom room) = no_room_text room
text_of (Partition bad) = bad_partition_text bad
text_of (Mini fault) = mini_text fault
text_of (Short need have) = codes "short, needs " ++ (decimal need ++ (codes " of " ++ decimal have))
text_of (BadAvail index) = codes "range " ++ decimal index
text_of NotCommand = codes "not a command"
text_of (TurnsSpent turns) = codes "turns " ++ decimal turns
text_of NoNumber = codes "no number"

-- the refusal's line, without its newline
abbrev pub line_of : Refusal → List ℕ
line_of r = refused_line (number_of r) (text_of r)

-- the status that follows it, of sysexits(3) where it isn't 1
abbrev pub status_of : Refusal → ℕ
status_of (Judged why) = 1
status_of (Address fault) = 1
status_of (NoAnswer number) = 1
status_of NoFile = 65
status_of (NotImage place) = 65
status_of (BadImage bad) = 65
status_of (NoRoom room) = 65
status_of (Partition bad) = 65
status_of (Mini fault) = 65
status_of (Short need have) = 65
status_of (BadAvail index) = 65
status_of NotCommand = 64
status_of (TurnsSpent turns) = 69
status_of NoNumber = 69

-- the status after so many turns that were spent, or none
abbrev pub spent_status_of : Option ℕ → ℕ
spent_status_of None = 0
spent_status_of (Some turns) = status_of (TurnsSpent turns)
