-- What `read` prints of the minidump of a machine image.
use Rattle.std.specs.Prelude.{◌≡◌, ℕ, List, Some}
use Rattle.fd_site.specs.Contents.{Told, file_of}
use Rattle.fd_image.specs.Image.{MachineImage, IsValid}
use Rattle.fd_dump.specs.KernelRead.{kernel_read}
use Rattle.fd_dump.specs.Minidump.{minidump_of}
use Rattle.fd_site.specs.Seen.{Seen}
use Rattle.fd_cli.specs.Row.{Row}
use Rattle.fd_cli.specs.Rows.Common.{AddsNothing, Answers, SaysNothing, the_site}
use Rattle.fd_cli.specs.Rows.Read.{bytes_answer}

-- the row of a read that has the image's bytes, or the fault of its first address that has none
abbrev pub image_read_row : MachineImage → (va count : ℕ) → Row
image_read_row m va count = record {
  Does = λ found w. Answers (bytes_answer va (kernel_read m va count)) w;
  Leaves = AddsNothing;
  Starves = AddsNothing;
  Says = SaysNothing;
  blames = the_site;
}

-- P of each valid image whose minidump this file is
abbrev pub OfImage : Seen → (name : List ℕ) → (MachineImage → Type 0) → Type 0
OfImage found name P = Told found.told (λ c. (m : MachineImage) → IsValid m → file_of c name ≡ Some (minidump_of m) → P m)
