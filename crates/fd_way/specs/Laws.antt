-- What a drill comes to over a partition that was clear.
use Rattle.std.specs.Prelude.{◌≡◌, ℕ, ◌+◌, ◌/◌, ◌<◌, ◌≤◌, List, length, Result, Ok}
use Rattle.fd_site.specs.Contents.{Contents}
use Rattle.fd_site.specs.Journal.{Entry}
use Rattle.fd_image.specs.Image.{MachineImage}
use Rattle.fd_kdh.specs.Header.{dump_header}
use Rattle.fd_dump.specs.Header.{header_of}
use Rattle.fd_dump.specs.KernelRead.{kernel_read}
use Rattle.fd_dump.specs.Minidump.{minidump_of}
use Rattle.fd_judge.specs.Crash.{IsRefused, IsThisDump}
use Rattle.fd_info.specs.Saved.{IsSaved}
use Rattle.fd_save.specs.Laws.{then_adds}
use Rattle.fd_save.specs.Saving.{device_name, parity_of}
use Rattle.fd_mini.specs.Kernel.{KernelBytes}
use Rattle.fd_vmcore.specs.declared.open.OpenFault.{OpenFault}
use Rattle.fd_way.specs.Drill.{Drill, Outcome, Refused, Saved}

-- how many of the first sectors of an image's dump make one that is found: its body, its leading block, and its trailing
-- header
abbrev pub sectors_needed : MachineImage → (block : ℕ) → ℕ
sectors_needed m block = length (minidump_of m) / 512 + block / 512 + 1

-- a partition holds exactly the image's dump, or is refused, by how many sectors were written
pub record IsDecided (m : MachineImage) (block stop : ℕ) (part : List ℕ) : Type 0 where
  pub found : sectors_needed m block ≤ stop → IsThisDump (minidump_of m) (header_of m block) block part
  pub refused : stop < sectors_needed m block → IsRefused block part

-- enough sectors were written; what was saved is the image's minidump, and what was read of it are the image's bytes
pub record SavesImage (d : Drill) (block : ℕ) (was : Contents) (number len : ℕ) (given : Result KernelBytes OpenFault) (added : List Entry) : Type 0 where
  pub enough : sectors_needed d.image block ≤ d.stop
  pub length_is : len ≡ length (minidump_of d.image)
  pub files : IsSaved (then_adds was added) number (minidump_of d.image) (header_of d.image block) device_name (parity_of (dump_header (header_of d.image block)))
  pub read : given ≡ Ok (kernel_read d.image d.va d.count)

-- how a drill ends over a clear partition
abbrev pub EndsOverClear : Drill → (block : ℕ) → (was : Contents) → Outcome → (added : List Entry) → Type 0
EndsOverClear d block was (Refused why) added = d.stop < sectors_needed d.image block
EndsOverClear d block was (Saved number len given) added = SavesImage d block was number len given added
