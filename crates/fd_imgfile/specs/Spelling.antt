-- The file of a machine image. The format is this project's own; all numbers are little-endian.
use Rattle.std.specs.Prelude.{ℕ, ◌^◌, ◌<◌, Bool, if◌then◌else◌, IsTrue, All, List, ◌++◌, length, map, codes}
use Rattle.std.specs.Int.{w32, w64, to_le_bytes}
use Rattle.std.specs.List.{concat, flat_map}
use Rattle.fd_bytes.specs.declared.arch.Arch.{Arch}
use Rattle.fd_bytes.specs.declared.arch.Arch.TheVariants.{Amd64, Arm64, Riscv}
use Rattle.fd_image.specs.declared.parts.Seg.{Seg}
use Rattle.fd_image.specs.declared.parts.Texts.{Texts}
use Rattle.fd_image.specs.declared.parts.Windows.{Windows}
use Rattle.fd_image.specs.Image.{MachineImage, is_known_paging}

abbrev pub u32 : ℕ → List ℕ
u32 n = to_le_bytes w32 n

abbrev pub u64 : ℕ → List ℕ
u64 n = to_le_bytes w64 n

-- the first 16 bytes
abbrev pub magic : List ℕ
magic = codes "FD MACHINE IMAGE"

-- how the file numbers the architectures, of which RISC-V has a number of its own where it has Sv48
abbrev pub number_of : Arch → Bool → ℕ
number_of Amd64 sv48 = 1
number_of Arm64 sv48 = 2
number_of Riscv sv48 = if sv48 then 4 else 3

-- how many segments, pairs of available memory and wanted pages there are
abbrev pub counts_of : MachineImage → List ℕ
counts_of m = u32 (length m.segs) ++ u32 (length m.avail) ++ u32 (length m.wanted)

-- how many bytes the host name, the version, the panic message and the message buffer have
abbrev pub lengths_of : Texts → List ℕ
lengths_of t = u32 (length t.host) ++ u32 (length t.version) ++ u32 (length t.panic) ++ u32 (length t.msgbuf)

abbrev pub windows_of : Windows → List ℕ
windows_of w = u64 w.kernbase ++ u64 w.kernspan ++ u64 w.dmapbase ++ u64 w.dmapend ++ u64 w.dmapphys

-- the 112 bytes of the fields: magic, version 1, architecture, counts, lengths, a zero, root, windows, time
abbrev pub front_of : MachineImage → List ℕ
front_of m =
    magic ++ u32 1 ++ u32 (number_of m.arch m.sv48) ++ counts_of m ++ lengths_of m.texts ++ u32 0 ++ u64 m.root ++ windows_of m.windows ++ u64 m.texts.time

-- two numbers, one after the other
abbrev pub pair_bytes : ℕ → ℕ → List ℕ
pair_bytes a b = u64 a ++ u64 b

abbrev pub seg_bytes : Seg → List ℕ
seg_bytes seg = pair_bytes seg.start (length seg.bytes)

abbrev pub avail_bytes : ℕ × ℕ → List ℕ
avail_bytes pair = pair_bytes pair.0 pair.1

-- the tables: each segment's start and length, each pair's start and end, each wanted page
abbrev pub tables_of : MachineImage → List ℕ
tables_of m = flat_map seg_bytes m.segs ++ flat_map avail_bytes m.avail ++ flat_map u64 m.wanted

-- the texts, without fill
abbrev pub texts_of : Texts → List ℕ
texts_of t = t.host ++ t.version ++ t.panic ++ t.msgbuf

-- the segments' bytes, in order
abbrev pub memory_of : MachineImage → List ℕ
memory_of m = concat (map (λ seg. seg.bytes) m.segs)

-- the file of an image
unfoldable pub spelling_of : MachineImage → List ℕ
spelling_of m = front_of m ++ tables_of m ++ texts_of m.texts ++ memory_of m

-- the counts and the lengths fit their fields, and the architecture has a number of its own
pub record FitsFields (m : MachineImage) : Type 0 where
  pub counts : (length m.segs < 2 ^ 32) × (length m.avail < 2 ^ 32) × (length m.wanted < 2 ^ 32)
  pub names : (length m.texts.host < 2 ^ 32) × (length m.texts.version < 2 ^ 32) × (length m.texts.panic < 2 ^ 32)
  pub msgbuf : length m.texts.msgbuf < 2 ^ 32
  pub sizes : All (λ seg. length seg.bytes < 2 ^ 64) m.segs
  pub paging : IsTrue (is_known_paging m.arch m.sv48)
