-- What a plan holds of a machine image, from which its minidump is made.
use Rattle.std.specs.Prelude.{◌≡◌, ◌^◌, ◌≤◌, ℕ, Bool, List}
use Rattle.fd_bitmap.specs.Bits.{set_count}
use Rattle.fd_bitmap.specs.Pages.{pages_of}
use Rattle.fd_bitmap.specs.Ranks.{IsIndexOf}
use Rattle.fd_image.specs.Image.{MachineImage, IsValid}
use Rattle.fd_mini.specs.Places.{places_of}
use Rattle.fd_mini.specs.declared.header.MiniHeader.{MiniHeader}
use Rattle.fd_dump.specs.Dumped.{dumped_bits}
use Rattle.fd_dump.specs.Minidump.{mini_header_of}

-- the fields of the header page, the pages that have a bit, each by its number, and for each whether it is dumped
pub record Planned : Type 0 where
  pub header : MiniHeader
  pub pages : List ℕ
  pub bits : List Bool

-- the plan is that of a valid image
pub record IsPlanOf (plan : Planned) (m : MachineImage) : Type 0 where
  pub valid : IsValid m
  pub header : plan.header ≡ mini_header_of m
  pub pages : plan.pages ≡ pages_of m.avail
  pub bits : plan.bits ≡ dumped_bits m

-- what is kept of a plan: its bits have an index of these counts, so many are set, and no size leaves 64 bits
pub record IsKept (header : MiniHeader) (bits : List Bool) (counts : List ℕ) (dumped : ℕ) : Type 0 where
  pub index : IsIndexOf bits counts
  pub count : dumped ≡ set_count bits
  pub few : dumped ≤ 2 ^ 28
  pub low : (places_of header).pages ≤ 2 ^ 35
