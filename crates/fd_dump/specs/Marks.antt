-- How the bitmap of the dumped pages is made: the bits of more and more pages are set. No public clause cites these.
use Rattle.std.specs.Prelude.{◌≡◌, ℕ, ◌*◌, ◌^◌, ◌≤◌, Bool, ◌&&◌, List, length}
use Rattle.fd_image.specs.Image.{MachineImage, direct_map_end}
use Rattle.fd_image.specs.declared.parts.Windows.{Windows}
use Rattle.fd_pte.specs.declared.entry.Kind.{Kind}
use Rattle.fd_bitmap.specs.Pages.{joined}
use Rattle.fd_dump.specs.Dumped.{is_reached}
use Rattle.fd_dump.specs.Serves.{Serves}

-- the direct map reaches the page of a number, and its address passes a test
abbrev pub is_markable : Windows → (ℕ → Bool) → ℕ → Bool
is_markable w test page = is_reached w (page * 4096) && test (page * 4096)

-- the bits of pages, with those set besides whose pages do so
unfoldable pub marked : Windows → (ℕ → Bool) → (pages : List ℕ) → List Bool → List Bool
marked w test pages bits = joined (is_markable w test) pages bits

-- what the tables of an image are walked with to mark its pages: their entries and levels, the image's windows, of which the
-- direct map reaches no address past 2^56, and a bit for each page
pub record IsMarking (kind : ℕ → ℕ → Kind) (height : ℕ) (expansion : ℕ → ℕ → ℕ → ℕ) (levels : ℕ) (m : MachineImage) (w : Windows) (pages : List ℕ) (map : List Bool) : Type 0 where
  pub serves : Serves kind height expansion levels m
  pub windows : w ≡ m.windows
  pub low : direct_map_end w ≤ 2 ^ 56
  pub bits : length map ≡ length pages
