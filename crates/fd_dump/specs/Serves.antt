-- What code that is generic in the entries of page tables knows of them. No public clause cites this.
use Rattle.std.specs.Prelude.{◌≡◌, ℕ}
use Rattle.fd_image.specs.Image.{MachineImage, levels_of}
use Rattle.fd_pte.specs.declared.entry.Kind.{Kind}
use Rattle.fd_pte.specs.Architecture.{kind_of, directory_height_of, expansion_of}

-- the entries and the levels are those of an image
pub record Serves (kind : ℕ → ℕ → Kind) (height : ℕ) (expansion : ℕ → ℕ → ℕ → ℕ) (levels : ℕ) (m : MachineImage) : Type 0 where
  pub kinds : kind ≡ kind_of m.arch
  pub heights : height ≡ directory_height_of m.arch
  pub expansions : expansion ≡ expansion_of m.arch
  pub level_count : levels ≡ levels_of m
