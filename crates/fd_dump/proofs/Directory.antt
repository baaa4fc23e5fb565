-- The page directory, page by page.
use Rattle.std.proofs.Common.{◌≡◌, ◌∙◌, ℕ, ◌+◌, ◌*◌, ◌/◌, ◌%◌, ◌^◌, ◌<◌, ◌≤◌, List, refl, ap, arith}
use Rattle.std.specs.Int.{w64, to_le_bytes}
use Rattle.fd_bytes.specs.declared.arch.Arch.{Arch}
use Rattle.fd_bytes.specs.declared.arch.Arch.TheVariants.{Amd64, Arm64, Riscv}
use Rattle.fd_image.specs.declared.parts.Windows.{Windows}
use Rattle.fd_image.specs.Image.{MachineImage, IsValid}
use Rattle.fd_pte.specs.Architecture.{directory_height_of}
use Rattle.fd_pte.specs.Entry.{bytes_under}
use Rattle.fd_walk.specs.PageTables.{PageTables}
use Rattle.fd_walk.specs.Directory.{DirectoryForm, directory_bytes, directory_entry}
use Rattle.fd_dump.specs.Dumped.{tables_in}
use Rattle.fd_dump.specs.Minidump.{form_of, entry_count, directory_of}
use Rattle.fd_dump.specs.Sections.{nth_page, page_span, directory_page_of}
use Rattle.fd_dump.proofs.Limits.{IsDivided, window_divided}
use Rattle.fd_dump.proofs.Made.{made_of, made-shifted, page-made}

-- the bytes of the entry for a unit
abbrev entry : PageTables → DirectoryForm → (first unit : ℕ) → List ℕ
entry t form first unit = to_le_bytes w64 (directory_entry t form (first + unit * bytes_under form.height))

-- all pages have all entries
pub whole_of : (arch : Arch) (w : Windows) → IsDivided arch w → 512 * (w.kernspan / page_span arch) ≡ w.kernspan / bytes_under (directory_height_of arch)
whole_of Amd64 w divided = omega arith
whole_of Arm64 w divided = omega arith
whole_of Riscv w divided = omega arith

-- a page of it
pub directory-page : (m : MachineImage) (index : ℕ) → IsValid m → index < m.windows.kernspan / page_span m.arch → nth_page (directory_of m) index ≡ directory_page_of m index
unfolding directory_bytes
directory-page m index valid below =
    let t = tables_in m in
    let form = form_of m in
    let first = m.windows.kernbase in
    let none : 512 * index ≡ 512 * index + 0 = omega arith in
    page-made (entry t form first) 8 512 (entry_count m) index (λ n. refl) refl (omega arith) (omega (arith, whole_of m.arch m.windows (window_divided m valid)))
    ∙ ap (λ n. made_of (entry t form first) n 512) none
    ∙ made-shifted (entry t form first) (entry t form (first + index * page_span m.arch)) (512 * index) 0 512
    (λ n. ap (λ va. to_le_bytes w64 (directory_entry t form va)) (omega arith))

-- a page ends where the window does or before
within : (arch : Arch) (w : Windows) (index : ℕ) → IsDivided arch w → index < w.kernspan / page_span arch → w.kernbase + (index + 1) * page_span arch ≤ 2 ^ 64
within Amd64 w index divided below = omega arith
within Arm64 w index divided below = omega arith
within Riscv w index divided below = omega arith

pub page_within : (m : MachineImage) (base height index : ℕ) → IsValid m → base ≡ m.windows.kernbase → height ≡ directory_height_of m.arch → index < m.windows.kernspan / page_span m.arch
    → base + (index + 1) * (512 * bytes_under height) ≤ 2 ^ 64
page_within m base height index valid is_base is_height below =
    rw (is_base, is_height) (within m.arch m.windows index (window_divided m valid) below)

-- the window begins with a whole page of the directory
pub page_begins : (m : MachineImage) (base height : ℕ) → IsValid m → base ≡ m.windows.kernbase → height ≡ directory_height_of m.arch → base % (512 * bytes_under height) ≡ 0
page_begins m base height valid is_base is_height = rw (is_base, is_height) ((window_divided m valid).base)
