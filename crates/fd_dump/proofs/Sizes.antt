-- How many bytes the sections have.
use Rattle.std.proofs.Common.{◌≡◌, ◌∙◌, ℕ, zero, suc, ◌+◌, ◌-◌, ◌*◌, ◌%◌, ◌^◌, ◌<◌, ◌≤◌, Bool, List, [], ◌∷◌, ◌++◌, length, replicate, refl, ap, arith, length-append}
use Rattle.std.specs.Int.{w64, to_le_bytes, div_ceil}
use Rattle.std.specs.List.{flat_map, range_with_len}
use Rattle.std.proofs.lemmas.List.{length-replicate}
use Rattle.std.proofs.lemmas.List.FromFn.{length-map-range_with_len}
use Rattle.fd_walk.specs.PageTables.{PageTables}
use Rattle.fd_walk.specs.Directory.{DirectoryForm, directory_bytes, directory_entry}
use Rattle.fd_pte.specs.Entry.{bytes_under}
use Rattle.fd_mini.specs.Page as mini
use Rattle.fd_mini.proofs.Layouts.{length-page_of}
use Rattle.fd_mini.specs.Places.{rounded_up}
use Rattle.fd_image.specs.Image.{MachineImage, IsValid}
use Rattle.fd_bitmap.specs.Bits.{byte_at, set_count}
use Rattle.fd_bitmap.specs.Pages.{pages_of}
use Rattle.std.proofs.lemmas.List.{length-map}
use Rattle.std.proofs.lemmas.List.Sums.{count_by-le-length}
use Rattle.fd_dump.specs.Dumped.{tables_in, is_dumped, pages_with_bits, dumped_bits}
use Rattle.fd_dump.specs.Minidump.{filled, avail_bytes, bitmap_bytes, form_of, entry_count, directory_of, memory_of, mini_header_of, minidump_of}
use Rattle.fd_dump.proofs.Limits.{pages_few, small, window_divided}
use Rattle.fd_dump.proofs.DumpedPages.{length-memory_from}
use Rattle.fd_dump.proofs.Directory.{whole_of}

-- a filled section has its size, rounded up
pub length-filled : (bytes : List ℕ) → length (filled bytes) ≡ rounded_up (length bytes)
length-filled bytes = omega (arith, length-append bytes (replicate (rounded_up (length bytes) - length bytes) 0), length-replicate {A = ℕ} (rounded_up (length bytes) - length bytes) 0)

-- eight bytes an entry
entries_length : (entry : ℕ → ℕ) (first count : ℕ) → length (flat_map (λ unit. to_le_bytes w64 (entry unit)) (range_with_len first count)) ≡ 8 * count
entries_length entry first zero = refl
entries_length entry first (suc count) = omega (arith, entries_length entry (first + 1) count)

pub length-directory : (t : PageTables) (form : DirectoryForm) (first count : ℕ) → length (directory_bytes t form first count) ≡ 8 * count
unfolding directory_bytes
length-directory t form first count = entries_length (λ unit. directory_entry t form (first + unit * bytes_under form.height)) 0 count

-- sixteen bytes a pair, and sixteen more
pairs_length : (avail : List (ℕ × ℕ)) → length (flat_map (λ pair. to_le_bytes w64 pair.0 ++ to_le_bytes w64 pair.1) avail) ≡ 16 * length avail
pairs_length [] = refl
pairs_length (pair ∷ avail) = omega (arith, pairs_length avail)

pub length-avail : (avail : List (ℕ × ℕ)) → length (avail_bytes avail) ≡ 16 * length avail + 16
length-avail avail =
    length-append (flat_map (λ pair. to_le_bytes w64 pair.0 ++ to_le_bytes w64 pair.1) avail) (replicate 16 0) ∙ ap (λ n. n + 16) (pairs_length avail)

-- as many bytes as the bits take
pub length-bits : (m : MachineImage) → length (dumped_bits m) ≡ length (pages_of m.avail)
length-bits m = length-map (pages_with_bits m) (is_dumped m) ∙ length-map (pages_of m.avail) (λ page. page * 4096)

pub length-bitmap : (bits : List Bool) → length (bitmap_bytes bits) ≡ div_ceil (length bits) 8
length-bitmap bits = length-map-range_with_len (byte_at bits) 0 (div_ceil (length bits) 8)

-- the dumped pages are whole, and at most 2^28
pub length-memory : (m : MachineImage) → IsValid m → length (memory_of m) ≡ 4096 * set_count (dumped_bits m)
length-memory m valid = length-memory_from m valid (pages_with_bits m)

pub dumped_few : (m : MachineImage) → IsValid m → set_count (dumped_bits m) ≤ 2 ^ 28
dumped_few m valid = omega (arith, count_by-le-length (λ bit. bit) (dumped_bits m), length-bits m, pages_few m valid)

-- the sizes of the six sections
six_lengths : (a b c d e f : List ℕ) (header msgbuf avail bitmap directory : ℕ)
    → length a ≡ header → length b ≡ msgbuf → length c ≡ avail → length d ≡ bitmap → length e ≡ directory
    → length (a ++ b ++ c ++ d ++ e ++ f) ≡ header + msgbuf + avail + bitmap + directory + length f
six_lengths a b c d e f header msgbuf avail bitmap directory is_a is_b is_c is_d is_e = simp length-append (omega arith)

length-minidump : (m : MachineImage) → length (minidump_of m)
    ≡ 4096 + rounded_up (length m.texts.msgbuf) + rounded_up (16 * length m.avail + 16) + rounded_up (div_ceil (length (pages_of m.avail)) 8) + 8 * entry_count m + length (memory_of m)
unfolding minidump_of
length-minidump m =
    six_lengths (mini.page_of (mini_header_of m)) (filled m.texts.msgbuf) (filled (avail_bytes m.avail)) (filled (bitmap_bytes (dumped_bits m))) (directory_of m) (memory_of m) 4096
    (rounded_up (length m.texts.msgbuf)) (rounded_up (16 * length m.avail + 16)) (rounded_up (div_ceil (length (pages_of m.avail)) 8)) (8 * entry_count m)
    (length-page_of (mini_header_of m))
    (length-filled m.texts.msgbuf)
    (length-filled (avail_bytes m.avail) ∙ ap rounded_up (length-avail m.avail))
    (length-filled (bitmap_bytes (dumped_bits m)) ∙ ap rounded_up (length-bitmap (dumped_bits m) ∙ ap (λ n. div_ceil n 8) (length-bits m)))
    (length-directory (tables_in m) (form_of m) m.windows.kernbase (entry_count m))

pub minidump_pages : (m : MachineImage) → IsValid m → length (minidump_of m) % 4096 ≡ 0
minidump_pages m valid =
    omega (arith, length-minidump m, whole_of m.arch m.windows (window_divided m valid), length-memory m valid)

pub minidump_some : (m : MachineImage) → IsValid m → 0 < length (minidump_of m)
minidump_some m valid = omega (arith, length-minidump m)

pub minidump_small : (m : MachineImage) → IsValid m → length (minidump_of m) ≤ 2 ^ 62
minidump_small m valid =
    let limits = small m valid in
    let window = window_divided m valid in
    omega (arith, length-minidump m, pages_few m valid, length-memory m valid, dumped_few m valid)

pub ruleset lengths = (length-avail, length-bits)
