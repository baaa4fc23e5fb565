-- The page of an address in a segment of whole pages has 4096 bytes.
use Rattle.std.proofs.Common.{◌≡◌, ◌∙◌, ℕ, ◌+◌, ◌-◌, ◌%◌, ◌<◌, ◌≤◌, true, length, drop, arith, length-take, length-drop}
use Rattle.std.proofs.lemmas.Bool.Decides.{nat_tests}
use Rattle.fd_image.specs.Image.{is_whole_pages}
use Rattle.fd_image.specs.Physical.{has_address, page_in, page_start}
use Rattle.fd_image.specs.declared.parts.Seg.{Seg}

pub length-page_in : (seg : Seg) (pa : ℕ) → has_address pa seg ≡ true → is_whole_pages seg ≡ true → length (page_in seg pa) ≡ 4096
length-page_in seg pa has whole =
    let begins : seg.start ≤ pa = grind (arith, nat_tests) in
    let ends : pa < seg.start + length seg.bytes = grind (arith, nat_tests) in
    let aligned : seg.start % 4096 ≡ 0 = grind (arith, nat_tests) in
    let pages : length seg.bytes % 4096 ≡ 0 = grind (arith, nat_tests) in
    let at = page_start pa - seg.start in
    let room : at + 4096 ≤ length seg.bytes = omega arith in
    length-take (at + 4096 - at) (drop at seg.bytes) ∙ omega (arith, length-drop at seg.bytes)
