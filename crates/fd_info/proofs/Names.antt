-- The names of saved files can be names of files.
use Rattle.std.proofs.Common.{◌≡◌, ℕ, ◌<◌, ◌≤◌, ◌^◌, true, false, ◌&&◌, not, nat_le, List, length, codes, refl, arith, length-append}
use Rattle.std.proofs.lemmas.Bool.Decides.{nat_tests}
use Rattle.std.proofs.lemmas.Fmt.{length-decimal-le}
use Rattle.std.specs.Fmt.{decimal}
use Rattle.std.specs.List.{list_all}
use Rattle.std.specs.Str.{bytes_eq}
use Rattle.fd_site.specs.Name.{begins_well, is_good_name, is_name_byte}
use Rattle.fd_info.specs.Name.{info_name, vmcore_name}
use Rattle.fd_info.proofs.Digits.{decimal_passes}

is_digit_name_byte : (c : ℕ) → 48 ≤ c → c ≤ 57 → is_name_byte c ≡ true
is_digit_name_byte c low high = grind (arith, nat_tests)

digits_name : (n : ℕ) → n < 2 ^ 32 → list_all is_name_byte (decimal n) ≡ true
digits_name n small = decimal_passes is_name_byte n (omega arith) is_digit_name_byte

good_name : (name : List ℕ) → begins_well name ≡ true → length name ≤ 64 → list_all is_name_byte name ≡ true → bytes_eq name (codes "dumpdev") ≡ false
    → is_good_name name ≡ true
good_name name well short bytes other =
    let room : nat_le (length name) 64 ≡ true = grind (arith, nat_tests) in
    (λ i. well i && room i && bytes i && not (other i))

length-digits : (n : ℕ) → n < 2 ^ 32 → length (decimal n) ≤ 10
length-digits n small = length-decimal-le 10 n (omega arith) (omega arith) (omega arith)

pub good_vmcore_name : (n : ℕ) → n < 2 ^ 32 → is_good_name (vmcore_name n) ≡ true
good_vmcore_name n small =
    good_name (vmcore_name n) refl (omega (arith, length-digits n small, length-append (codes "vmcore.") (decimal n))) (digits_name n small) refl

pub good_info_name : (n : ℕ) → n < 2 ^ 32 → is_good_name (info_name n) ≡ true
good_info_name n small =
    good_name (info_name n) refl (omega (arith, length-digits n small, length-append (codes "info.") (decimal n))) (digits_name n small) refl
