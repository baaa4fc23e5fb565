-- What the datagram of a chunk contains.
use Rattle.std.proofs.Common.{◌≡◌, ℕ, ◌+◌, ◌-◌, ◌*◌, ◌<◌, Bool, true, false, cond, ◌==◌, nat_lt, List, take, drop, slice_range, ◌∙◌, ap, arith}
use Rattle.std.proofs.lemmas.Bool.Decides.{nat_tests}
use Rattle.fd_kdh.specs.declared.header.Header.{Header}
use Rattle.fd_netmsg.specs.Message.{plain_message, vmcore}
use Rattle.fd_netclient.specs.Datagram.{chunk_at, chunks, content}

taken : {A : Type 0} (b : Bool) (x y : A) → b ≡ true → cond b x y ≡ x
taken b x y is = ap (λ v. cond v x y) is

passed : {A : Type 0} (b : Bool) (x y : A) → b ≡ false → cond b x y ≡ y
passed b x y is = ap (λ v. cond v x y) is

pub content-chunk : (dump : List ℕ) (h : Header) (s : ℕ) → (s ≡ 1 → ⊥) → s < chunks dump + 2
    → content dump h s ≡ plain_message vmcore s (4096 * (s - 2)) (chunk_at dump (4096 * (s - 2)))
content-chunk dump h s other low = passed (s == 1) _ _ (grind (arith, nat_tests)) ∙ taken (nat_lt s (chunks dump + 2)) _ _ (grind (arith, nat_tests))

-- 4096 bytes from a place on are the chunk at it
pub range-chunk : (dump : List ℕ) (at : ℕ) → slice_range dump at (at + 4096) ≡ chunk_at dump at
range-chunk dump at = let size : (at + 4096) - at ≡ 4096 = omega arith in ap (λ n. take n (drop at dump)) size
