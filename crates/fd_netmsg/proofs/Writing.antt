-- A message's fields and its body, written one behind the other to the front of a buffer.
use Rattle.std.proofs.Common.{◌≡◌, ℕ, ◌+◌, ◌-◌, ◌≤◌, List, ◌++◌, length, take, drop, sym, ◌∙◌, ap, arith, length-append}
use Rattle.std.proofs.Math.Seq.{take-append_seam, take-append-add}
use Rattle.std.proofs.lemmas.Slice.{drop-put_mid, drop-append-drop}
use borrow.Rule.Slice.PartMut.{put_mid, post_of}

pub take-put : (fields body out : List ℕ) (size : ℕ) → length fields ≡ 24 → length body ≡ size
    → take (24 + size) (put_mid 24 (24 + size - 24) (fields ++ drop 24 out) body) ≡ fields ++ body
take-put fields body out size whole same =
    let rest : List ℕ = post_of 24 (24 + size - 24) (fields ++ drop 24 out) in
    ap (λ l. take (24 + size) (l ++ (body ++ rest))) (ap (λ n. take n (fields ++ drop 24 out)) (sym whole) ∙ take-append_seam fields (drop 24 out))
    ∙ ap (λ n. take (n + size) (fields ++ (body ++ rest))) (sym whole)
    ∙ take-append-add fields (body ++ rest) size
    ∙ ap (λ l. fields ++ l) (ap (λ n. take n (body ++ rest)) (sym same) ∙ take-append_seam body rest)

pub drop-put : (fields body out : List ℕ) (size : ℕ) → length fields ≡ 24 → length body ≡ size → 24 + size ≤ length out
    → drop (24 + size) (put_mid 24 (24 + size - 24) (fields ++ drop 24 out) body) ≡ drop (24 + size) out
drop-put fields body out size whole same fits =
    drop-put_mid 24 (24 + size - 24) (fields ++ drop 24 out) body (24 + size) (omega arith) (omega (arith, length-append fields (drop 24 out))) (omega arith)
    ∙ drop-append-drop 24 out fields (24 + size) (omega arith) whole
