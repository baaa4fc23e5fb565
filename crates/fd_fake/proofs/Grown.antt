-- A write past the end of a file.
use Rattle.std.proofs.Common.{◌≡◌, inl, inr, ℕ, ◌+◌, ◌-◌, ◌≤◌, List, ◌++◌, length, take, drop, replicate, sym, ◌∙◌, ap, arith}
use Rattle.std.proofs.lemmas.Bool.{cases_lt}
use Rattle.std.proofs.lemmas.List.{append-nil, drop-drop, take-append-le, take_all, drop_all, take-replicate, drop-replicate}
use Rattle.std.proofs.Math.Seq.{take-append-add, drop-append-add}
use Rattle.fd_site.specs.Journal.{file_written}

-- the start of a file with zeros at its end
pub take-grown : (file : List ℕ) (at end : ℕ) → at ≤ end → take at (file ++ replicate (end - length file) 0) ≡ take at file ++ replicate (at - length file) 0
take-grown file at end le =
    elim (cases_lt at (length file)) [
      | inl short ↦
          let none : at - length file ≡ 0 = omega arith in
          take-append-le at file (replicate (end - length file) 0) (omega arith) ∙ sym (append-nil (take at file)) ∙ ap (λ n. take at file ++ replicate n 0) (sym none)
      | inr long ↦
          let split : at ≡ length file + (at - length file) = omega arith in
          ap (λ n. take n (file ++ replicate (end - length file) 0)) split ∙ take-append-add file (replicate (end - length file) 0) (at - length file)
          ∙ ap (λ (l : List ℕ). file ++ l) (take-replicate (at - length file) (end - length file) 0 (omega arith))
          ∙ ap (λ (l : List ℕ). l ++ replicate (at - length file) 0) (sym (take_all at file long))
    ]

-- what lies behind the new end
pub drop-grown : (file : List ℕ) (end : ℕ) → drop end (file ++ replicate (end - length file) 0) ≡ drop end file
drop-grown file end =
    elim (cases_lt end (length file)) [
      | inl short ↦
          let none : end - length file ≡ 0 = omega arith in
          ap (λ n. drop end (file ++ replicate n 0)) none ∙ ap (λ (l : List ℕ). drop end l) (append-nil file)
      | inr long ↦
          let split : end ≡ length file + (end - length file) = omega arith in
          let none : end - length file - (end - length file) ≡ 0 = omega arith in
          ap (λ n. drop n (file ++ replicate (end - length file) 0)) split ∙ drop-append-add file (replicate (end - length file) 0) (end - length file)
          ∙ drop-replicate (end - length file) (end - length file) 0 ∙ ap (λ n. replicate n 0) none ∙ sym (drop_all end file long)
    ]

-- bytes that are put into a file which was grown to their end
pub overwrite_grown : (file grown new now : List ℕ) (at end : ℕ) → end ≡ at + length new → grown ≡ file ++ replicate (end - length file) 0
    → now ≡ take at grown ++ (new ++ drop (length new) (drop at grown)) → now ≡ file_written file at new
overwrite_grown file grown new now at end ends grows is =
    let start : take at grown ≡ take at file ++ replicate (at - length file) 0 = ap (λ (l : List ℕ). take at l) grows ∙ take-grown file at end (omega arith) in
    let rest : drop (length new) (drop at grown) ≡ drop (at + length new) file =
    drop-drop (length new) at grown ∙ ap (λ n. drop n grown) (sym ends) ∙ ap (λ (l : List ℕ). drop end l) grows ∙ drop-grown file end ∙ ap (λ n. drop n file) ends in
    is ∙ ap (λ (l : List ℕ). l ++ (new ++ drop (length new) (drop at grown))) start ∙ ap (λ (l : List ℕ). (take at file ++ replicate (at - length file) 0) ++ (new ++ l)) rest
