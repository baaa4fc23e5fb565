-- Numbers in turn, where 0 follows 65535.
use Rattle.std.proofs.Common.{◌≡◌, inl, inr, ℕ, ◌+◌, ◌-◌, ◌%◌, ◌<◌, false, List, Option, None, Result, Ok, Err, IfOk, sym, ◌∙◌, ap, subst, arith}
use Rattle.std.proofs.lemmas.Bool.{cases_lt}
use Rattle.fd_site.specs.Contents.{Contents, Told, file_of}
use Rattle.fd_info.specs.Name.{bounds_name}
use Rattle.fd_save.specs.Number.{AllTaken, IsFirstFreeOrNone, IsNumberOf, is_free, number_in}

-- where each number in turn is taken, all are
pub all_taken : (files : List ℕ → Option (List ℕ)) (from : ℕ) → from < 65536 → ((earlier : ℕ) → earlier < 65536 → is_free files ((from + earlier) % 65536) ≡ false) → AllTaken files
all_taken files from small taken number below = elim (cases_lt number from) [
  | inl before ↦
      let place : (from + (number + 65536 - from)) % 65536 ≡ number = omega arith in
      ap (is_free files) (sym place) ∙ taken (number + 65536 - from) (omega arith)
  | inr behind ↦
      let place : (from + (number - from)) % 65536 ≡ number = omega arith in
      ap (is_free files) (sym place) ∙ taken (number - from) (omega arith)
]

-- without a maximum, the first free number from what bounds has is the next
pub numbered : {E : Type 0} (r : Result (Option ℕ) E) (old mid : Option Contents) (max : Option ℕ) (from : ℕ) → max ≡ None → mid ≡ old
    → Told old (λ c. from ≡ number_in (file_of c bounds_name)) → IfOk r (λ n. Told mid (λ c. IsFirstFreeOrNone (file_of c) from n))
    → IfOk r (λ n. Told old (λ c. IsNumberOf (file_of c) max n))
numbered (Ok n) old mid max from none same bounds first =
    λ c is. subst (λ m. IsNumberOf (file_of c) m n) (sym none) (subst (λ f. IsFirstFreeOrNone (file_of c) f n) (bounds c is) (first c (same ∙ is)))
numbered (Err e) old mid max from none same bounds first = tt
