-- A file whose last entry in a part of a journal is a sync, in cuts behind that part.
use Rattle.std.proofs.Common.{◌≡◌, ℕ, zero, suc, ◌-◌, ◌≤◌, Bool, true, not, List, [], ◌∷◌, ◌++◌, length, take, drop, Option, sym, ◌∙◌, ap, arith, append_assoc}
use Rattle.std.proofs.lemmas.Bool.{and_from}
use Rattle.fd_site.specs.Journal.{Entry, file_after, stable_after}
use Rattle.fd_site.specs.Cut.{stable_at, is_on_first}
use Rattle.fd_site.proofs.Told.{file_after-append, stable_after-append}
use Rattle.fd_netserver.proofs.Apart.{NoneOn, NoneOn-take, first_none, file_after-none, stable_after-none}

take_behind : (es fs : List Entry) (k : ℕ) → length es ≤ k → take k (es ++ fs) ≡ es ++ take (k - length es) fs
take_behind [] fs k within = ap (λ n. take n fs) (omega arith)
take_behind (e ∷ es) fs zero within = absurd (omega arith)
take_behind (e ∷ es) fs (suc k) within = ap (λ l. e ∷ l) (take_behind es fs k (omega arith) ∙ ap (λ n. es ++ take n fs) (omega arith))

drop_behind : (es fs : List Entry) (k : ℕ) → length es ≤ k → drop k (es ++ fs) ≡ drop (k - length es) fs
drop_behind [] fs k within = ap (λ n. drop n fs) (omega arith)
drop_behind (e ∷ es) fs zero within = absurd (omega arith)
drop_behind (e ∷ es) fs (suc k) within = drop_behind es fs k (omega arith) ∙ ap (λ n. drop n fs) (omega arith)

module _ (q : List ℕ) (front end later : List Entry) (k : ℕ) (behind : length (front ++ end) ≤ k) (none : NoneOn q later) where
  abbrev rest : ℕ
  rest = k - length (front ++ end)

  taken : take k (front ++ (end ++ later)) ≡ (front ++ end) ++ take rest later
  taken = ap (λ (l : List Entry). take k l) (sym (append_assoc front end later)) ∙ take_behind (front ++ end) later k behind

  dropped : drop k (front ++ (end ++ later)) ≡ drop rest later
  dropped = ap (λ (l : List Entry). drop k l) (sym (append_assoc front end later)) ∙ drop_behind (front ++ end) later k behind

  pub cut_stable : ((was : Bool) → stable_after q was end ≡ true) → stable_at q (front ++ (end ++ later)) k ≡ true
  cut_stable synced =
      and_from _ _
      (ap (stable_after q true) taken
      ∙ stable_after-append q true (front ++ end) (take rest later)
      ∙ stable_after-none q (stable_after q true (front ++ end)) (take rest later) (NoneOn-take q rest later none)
      ∙ stable_after-append q true front end
      ∙ synced (stable_after q true front))
      (ap (λ (l : List Entry). not (is_on_first q l)) dropped ∙ ap not (first_none q rest later none))

  pub cut_file : (was : Option (List ℕ)) → file_after q was (take k (front ++ (end ++ later))) ≡ file_after q (file_after q was front) end
  cut_file was =
      ap (file_after q was) taken
      ∙ file_after-append q was (front ++ end) (take rest later)
      ∙ file_after-none q (file_after q was (front ++ end)) (take rest later) (NoneOn-take q rest later none)
      ∙ file_after-append q was front end
