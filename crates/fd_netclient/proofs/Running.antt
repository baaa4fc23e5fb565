-- At the end of a batch the code goes on with the next one, as the machine does, or is done.
use Rattle.std.proofs.Common.{◌≡◌, ℕ, zero, suc, ◌+◌, List, [], ◌∷◌, slice_get, drop, Option, Some, None, refl, sym, ◌∙◌, ap, arith}
use Rattle.fd_netclient.specs.declared.client.Ending.{Ending}
use Rattle.fd_netclient.specs.declared.client.Ending.TheVariants.{Running, AllDone, OutAt}
use Rattle.fd_netclient.specs.Trace.{Patience, Done}
use Rattle.fd_netclient.specs.Machine.{State, Ended, Standing, polling}
use Rattle.fd_netclient.specs.Client.{state_by, settled, HasAll}

-- what is left of a list at a place, by what stands there
pub drop_none : {A : Type 0} (xs : List A) (i : ℕ) → slice_get xs i ≡ None → drop i xs ≡ []
drop_none [] zero none = refl
drop_none [] (suc i) none = refl
drop_none (x ∷ xs) zero none = absurd (cc)
drop_none (x ∷ xs) (suc i) none = drop_none xs i none

drop_next : {A : Type 0} (xs : List A) (i : ℕ) (x : A) → slice_get xs i ≡ Some x → drop i xs ≡ x ∷ drop (suc i) xs
drop_next [] zero x is = absurd (cc)
drop_next [] (suc i) x is = absurd (cc)
drop_next (y ∷ xs) zero x is = let same : y ≡ x = cc in ap (λ z. z ∷ xs) same
drop_next (y ∷ xs) (suc i) x is = drop_next xs i x is

pub drop_some : {A : Type 0} (xs : List A) (i : ℕ) (x : A) → slice_get xs i ≡ Some x → drop i xs ≡ x ∷ drop (i + 1) xs
drop_some xs i x is = let e : suc i ≡ i + 1 = omega arith in drop_next xs i x is ∙ ap (λ n. x ∷ drop n xs) e

abbrev pub standing : ℕ → Patience → State → Standing
standing count patience state = record { count = count; patience = patience; state = state }

module _ (patience : Patience) (session : Option ℕ) (unsent u : List ℕ) where
  -- after the last batch, and at the next one
  pub all_done : (ending : Ending) (polls rounds : ℕ) (later : List (List ℕ)) → HasAll (state_by ending session unsent u polls rounds later) → later ≡ []
      → Ended session Done ≡ settled patience (state_by ending session unsent u polls rounds later)
  all_done Running polls rounds later all none = sym ((λ i. polling patience session (all i) polls rounds (none i)))
  all_done AllDone polls rounds later all none = absurd all
  all_done (OutAt s) polls rounds later all none = absurd all

  pub batch_begun : (ending : Ending) (polls rounds : ℕ) (later further : List (List ℕ)) (next : List ℕ) → HasAll (state_by ending session unsent u polls rounds later) → later ≡ next ∷ further
      → state_by ending session next next patience.polls patience.retries further ≡ settled patience (state_by ending session unsent u polls rounds later)
  batch_begun Running polls rounds later further next all some = sym ((λ i. polling patience session (all i) polls rounds (some i)))
  batch_begun AllDone polls rounds later further next all some = absurd all
  batch_begun (OutAt s) polls rounds later further next all some = absurd all
