-- Errors that are handed on.
use Rattle.std.proofs.Common.{◌≡◌, Result, Ok, Err, sym, subst}
use Rattle.std.specs.Result.{IsErrAnd}

-- what holds of an error holds of an answer that is it
pub by_error : {A E : Type 0} (result : Result A E) (fault : E) (P : Result A E → Type 0) → IsErrAnd result (λ e. e ≡ fault) → P (Err fault) → P result
by_error (Ok a) fault P is p = absurd is
by_error {A = A} {E = E} (Err e) fault P is p = subst (λ (x : E). P (Err x)) (sym is) p
