-- The search for an architecture, one step at a time.
use Rattle.std.proofs.Common.{◌≡◌, ℕ, zero, suc, ◌+◌, ◌<◌, Bool, true, false, ◌==◌, ◌&&◌, cond, List, [], ◌∷◌, length, get_or, drop, Some, refl, sym, ◌∙◌, ap, add-one, arith}
use Rattle.std.proofs.lemmas.Bool.Decides.{nat_tests}
use Rattle.std.specs.List.{find}
use Rattle.std.specs.Str.{bytes_eq}
use Rattle.fd_bytes.specs.Arch.{has_header, header_version_of, name_of}
use Rattle.fd_bytes.specs.declared.arch.Arch.{Arch}

-- what is found from a place on is found behind it, where the element there isn't what is sought
pub find-drop : {X : Type 0} (p : X → Bool) (xs : List X) (i : ℕ) (d : X) → i < length xs → p (get_or xs i d) ≡ false → find p (drop (i + 1) xs) ≡ find p (drop i xs)
find-drop p xs i d below other = rw add-one (from p xs i d below other)
  where
    from : {X : Type 0} (p : X → Bool) (xs : List X) (i : ℕ) (d : X) → i < length xs → p (get_or xs i d) ≡ false → find p (drop (suc i) xs) ≡ find p (drop i xs)
    from p [] i d below other = absurd (omega arith)
    from p (x ∷ xs) zero d below other = sym (ap (λ t. cond t (Some x) (find p xs)) other)
    from p (x ∷ xs) (suc i) d below other = from p xs i d (omega arith) other

-- a header with another name or another version isn't the architecture's
pub has_header-name : (name shown : List ℕ) (version : ℕ) (arch : Arch) → shown ≡ name_of arch → bytes_eq shown name ≡ false → has_header name version arch ≡ false
has_header-name name shown version arch is other =
    ap (λ t. t && (header_version_of arch == version)) (ap (λ (l : List ℕ). bytes_eq l name) (sym is) ∙ other)

pub has_header-version : (name : List ℕ) (version shown : ℕ) (arch : Arch) → shown ≡ header_version_of arch → (shown ≡ version → ⊥) → has_header name version arch ≡ false
has_header-version name version shown arch is other =
    let test : (header_version_of arch == version) ≡ false = grind (arith, nat_tests) in
    last (bytes_eq (name_of arch) name) (header_version_of arch == version) test
  where
    last : (a b : Bool) → b ≡ false → (a && b) ≡ false
    last true b none = none
    last false b none = refl
