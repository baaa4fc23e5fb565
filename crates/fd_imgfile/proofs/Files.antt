-- What follows for a file from what is known of it, where its site tells what it holds.
use Rattle.std.proofs.Common.{◌≡◌, ℕ, ◌≤◌, sym, subst, arith, List, length, Option, Some, None, IfSome, IsSomeAnd}
use Rattle.fd_site.specs.Contents.{Contents}
use Rattle.fd_imgfile.specs.File.{HasLength, IsFileAnd, OfFile}

of_some : (file : Option (List ℕ)) (P : List ℕ → Type 0) → IsSomeAnd file P → IfSome file P
of_some None P h = absurd h
of_some (Some f) P h = h

joined : (file : Option (List ℕ)) (P Q R : List ℕ → Type 0) → ((f : List ℕ) → P f → Q f → R f) → IsSomeAnd file P → IfSome file Q → IsSomeAnd file R
joined None P Q R step h k = h
joined (Some f) P Q R step h k = step f h k

pub OfFile-from_and : (told : Option Contents) (name : List ℕ) (P : List ℕ → Type 0) → IsFileAnd told name P → OfFile told name P
OfFile-from_and told name P known c is = of_some _ P (known c is)

-- what follows from the length
pub IsFileAnd-length : (told : Option Contents) (name : List ℕ) (len : ℕ) (P : List ℕ → Type 0) → HasLength told name len → ((f : List ℕ) → length f ≡ len → P f) → IsFileAnd told name P
IsFileAnd-length told name len P known step c is = mapped _ (known c is)
  where
    mapped : (file : Option (List ℕ)) → IsSomeAnd file (λ f. length f ≡ len) → IsSomeAnd file P
    mapped None h = h
    mapped (Some f) h = step f h

-- what follows from the length and one more fact
pub IsFileAnd-more : (told : Option Contents) (name : List ℕ) (len : ℕ) (P Q : List ℕ → Type 0) → HasLength told name len → OfFile told name P → ((f : List ℕ) → length f ≡ len → P f → Q f)
    → IsFileAnd told name Q
IsFileAnd-more told name len P Q known more step c is = joined _ (λ f. length f ≡ len) P Q step (known c is) (more c is)

-- two facts of the same file
pub OfFile-both : (told : Option Contents) (name : List ℕ) (P Q R : List ℕ → Type 0) → OfFile told name P → OfFile told name Q → ((f : List ℕ) → P f → Q f → R f) → OfFile told name R
OfFile-both told name P Q R first second step c is = both _ (first c is) (second c is)
  where
    both : (file : Option (List ℕ)) → IfSome file P → IfSome file Q → IfSome file R
    both None h k = h
    both (Some f) h k = step f h k

-- what lies in a longer part of the file lies in the file
pub IsFileAnd-inside : (told now : Option Contents) (name : List ℕ) (end whole : ℕ) → IsFileAnd told name (λ f. whole ≤ length f) → end ≤ whole → now ≡ told → IsFileAnd now name (λ f. end ≤ length f)
IsFileAnd-inside told now name end whole known within same =
    subst (λ (t : Option Contents). IsFileAnd t name (λ f. end ≤ length f)) (sym same) (λ c is. shorter _ (known c is))
  where
    shorter : (file : Option (List ℕ)) → IsSomeAnd file (λ f. whole ≤ length f) → IsSomeAnd file (λ f. end ≤ length f)
    shorter None h = h
    shorter (Some f) h = omega (arith, within)
