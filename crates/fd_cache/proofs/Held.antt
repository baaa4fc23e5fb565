-- Pages that are held stay the file's.
use Rattle.std.proofs.Common.{◌≡◌, ◌+◌, ℕ, Bool, List, [], Option, Some, None, Result, Ok, Err, Contains, IfSome, OnOk, OnErr, nat_eq, slice_range, sym, subst, inl, inr}
use Rattle.std.proofs.lemmas.Bool.{eqb-true}
use Rattle.std.specs.Map.{lookup}
use Rattle.lru.specs.LruCache.{LruCache, lru_cache, promoted, put_entries}
use Rattle.lru.proofs.Splits.{Contains-nil}
use Rattle.lru.proofs.CallerLemmas.{Contains-lookup, Contains-promoted, Contains-put_entries}
use Rattle.fd_cache.specs.Pages.{HoldsPagesOf}

-- no page is held
pub holds_none : (file : List ℕ) → HoldsPagesOf [] file
holds_none file at page on = absurd (Contains-nil (at, page) on)

-- where a file is there, what two facts say of it
pub of_both : {X : Type 0} (o : Option X) (P Q R : X → Type 0) → ((x : X) → P x → Q x → R x) → IfSome o P → IfSome o Q → IfSome o R
of_both None P Q R f p q = tt
of_both (Some x) P Q R f p q = f x p q

pub of_one : {X : Type 0} (o : Option X) (P R : X → Type 0) → ((x : X) → P x → R x) → IfSome o P → IfSome o R
of_one None P R f p = tt
of_one (Some x) P R f p = f x p

-- the page that a look-up finds is the file's
pub found_page : (pages : List (ℕ × List ℕ)) (file : List ℕ) (at : ℕ) (page : List ℕ) → lookup (nat_eq at) pages ≡ Some page → HoldsPagesOf pages file → page ≡ slice_range file at (at + 4096)
found_page pages file at page found held =
    let on = Contains-lookup (nat_eq at) pages page found in
    held at page (subst (λ k. Contains pages (k, page)) (sym (eqb-true at on.0 on.2)) on.1)

pub held_promoted : (test : ℕ → Bool) (pages : List (ℕ × List ℕ)) (file : List ℕ) → HoldsPagesOf pages file → HoldsPagesOf (promoted test pages) file
held_promoted test pages file held at page on = held at page (Contains-promoted test pages (at, page) on)

held_put : (c : LruCache ℕ (List ℕ)) (k : ℕ) (v file : List ℕ) → HoldsPagesOf c.entries file → v ≡ slice_range file k (k + 4096) → HoldsPagesOf (put_entries nat_eq c k v) file
held_put c k v file held is at page on = elim (Contains-put_entries nat_eq c k v (at, page) on) [
  | inl was ↦ held at page was
  | inr put ↦ at_place put.0 (elim put.1 [ inl e ↦ e | inr w ↦ sym (eqb-true k at w.2) ])
]
  where
    at_place : page ≡ v → at ≡ k → page ≡ slice_range file at (at + 4096)
    at_place e f = rw (e, f) is

-- whether there was memory to keep the page or not
pub held_after_put : {T E : Type 0} (r : Result T E) (old new : LruCache ℕ (List ℕ)) (k : ℕ) (v file : List ℕ)
    → OnOk r (new ≡ lru_cache (put_entries nat_eq old k v) old.cap) → OnErr r (new ≡ old)
    → HoldsPagesOf old.entries file → v ≡ slice_range file k (k + 4096) → HoldsPagesOf new.entries file
held_after_put (Ok x) old new k v file put err held is = subst (λ (m : LruCache ℕ (List ℕ)). HoldsPagesOf m.entries file) (sym put) (held_put old k v file held is)
held_after_put (Err x) old new k v file put err held is = subst (λ (m : LruCache ℕ (List ℕ)). HoldsPagesOf m.entries file) (sym err) held
