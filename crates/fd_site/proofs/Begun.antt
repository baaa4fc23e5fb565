-- Planned entries, of which the first were added.
use Rattle.std.proofs.Common.{◌≡◌, inl, inr, List, [], ◌∷◌, ◌++◌, refl}
use Rattle.fd_site.specs.Begun.{IsBegun}
use Rattle.fd_site.specs.Journal.{Entry}

-- all of them
pub IsBegun-whole : (planned : List Entry) → IsBegun planned planned
IsBegun-whole [] = tt
IsBegun-whole (p ∷ planned) = inl (refl, IsBegun-whole planned)

-- what was begun of a plan was begun of a longer one
pub IsBegun-within : (planned more added : List Entry) → IsBegun planned added → IsBegun (planned ++ more) added
IsBegun-within planned more [] begun = tt
IsBegun-within [] more (e ∷ es) begun = absurd begun
IsBegun-within (p ∷ planned) more (e ∷ es) (inl (same, begun)) = inl (same, IsBegun-within planned more es begun)
IsBegun-within (p ∷ planned) more (e ∷ es) (inr failed) = inr failed

-- what was begun behind entries that were all added
pub IsBegun-behind : (done planned added : List Entry) → IsBegun planned added → IsBegun (done ++ planned) (done ++ added)
IsBegun-behind [] planned added begun = begun
IsBegun-behind (d ∷ done) planned added begun = inl (refl, IsBegun-behind done planned added begun)
