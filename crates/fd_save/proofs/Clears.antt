-- Clearing after a look at the partition.
use Rattle.std.proofs.Common.{ℕ, List, Option, subst}
use Rattle.fd_site.specs.Contents.{Adds, Contents}
use Rattle.fd_site.specs.Journal.{Entry}
use Rattle.fd_site.specs.Seen.{Seen, Untouched}
use Rattle.fd_save.specs.Saving.{clearing}

-- what was cleared after reads alone was cleared from where they began
pub cleared_from : (P : List Entry → List Entry → Type 0) (sector : List ℕ) (old mid : Seen) (new : Option Contents) → Untouched old mid
    → Adds (P (clearing mid.size mid.block sector)) mid.told new → Adds (P (clearing old.size old.block sector)) old.told new
cleared_from P sector old mid new same adds =
    subst (λ t. Adds (P (clearing old.size old.block sector)) t new) same.told
    (subst (λ b. Adds (P (clearing old.size b sector)) mid.told new) same.block
    (subst (λ n. Adds (P (clearing n mid.block sector)) mid.told new) same.size adds))
