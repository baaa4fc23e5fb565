-- By whether a partition is good.
use Rattle.std.proofs.Common.{◌≡◌, ℕ, Bool, true, false, refl, sym, ◌∙◌}
use Rattle.std.specs.Bool.{OnTrue, OnFalse}
use Rattle.fd_site.specs.Seen.{Seen}
use Rattle.fd_part.specs.Partition.{is_good}
use Rattle.fd_cli.specs.Row.{Work}
use Rattle.fd_cli.specs.Rows.Common.{OnGood, Refuses}
use Rattle.fd_cli.specs.declared.refusal.Refusal.TheVariants.{Partition}

pub on_true : (A B : Type 0) (b : Bool) → b ≡ true → A → OnTrue b A × OnFalse b B
on_true A B true is a = (a, tt)
on_true A B false is a = absurd (cc)

pub on_false : (A B : Type 0) (b : Bool) → b ≡ false → B → OnTrue b A × OnFalse b B
on_false A B true is a = absurd (cc)
on_false A B false is a = (tt, a)

-- what follows from either
pub either : (b : Bool) (A B R : Type 0) → OnTrue b A × OnFalse b B → (b ≡ true → A → R) → (b ≡ false → B → R) → R
either true A B R both if_true if_false = if_true refl both.0
either false A B R both if_true if_false = if_false refl both.1

-- work over a good partition, and over one that isn't
pub over_good : (found : Seen) (P : Work → Type 0) (w : Work) → is_good found.size found.block ≡ true → P w → OnGood found P w
over_good found P w good is = on_true (P w) _ (is_good found.size found.block) good is

pub over_bad : (found : Seen) (P : Work → Type 0) (w : Work) → is_good found.size found.block ≡ false
    → Refuses (Partition (record { size = found.size; block = found.block })) w → OnGood found P w
over_bad found P w bad is = on_false (P w) _ (is_good found.size found.block) bad is

-- what a test of a partition's sizes found, of the partition
pub good_of : (size block size_is block_is : ℕ) (good found : Bool) → size_is ≡ size → block_is ≡ block → good ≡ is_good size_is block_is
    → good ≡ found → is_good size block ≡ found
good_of size block size_is block_is good found same_size same_block tested is =
    sym (λ i. is_good (same_size i) (same_block i)) ∙ sym tested ∙ is
