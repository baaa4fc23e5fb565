-- The cuts of a call: those of what it added to the journal, over the partition as it found it.
use Rattle.std.proofs.Common.{◌≡◌, ℕ, suc, ◌+◌, ◌-◌, ◌≤◌, Bool, List, [], ◌∷◌, ◌++◌, length, Option, Some, None, sym, ◌∙◌, ap, arith}
use Rattle.fd_site.specs.Journal.{Entry, part_step, part_after}
use Rattle.fd_site.specs.Contents.{Contents, part_of, with_entries}
use Rattle.fd_site.specs.Cut.{part_cut}
use Rattle.fd_site.proofs.Written.{part_after-append}

-- a cut behind some entries is a cut of the rest, over what they leave
pub part_cut-append : (part : List ℕ) (es fs : List Entry) (k : ℕ) (these : List Bool)
    → part_cut part (es ++ fs) (length es + k) these ≡ part_cut (part_after part es) fs k these
part_cut-append part [] fs k these = let same : 0 + k ≡ k = omega arith in ap (λ n. part_cut part fs n these) same
part_cut-append part (e ∷ es) fs k these =
    let same : suc (length es) + k ≡ suc (length es + k) = omega arith in
    ap (λ n. part_cut part (e ∷ es ++ fs) n these) same ∙ part_cut-append (part_step part e) es fs k these

-- so a cut from the journal's old end on is a cut of what was added
cut_of_call : (c : Contents) (added : List Entry) (k : ℕ) (these : List Bool) → length c.journal ≤ k
    → part_cut c.base_part (c.journal ++ added) k these ≡ part_cut (part_of c) added (k - length c.journal) these
cut_of_call c added k these le =
    let split : k ≡ length c.journal + (k - length c.journal) = omega arith in
    ap (λ n. part_cut c.base_part (c.journal ++ added) n these) split ∙ part_cut-append c.base_part c.journal added (k - length c.journal) these

base_told : Option Contents → List ℕ
base_told None = []
base_told (Some c) = c.base_part

journal_told : Option Contents → List Entry
journal_told None = []
journal_told (Some c) = c.journal

-- the same of what is told before and after a call
pub cut_of_told : (old new : Option Contents) (was now : Contents) (added : List Entry) (k : ℕ) (these : List Bool)
    → old ≡ Some was → new ≡ Some now → new ≡ with_entries old added → length was.journal ≤ k
    → part_cut now.base_part now.journal k these ≡ part_cut (part_of was) added (k - length was.journal) these
unfolding base_told journal_told
cut_of_told old new was now added k these told_was told_now adds le =
    let is : Some now ≡ with_entries (Some was) added = sym told_now ∙ adds ∙ ap (λ o. with_entries o added) told_was in
    let base : now.base_part ≡ was.base_part = ap base_told is in
    let journal : now.journal ≡ was.journal ++ added = ap journal_told is in
    (λ i. part_cut (base i) (journal i) k these) ∙ cut_of_call was added k these le

-- the partition after a call, of what is told before and after it
pub after_of_told : (old new : Option Contents) (was now : Contents) (added : List Entry)
    → old ≡ Some was → new ≡ Some now → new ≡ with_entries old added → part_of now ≡ part_after (part_of was) added
unfolding base_told journal_told
after_of_told old new was now added told_was told_now adds =
    let is : Some now ≡ with_entries (Some was) added = sym told_now ∙ adds ∙ ap (λ o. with_entries o added) told_was in
    let base : now.base_part ≡ was.base_part = ap base_told is in
    let journal : now.journal ≡ was.journal ++ added = ap journal_told is in
    (λ i. part_after (base i) (journal i)) ∙ part_after-append was.base_part was.journal added
