-- What the tests of a judge say of a partition's bytes.
use Rattle.std.proofs.Common.{◌≡◌, ℕ, ◌-◌, Bool, List, length, Option, Some, None, Ok, Err, sym, ◌∙◌, ap}
use Rattle.fd_kdh.specs.Header.{decoded}
use Rattle.fd_kdh.specs.declared.header.Header.{Header}
use Rattle.fd_kdh.specs.declared.header.HeaderFault.{HeaderFault}
use Rattle.fd_part.specs.Partition.{sector_at, leading_place, dump_place}
use Rattle.fd_judge.specs.Verdict.{judged, taken, reasons, first_of, first_difference, reason_of, by_leading, by_fields, by_header, by_sectors}
use Rattle.fd_judge.specs.declared.verdict.Verdict.TheVariants.{Refused}
use Rattle.fd_judge.specs.declared.why.Why.{Why}

-- the trailing sector was read, and is taken as `seen`
pub record ReadsTrailing (part : List ℕ) (size block : ℕ) (force : Bool) (sector seen : List ℕ) : Type 0 where
  pub size_is : length part ≡ size
  pub sector_is : sector ≡ sector_at part (size - block)
  pub seen_is : seen ≡ taken force sector

-- a read of it, at the place that the code computes
pub trailing_read : {part sector seen : List ℕ} {force : Bool} (size size_now block block_now : ℕ) → length part ≡ size_now → size ≡ size_now
    → block_now ≡ block → sector ≡ sector_at part (size - block_now) → seen ≡ taken force sector → ReadsTrailing part size block force sector seen
trailing_read {part} size size_now block block_now told_size size_is block_is sector_is seen_is = record {
  size_is = told_size ∙ sym size_is;
  sector_is = sector_is ∙ ap (λ n. sector_at part (size - n)) block_is;
  seen_is = seen_is;
}

module _ {part : List ℕ} {size block : ℕ} {force : Bool} {sector seen : List ℕ} (reads : ReadsTrailing part size block force sector seen) where
  sector_there : sector ≡ sector_at part (length part - block)
  sector_there = reads.sector_is ∙ ap (λ n. sector_at part (n - block)) (sym reads.size_is)

  judged_is : by_header part block sector seen (decoded seen) ≡ judged part block force
  judged_is =
      ap (λ (l : List ℕ). by_sectors part block sector l) reads.seen_is
      ∙ ap (λ (l : List ℕ). by_sectors part block l (taken force l)) sector_there

  -- its header doesn't decode
  pub judged_undecoded : (e : HeaderFault) → decoded seen ≡ Err e → Refused (reason_of e) ≡ judged part block force
  judged_undecoded e is = ap (by_header part block sector seen) (sym is) ∙ judged_is

  by_reason : (h : Header) (o : Option Why) → decoded seen ≡ Ok h → first_of (reasons h size block) ≡ o → by_fields part block sector seen h o ≡ judged part block force
  by_reason h o is first =
      ap (by_fields part block sector seen h) (sym first)
      ∙ ap (λ n. by_fields part block sector seen h (first_of (reasons h n block))) (sym reads.size_is)
      ∙ ap (by_header part block sector seen) (sym is)
      ∙ judged_is

  -- a reason stands against its fields
  pub judged_with_reason : (h : Header) (why : Why) → decoded seen ≡ Ok h → first_of (reasons h size block) ≡ Some why → Refused why ≡ judged part block force
  judged_with_reason h why is first = by_reason h (Some why) is first

  -- the leading sector was read and compared
  pub judged_by_leading : (h : Header) (leading : List ℕ) → decoded seen ≡ Ok h → first_of (reasons h size block) ≡ None
      → leading ≡ sector_at part (leading_place size block h.dumpextent)
      → by_leading h (dump_place size block h.dumpextent) sector (first_difference seen leading) ≡ judged part block force
  judged_by_leading h leading is first there =
      ap (λ (l : List ℕ). by_leading h (dump_place size block h.dumpextent) sector (first_difference seen l)) there
      ∙ ap (λ n. by_leading h (dump_place n block h.dumpextent) sector (first_difference seen (sector_at part (leading_place n block h.dumpextent)))) (sym reads.size_is)
      ∙ by_reason h None is first
