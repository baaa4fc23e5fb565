-- The pages are given bit by bit, up to one after which no more are wanted.
use Rattle.std.proofs.Common.{ℕ, ◌<◌, ◌+◌, Option, length, sym, ap, ◌∙◌, arith}
use Rattle.fd_mini.specs.declared.header.MiniHeader.{MiniHeader}
use Rattle.fd_kvm.specs.Parts.{other_page}
use Rattle.fd_kvm.specs.declared.page.Page.{Page}
use Rattle.fd_kvm.proofs.Others.{count_yes, count_no}
use Rattle.fd_kvm.proofs.Visited.{taken_pass, taken_item, taken_last}
use Rattle.fd_kvm.proofs.vmcore.Vmcore.walk_others.Goals as goal
use Rattle.fd_kvm.proofs.vmcore.Vmcore.walk_others.Goals.{in-Some+else-not-visit, in_default, then-has, else-has}

pub returns-then-not-visit : goal.returns-then-not-visit
returns-then-not-visit g c =
    let s = c.args.self.now.sections in
    let h : ℕ → Option Page = other_page s c.args.walked.now in
    record {
      taken = taken_last g.V.Visit.took h c.loop-bit.bit c.args.visit.now c.loop-bit.visit c.visit.new.self (length s.bits) c.in-Some.page
          (omega (arith, c.map-map.ensures.len, c.loop-bit-test.true, ap (λ (h : MiniHeader). h.bitmapsize) c.header.ensures))
          (sym c.in-Some.ensures) c.loop-bit.invariant.taken c.if-not-visit.ensures;
      few = omega (arith, c.map-map.ensures.len, ap (λ (h : MiniHeader). h.bitmapsize) c.header.ensures);
    }

pub loop-bit-preserved : goal.loop-bit-preserved
loop-bit-preserved g c =
    let s = c.args.self.now.sections in
    let h : ℕ → Option Page = other_page s c.args.walked.now in
    let within : c.loop-bit.bit < length s.bits = (omega (arith, c.map-map.ensures.len, c.loop-bit-test.true, ap (λ (h : MiniHeader). h.bitmapsize) c.header.ensures)) in
    record {
      taken = elim c.match-other_page.branch [
        | in-Some+else-not-visit w ↦ rw w.visit-is (taken_item g.V.Visit.took h c.loop-bit.bit c.args.visit.now c.loop-bit.visit w.visit.new.self w.in-Some.page
            (sym w.in-Some.ensures) c.loop-bit.invariant.taken w.if-not-visit.ensures)
        | in_default w ↦ rw w.visit-is (taken_pass g.V.Visit.took h c.loop-bit.bit c.args.visit.now c.loop-bit.visit (sym w.in_default.ensures) c.loop-bit.invariant.taken)
      ];
      number = elim c.if-has.branch [
        | then-has w ↦ w.number-is ∙ ap (λ n. n + 1) c.loop-bit.invariant.number
            ∙ sym (count_yes s.bits c.map-map.result.now c.loop-bit.bit c.has.result c.map-map.ensures.bits c.has.ensures
            w.if-has.true within)
        | else-has w ↦ w.number-is ∙ c.loop-bit.invariant.number ∙ sym (count_no s.bits c.map-map.result.now c.loop-bit.bit c.has.result c.map-map.ensures.bits c.has.ensures w.if-has.false within)
      ];
      few = elim c.if-has.branch [ then-has w ↦ omega (arith, c.loop-bit.invariant.few) | else-has w ↦ omega (arith, c.loop-bit.invariant.few) ];
    }
