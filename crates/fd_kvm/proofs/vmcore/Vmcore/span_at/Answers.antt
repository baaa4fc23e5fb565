-- An address is looked for in one of the two windows, or lies outside.
use Rattle.std.proofs.Common.{◌≡◌, ◌+◌, ◌-◌, ◌<◌, Ok, min, true, false, sym, subst, ap, ◌∙◌}
use Rattle.fd_mini.specs.declared.header.MiniHeader.{MiniHeader}
use Rattle.fd_kvm.specs.Place.{is_in_direct_map}
use Rattle.fd_kvm.specs.Runs.{is_by_window, up_to}
use Rattle.fd_kvm.proofs.Placed.{direct_next, outside}
use Rattle.fd_kvm.proofs.vmcore.Vmcore.span_at.Goals as goal

pub returns-then-is_in_direct_map-clause-span : goal.returns-then-is_in_direct_map-clause-span
returns-then-is_in_direct_map-clause-span g c told is f there i within =
    let s = c.args.self.now.sections in
    let va = c.args.va in
    let same = c.header-header.ensures in
    let window : is_by_window s.header va ≡ false = ap (λ (h : MiniHeader). is_by_window h va) (sym same) ∙ sym c.is_by_window.ensures ∙ c.if-is_by_window.false in
    let direct : is_in_direct_map s.header va ≡ true = ap (λ (h : MiniHeader). is_in_direct_map h va) (sym same) ∙ sym c.is_in_direct_map.ensures ∙ c.if-is_in_direct_map.true in
    let len : c.direct_span.result.len ≡ min (s.header.dmapend - va) (up_to va s.header.kernbase) = c.direct_span.ensures.len
    ∙ ap (λ (h : MiniHeader). min (h.dmapend - va) (up_to va h.kernbase)) same in
    let first : c.direct_span.result.pa ≡ va - s.header.dmapbase + s.header.dmapphys = c.direct_span.ensures.first ∙ ap (λ (h : MiniHeader). va - h.dmapbase + h.dmapphys) same in
    direct_next f s va i window direct (subst (λ n. i < n) len within) ∙ ap (λ n. Ok (n + i)) (sym first)

pub returns-clause-span : goal.returns-clause-span
returns-clause-span g c told is f there =
    let s = c.args.self.now.sections in
    let va = c.args.va in
    let same = c.header-header.ensures in
    let window : is_by_window s.header va ≡ false = ap (λ (h : MiniHeader). is_by_window h va) (sym same) ∙ sym c.is_by_window.ensures ∙ c.if-is_by_window.false in
    let direct : is_in_direct_map s.header va ≡ false = ap (λ (h : MiniHeader). is_in_direct_map h va) (sym same) ∙ sym c.is_in_direct_map.ensures ∙ c.if-is_in_direct_map.false in
    outside f s va window direct
