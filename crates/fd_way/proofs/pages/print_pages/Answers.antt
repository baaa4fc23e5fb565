-- What the sink has after a walk that was printed, or of which some was.
use Rattle.std.proofs.Common.{◌≡◌, take, refl, sym, ap, ◌∙◌, arith}
use Rattle.fd_site.specs.Trace.{grown}
use Rattle.fd_way.proofs.PagesPrinted.{ended_cut, ended_lines, ended_site, last_cut, last_line, took_faults, took_cause, took_reference}
use Rattle.fd_way.proofs.pages.print_pages.Goals as goal

pub returns-in_err-walk_pages-clause-printed : goal.returns-in_err-walk_pages-clause-printed
returns-in_err-walk_pages-clause-printed g c =
    let walk = c.walk_pages.ensures.walk in
    let back : c.in_err-walk_pages.out-1-own.given.0 ≡ c.walk_pages.new.visit.out.now =
    c.in_err-walk_pages.out-1-own.given.1
    (sym (took_reference g.O.Sink.seen _ walk.pages walk.went_on c.walk_pages.new.visit walk.taken)) in
    rw back (ended_site g.O.Sink.seen (g.S.Site.seen c.args.site.now).told c.args.kvm.now.name c.args.kvm.now.sections _
    c.walk_pages.new.visit c.walk_pages.result c.in_err-walk_pages.field-0.0 c.from_residual.result walk
    c.in_err-walk_pages.was c.from_residual.ensures.0)

pub returns-in_err-walk_pages-clause-sink : goal.returns-in_err-walk_pages-clause-sink
returns-in_err-walk_pages-clause-sink g c =
    let walk = c.walk_pages.ensures.walk in
    let back : c.in_err-walk_pages.out-1-own.given.0 ≡ c.walk_pages.new.visit.out.now =
    c.in_err-walk_pages.out-1-own.given.1
    (sym (took_reference g.O.Sink.seen _ walk.pages walk.went_on c.walk_pages.new.visit walk.taken)) in
    rw back (took_faults g.O.Sink.seen _ walk.pages walk.went_on c.walk_pages.new.visit walk.taken)

pub returns-then-printer-clause-printed : goal.returns-then-printer-clause-printed
returns-then-printer-clause-printed g c =
    let walk = c.walk_pages.ensures.walk in
    let back : c.out-then-printer-1.given.0 ≡ c.walk_pages.new.visit.out.now =
    c.out-then-printer-1.given.1
    (sym (took_reference g.O.Sink.seen _ walk.pages walk.went_on c.walk_pages.new.visit walk.taken)) in
    rw back (ended_cut g.O.Sink.seen (g.S.Site.seen c.args.site.now).told c.args.kvm.now.name c.args.kvm.now.sections _ c.walk_pages.new.visit c.walk_pages.result walk refl c.if-printer.true)

pub returns-then-printer-clause-sink : goal.returns-then-printer-clause-sink
returns-then-printer-clause-sink g c =
    let walk = c.walk_pages.ensures.walk in
    let back : c.out-then-printer-1.given.0 ≡ c.walk_pages.new.visit.out.now =
    c.out-then-printer-1.given.1
    (sym (took_reference g.O.Sink.seen _ walk.pages walk.went_on c.walk_pages.new.visit walk.taken)) in
    rw back (took_faults g.O.Sink.seen _ walk.pages walk.went_on c.walk_pages.new.visit walk.taken)

pub returns-then-printer-clause-sink_cause : goal.returns-then-printer-clause-sink_cause
returns-then-printer-clause-sink_cause g c failed =
    let walk = c.walk_pages.ensures.walk in
    let back : c.out-then-printer-1.given.0 ≡ c.walk_pages.new.visit.out.now =
    c.out-then-printer-1.given.1
    (sym (took_reference g.O.Sink.seen _ walk.pages walk.went_on c.walk_pages.new.visit walk.taken)) in
    rw back (took_cause g.O.Sink.seen _ walk.pages walk.went_on c.walk_pages.new.visit walk.taken refl c.if-printer.true)

pub returns-in-Ok-clause-printed : goal.returns-in-Ok-clause-printed
returns-in-Ok-clause-printed g c =
    let walk = c.walk_pages.ensures.walk in
    let back : c.out-2-1.given.0 ≡ c.walk_pages.new.visit.out.now = c.out-2-1.given.1 (sym (took_reference g.O.Sink.seen _ walk.pages walk.went_on c.walk_pages.new.visit walk.taken)) in
    let all = ended_lines g.O.Sink.seen (g.S.Site.seen c.args.site.now).told c.args.kvm.now.name c.args.kvm.now.sections _ c.walk_pages.new.visit c.walk_pages.result c.in_ok-walk_pages.field-0
    walk c.in_ok-walk_pages.was refl c.if-printer.false in (
      all.0,
      (
        all.1.0,
        (
          all.1.1.0,
          c.in-Ok.ensures.ok ∙ ap (λ o. grown (g.O.Sink.seen o).told c.as_slice.result.now) back
              ∙ last_line (g.O.Sink.seen c.args.out.now).told _ all.0 c.walk_pages.new.visit.count c.as_slice.result.now all.1.1.1
              all.1.1.0 (c.as_slice.ensures.value ∙ c.count_line.ensures),
        ),
      ),
    )

pub returns-in-Ok-clause-sink : goal.returns-in-Ok-clause-sink
returns-in-Ok-clause-sink g c =
    let walk = c.walk_pages.ensures.walk in
    let back : c.out-2-1.given.0 ≡ c.walk_pages.new.visit.out.now = c.out-2-1.given.1 (sym (took_reference g.O.Sink.seen _ walk.pages walk.went_on c.walk_pages.new.visit walk.taken)) in
    omega (arith, ap (λ o. (g.O.Sink.seen o).faults) back, took_faults g.O.Sink.seen _ walk.pages walk.went_on c.walk_pages.new.visit walk.taken, c.put.ensures.count)

pub returns-in-Err-clause-printed : goal.returns-in-Err-clause-printed
returns-in-Err-clause-printed g c =
    let walk = c.walk_pages.ensures.walk in
    let back : c.out-2-1.given.0 ≡ c.walk_pages.new.visit.out.now = c.out-2-1.given.1 (sym (took_reference g.O.Sink.seen _ walk.pages walk.went_on c.walk_pages.new.visit walk.taken)) in
    let all = ended_lines g.O.Sink.seen (g.S.Site.seen c.args.site.now).told c.args.kvm.now.name c.args.kvm.now.sections _ c.walk_pages.new.visit c.walk_pages.result c.in_ok-walk_pages.field-0
    walk c.in_ok-walk_pages.was refl c.if-printer.false in
    let some = c.in-Err.ensures.err in (
      all.0,
      (
        all.1.0,
        (
          _,
          some.1 ∙ ap (λ o. grown (g.O.Sink.seen o).told (take some.0 c.as_slice.result.now)) back
              ∙ last_cut (g.O.Sink.seen c.args.out.now).told _ all.0 c.walk_pages.new.visit.count some.0 c.as_slice.result.now
              all.1.1.1 all.1.1.0 (c.as_slice.ensures.value ∙ c.count_line.ensures),
        ),
      ),
    )

pub returns-in-Err-clause-sink : goal.returns-in-Err-clause-sink
returns-in-Err-clause-sink g c =
    let walk = c.walk_pages.ensures.walk in
    let back : c.out-2-1.given.0 ≡ c.walk_pages.new.visit.out.now = c.out-2-1.given.1 (sym (took_reference g.O.Sink.seen _ walk.pages walk.went_on c.walk_pages.new.visit walk.taken)) in
    omega (arith, ap (λ o. (g.O.Sink.seen o).faults) back, took_faults g.O.Sink.seen _ walk.pages walk.went_on c.walk_pages.new.visit walk.taken, c.put.ensures.count)

pub returns-in-Err-clause-sink_cause : goal.returns-in-Err-clause-sink_cause
returns-in-Err-clause-sink_cause g c failed =
    let walk = c.walk_pages.ensures.walk in
    let back : c.out-2-1.given.0 ≡ c.walk_pages.new.visit.out.now = c.out-2-1.given.1 (sym (took_reference g.O.Sink.seen _ walk.pages walk.went_on c.walk_pages.new.visit walk.taken)) in
    omega (arith, ap (λ o. (g.O.Sink.seen o).faults) back, took_faults g.O.Sink.seen _ walk.pages walk.went_on c.walk_pages.new.visit walk.taken, c.in-Err.ensures.cause)
