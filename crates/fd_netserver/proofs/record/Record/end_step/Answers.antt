use Rattle.std.proofs.Common.{true, false, sym, ◌∙◌, ap}
use Rattle.fd_netserver.specs.Table.{Ends}
use Rattle.fd_netserver.proofs.Standing.{end_is, live_of, whole_same}
use Rattle.fd_netserver.proofs.record.Record.end_step.Goals as goal

pub returns-then-whole-clause-row : goal.returns-then-whole-clause-row
returns-then-whole-clause-row c slot m s stands =
    end_is slot m.seqno s c.args.bytes.now c.in-Some.header true c.in-Some.ensures.is
    (whole_same c.args.self.now s c.in-Some.header.dumplength true (live_of c.args.self.now s stands c.requires.open_) c.if-whole.ensures)
    ∙ ap (λ p. Ends slot m.seqno s.number c.in-Some.header p) (sym c.get_u32_be.ensures.value)

pub returns-else-whole-clause-row : goal.returns-else-whole-clause-row
returns-else-whole-clause-row c slot m s stands =
    end_is slot m.seqno s c.args.bytes.now c.in-Some.header false c.in-Some.ensures.is
    (whole_same c.args.self.now s c.in-Some.header.dumplength false (live_of c.args.self.now s stands c.requires.open_) c.if-whole.ensures)
