use Rattle.std.proofs.Common.{Bool, cond, Some, None, sym, ◌∙◌, ap}
use Rattle.fd_netserver.proofs.Standing.{accepted-err, accepted-ok, plain_is}
use Rattle.fd_netserver.proofs.header.accepted.Goals as goal

pub returns-then-is_plain-clause-is : goal.returns-then-is_plain-clause-is
returns-then-is_plain-clause-is c =
    sym (accepted-ok c.args.bytes.now c.in-Ok.header c.told-bytes (sym c.in-Ok.ensures) ∙ ap (λ (b : Bool). cond b (Some c.in-Ok.header) None) (sym c.if-is_plain.ensures))

pub returns-then-is_plain-clause-plain : goal.returns-then-is_plain-clause-plain
returns-then-is_plain-clause-plain c = plain_is c.in-Ok.header (sym c.if-is_plain.ensures)

pub returns-else-is_plain-clause-is : goal.returns-else-is_plain-clause-is
returns-else-is_plain-clause-is c =
    sym (accepted-ok c.args.bytes.now c.in-Ok.header c.told-bytes (sym c.in-Ok.ensures) ∙ ap (λ (b : Bool). cond b (Some c.in-Ok.header) None) (sym c.if-is_plain.ensures))

pub returns-in-Err-clause-is : goal.returns-in-Err-clause-is
returns-in-Err-clause-is c = sym (accepted-err c.args.bytes.now c.in-Err.field-0 c.told-bytes (sym c.in-Err.ensures))
