use Rattle.std.proofs.Common.{sym, ◌∙◌, arith, Some}
use Rattle.fd_netmsg.proofs.Reading.{Short, KindBelow, KindAbove, OtherLength, Long, message_of-none, message_of-some, body_is, length-body}
use Rattle.fd_netmsg.proofs.message.read_message.Goals as goal
use Rattle.fd_netmsg.proofs.message.read_message.Goals.{then-kind-lt-HERALD-via-then-kind-lt-HERALD, then-kind-lt-HERALD-via-else-kind-lt-HERALD+then-kind-gt-KEY}
use Rattle.fd_netmsg.proofs.message.read_message.Goals.{then-get_u32_be-body-via-then-get_u32_be-body, then-get_u32_be-body-via-else-get_u32_be-body+then-body-gt4096}

pub returns-then-bytes-lt24 : goal.returns-then-bytes-lt24
returns-then-bytes-lt24 c = message_of-none c.args.bytes.now (Short (omega arith))

pub returns-then-kind-lt-HERALD : goal.returns-then-kind-lt-HERALD
returns-then-kind-lt-HERALD c =
    let kind = c.get_u32_be-kind.ensures.value in
    elim c.then-kind-lt-HERALD.branch [
      | then-kind-lt-HERALD-via-then-kind-lt-HERALD w ↦ message_of-none c.args.bytes.now (KindBelow (omega arith))
      | then-kind-lt-HERALD-via-else-kind-lt-HERALD+then-kind-gt-KEY w ↦ message_of-none c.args.bytes.now (KindAbove (omega arith))
    ]

pub returns-then-get_u32_be-body : goal.returns-then-get_u32_be-body
returns-then-get_u32_be-body c =
    let bytes = c.args.bytes.now in
    let field = c.get_u32_be.ensures.value in
    elim c.then-get_u32_be-body.branch [
      | then-get_u32_be-body-via-then-get_u32_be-body w ↦ message_of-none bytes (OtherLength (λ same. w.if-get_u32_be-body.true (field ∙ same ∙ sym (length-body bytes))))
      | then-get_u32_be-body-via-else-get_u32_be-body+then-body-gt4096 w ↦ message_of-none bytes (Long (omega (arith, w.if-body-gt4096.true, length-body bytes)))
    ]

pub returns : goal.returns
returns c =
    let bytes = c.args.bytes.now in
    let kind = c.get_u32_be-kind.ensures.value in
    let seqno = c.get_u32_be-2.ensures.value in
    let offset = c.get_u64_be.ensures.value in
    let aux = c.get_u32_be-3.ensures.value in
    let len = c.get_u32_be.ensures.value in
    let same = c.if-get_u32_be-body.false in
    let short = c.if-body-gt4096.false in
    let size = length-body bytes in
    message_of-some bytes (omega arith) (omega arith) (omega arith) (sym len ∙ same ∙ size) (omega arith)
    ∙ (λ i. Some (record { kind = sym kind i; seqno = sym seqno i; offset = sym offset i; aux = sym aux i; body = sym (body_is bytes) i }))
