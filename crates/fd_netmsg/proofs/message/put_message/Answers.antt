use Rattle.std.proofs.Common.{◌≡◌, ◌∙◌, ℕ, List, ◌++◌, length, ap, arith}
use Rattle.std.specs.Int.{w32, w64, to_be_bytes}
use Rattle.fd_netmsg.specs.Message.{spelled}
use Rattle.fd_netmsg.proofs.Writing.{take-put, drop-put}
use Rattle.fd_netmsg.proofs.message.put_message.Goals as goal

pub returns-clause-bytes : goal.returns-clause-bytes
unfolding spelled
returns-clause-bytes c =
    let size : ℕ = length c.args.body.now in
    let page = c.new-fields.ensures in
    let kind = c.put_u32_be.ensures.bytes ∙ ap (λ l. l ++ to_be_bytes w32 c.args.kind) page in
    let seqno = c.put_u32_be-2.ensures.bytes ∙ ap (λ l. l ++ to_be_bytes w32 c.args.seqno) kind in
    let offset = c.put_u64_be.ensures.bytes ∙ ap (λ l. l ++ to_be_bytes w64 c.args.offset) seqno in
    let len = c.put_u32_be-3.ensures.bytes ∙ ap (λ l. l ++ to_be_bytes w32 size) offset in
    let aux = c.put_u32_be-4.ensures.bytes ∙ ap (λ l. l ++ to_be_bytes w32 0) len in
    let fields : List ℕ =
    to_be_bytes w32 c.args.kind ++ (to_be_bytes w32 c.args.seqno ++ (to_be_bytes w64 c.args.offset ++ (to_be_bytes w32 size ++ to_be_bytes w32 0))) in
    let front : c.copy_from_slice.new.self ≡ fields = c.copy_from_slice.ensures.after ∙ c.bytes.ensures.full (ap length aux) ∙ aux in
    let body = c.copy_from_slice-2.ensures.after in
    take-put c.copy_from_slice.new.self c.copy_from_slice-2.new.self c.args.out.now size (ap length front) (ap length body)
    ∙ ap (λ l. l ++ c.copy_from_slice-2.new.self) front
    ∙ ap (λ l. fields ++ l) body

pub returns-clause-rest : goal.returns-clause-rest
returns-clause-rest c =
    let empty = ap length c.new-fields.ensures in
    let full : length c.put_u32_be-4.new.self ≡ 24 = omega (arith, empty) in
    let front = ap length (c.copy_from_slice.ensures.after ∙ c.bytes.ensures.full full) ∙ full in
    drop-put c.copy_from_slice.new.self c.copy_from_slice-2.new.self c.args.out.now (length c.args.body.now)
    front (ap length c.copy_from_slice-2.ensures.after) (omega (arith, c.told-out))
