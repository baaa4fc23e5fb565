-- A message that was written is read back, and so is an acknowledgement.
use Rattle.std.proofs.Common.{◌≡◌, ℕ, true, ◌+◌, ◌-◌, ◌<◌, ◌^◌, cond, List, length, Some, None, refl, ◌∙◌, ap, arith, le-leb, eq-eqb}
use Rattle.std.proofs.lemmas.Bool.{and_from}
use Rattle.std.proofs.lemmas.Nat.{from_be_bytes-to_be_bytes_4}
use Rattle.fd_bytes.specs.Field.{u32_be_at, u64_be_at}
use Rattle.fd_bytes.proofs.Fields.{u32_be_at-spelled, u64_be_at-spelled}
use Rattle.fd_netmsg.specs.Message.{Message, IsMessage, spelled, fields_of, is_message, message_of, ack, read_ack}

pub message_of-spelled : (m : Message) → IsMessage m → message_of (spelled m) ≡ Some m
unfolding spelled message_of
message_of-spelled m is =
    let bytes : List ℕ = spelled m in
    let kind : u32_be_at bytes 0 ≡ m.kind = u32_be_at-spelled bytes 0 m.kind (omega (arith, is.kind.most)) refl in
    let seqno : u32_be_at bytes 4 ≡ m.seqno = u32_be_at-spelled bytes 4 m.seqno is.seqno refl in
    let offset : u64_be_at bytes 8 ≡ m.offset = u64_be_at-spelled bytes 8 m.offset is.offset refl in
    let long : u32_be_at bytes 16 ≡ length m.body = u32_be_at-spelled bytes 16 (length m.body) (omega (arith, is.body)) refl in
    let aux : u32_be_at bytes 20 ≡ m.aux = u32_be_at-spelled bytes 20 m.aux is.aux refl in
    let size : length bytes ≡ 24 + length m.body = omega arith in
    let test : is_message bytes ≡ true =
    and_from _ _ (le-leb 24 (length bytes) (omega (arith, size)))
    (and_from _ _ (le-leb 1 (u32_be_at bytes 0) (omega (arith, kind, is.kind.least)))
    (and_from _ _ (le-leb (u32_be_at bytes 0) 5 (omega (arith, kind, is.kind.most)))
    (and_from _ _ (eq-eqb (u32_be_at bytes 16) (length bytes - 24) (omega (arith, long, size)))
    (le-leb (length bytes - 24) 4096 (omega (arith, size, is.body)))))) in
    let same : fields_of bytes ≡ m = λ i. record { kind = kind i; seqno = seqno i; offset = offset i; aux = aux i; body = m.body } in
    ap (λ t. cond t (Some (fields_of bytes)) None) test ∙ ap (λ l. Some l) same

pub read_ack-ack : (seqno : ℕ) → seqno < 2 ^ 32 → read_ack (ack seqno) ≡ Some seqno
read_ack-ack seqno fits = ap (λ n. Some n) (from_be_bytes-to_be_bytes_4 seqno fits)
