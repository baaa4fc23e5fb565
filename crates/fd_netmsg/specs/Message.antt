-- The messages of netdump(4) as they are written and read (struct netdump_msg_hdr and struct netdump_ack of
-- sys/netinet/netdump/netdump.h). All numbers are big-endian.
use Rattle.std.specs.Prelude.{ℕ, ◌-◌, ◌^◌, ◌<◌, ◌≤◌, ◌==◌, nat_le, ◌&&◌, Bool, List, ◌++◌, length, drop, if◌then◌else◌, Option, Some, None}
use Rattle.std.specs.Int.{w32, w64, to_be_bytes, from_be_bytes}
use Rattle.fd_bytes.specs.Field.{u32_be_at, u64_be_at}
use Rattle.fd_netmsg.specs.declared.message.Message.{Message as MessageRead}

-- a message's fields, and its body; the length field is that of the body
pub record Message : Type 0 where
  pub kind : ℕ
  pub seqno : ℕ
  pub offset : ℕ
  pub aux : ℕ
  pub body : List ℕ

-- NETDUMP_HERALD, NETDUMP_FINISHED, NETDUMP_VMCORE, NETDUMP_KDH, NETDUMP_EKCD_KEY
abbrev pub herald : ℕ
herald = 1

abbrev pub finished : ℕ
finished = 2

abbrev pub vmcore : ℕ
vmcore = 3

abbrev pub kdh : ℕ
kdh = 4

abbrev pub key : ℕ
key = 5

-- one of the five kinds
pub record IsKind (kind : ℕ) : Type 0 where
  pub least : herald ≤ kind
  pub most : kind ≤ key

-- each number is within its field, the kind is one of the five, and the body has at most 4096 bytes
pub record IsMessage (m : Message) : Type 0 where
  pub kind : IsKind m.kind
  pub seqno : m.seqno < 2 ^ 32
  pub offset : m.offset < 2 ^ 64
  pub aux : m.aux < 2 ^ 32
  pub body : length m.body ≤ 4096

-- a message's bytes
unfoldable pub spelled : Message → List ℕ
spelled m =
    to_be_bytes w32 m.kind
    ++ (to_be_bytes w32 m.seqno
    ++ (to_be_bytes w64 m.offset
    ++ (to_be_bytes w32 (length m.body)
    ++ (to_be_bytes w32 m.aux
    ++ m.body))))

-- what the fields hold, whatever else the bytes are
abbrev pub fields_of : List ℕ → Message
fields_of bytes = record {
  kind = u32_be_at bytes 0;
  seqno = u32_be_at bytes 4;
  offset = u64_be_at bytes 8;
  aux = u32_be_at bytes 20;
  body = drop 24 bytes;
}

-- whether bytes are a message's: a known kind, and a length field that says how many bytes follow, at most 4096
abbrev pub is_message : List ℕ → Bool
is_message bytes =
    nat_le 24 (length bytes)
    && (nat_le herald (u32_be_at bytes 0)
    && (nat_le (u32_be_at bytes 0) key
    && (u32_be_at bytes 16 == length bytes - 24
    && nat_le (length bytes - 24) 4096)))

-- the message that bytes are
unfoldable pub message_of : List ℕ → Option Message
message_of bytes = if is_message bytes then Some (fields_of bytes) else None

-- a message whose auxiliary number is 0
abbrev pub plain_message : (kind seqno offset : ℕ) → List ℕ → Message
plain_message kind seqno offset body = record { kind = kind; seqno = seqno; offset = offset; aux = 0; body = body }

-- a message that the code read
abbrev pub meant : MessageRead → Message
meant m = record { kind = m.kind; seqno = m.seqno; offset = m.offset; aux = m.aux; body = m.body.now }

-- the acknowledgement of a number, and the number that bytes acknowledge
abbrev pub ack : ℕ → List ℕ
ack seqno = to_be_bytes w32 seqno

abbrev pub read_ack : List ℕ → Option ℕ
read_ack bytes = if length bytes == 4 then Some (from_be_bytes w32 bytes) else None
