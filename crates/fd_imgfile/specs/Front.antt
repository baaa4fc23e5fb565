-- The fields of an image's file as the reader keeps them.
use Rattle.std.specs.Prelude.{◌≡◌, ℕ, ◌+◌, ◌*◌, ◌≤◌, List, ◌++◌, length, map, slice_range, None, IsTrue}
use Rattle.std.specs.List.{flat_map, range_with_len}
use Rattle.fd_bytes.specs.Field.{u32_le_at, u64_le_at}
use Rattle.fd_imgfile.specs.Reading.{first_broken, front_checks}
use Rattle.fd_imgfile.specs.Spelling.{magic, number_of, u32, u64, avail_bytes, windows_of}
use Rattle.fd_imgfile.specs.declared.front.Front.{Front}
use Rattle.fd_imgfile.specs.declared.tables.Tables.{Tables}
use Rattle.fd_image.specs.Image.{MachineImage, is_known_paging}
use Rattle.fd_image.specs.declared.parts.Texts.{Texts}

-- the 112 bytes of the fields
abbrev pub fields_of : Front → List ℕ
fields_of h =
    magic ++ u32 1 ++ u32 (number_of h.arch h.sv48) ++ (u32 h.segs ++ u32 h.avail ++ u32 h.wanted)
    ++ (u32 h.host ++ u32 h.version ++ u32 h.panic ++ u32 h.msgbuf)
    ++ u32 0 ++ u64 h.root ++ windows_of h.windows ++ u64 h.time

-- the fields of an image
abbrev pub front_in : MachineImage → Front
front_in m = record {
  arch = m.arch;
  sv48 = m.sv48;
  segs = length m.segs;
  avail = length m.avail;
  wanted = length m.wanted;
  host = length m.texts.host;
  version = length m.texts.version;
  panic = length m.texts.panic;
  msgbuf = length m.texts.msgbuf;
  root = m.root;
  windows = m.windows;
  time = m.texts.time;
}

-- the counts and the lengths are those in the bytes
pub record IsCounted (f : List ℕ) (h : Front) : Type 0 where
  pub segs : u32_le_at f 24 ≡ h.segs
  pub avail : u32_le_at f 28 ≡ h.avail
  pub wanted : u32_le_at f 32 ≡ h.wanted
  pub host : u32_le_at f 36 ≡ h.host
  pub version : u32_le_at f 40 ≡ h.version
  pub panic : u32_le_at f 44 ≡ h.panic
  pub msgbuf : u32_le_at f 48 ≡ h.msgbuf

-- the counts and the lengths are within their limits, and Sv48 is on RISC-V alone
pub record IsWithinLimits (h : Front) : Type 0 where
  pub segs : h.segs ≤ 64
  pub avail : h.avail ≤ 1024
  pub wanted : h.wanted ≤ 262144
  pub host : h.host ≤ 255
  pub version : h.version ≤ 1023
  pub panic : h.panic ≤ 1023
  pub msgbuf : h.msgbuf ≤ 1048576
  pub paging : IsTrue (is_known_paging h.arch h.sv48)

-- how many bytes the tables and the texts take
abbrev pub tables_length : Front → ℕ
tables_length h = 16 * h.segs + 16 * h.avail + 8 * h.wanted

abbrev pub texts_length : Front → ℕ
texts_length h = h.host + h.version + h.panic + h.msgbuf

-- a file begins with these fields
pub record IsFront (f : List ℕ) (h : Front) : Type 0 where
  pub long : 112 ≤ length f
  pub kept : first_broken (front_checks f) ≡ None
  pub spelled : slice_range f 0 112 ≡ fields_of h
  pub counted : IsCounted f h

abbrev pub second : ℕ × ℕ → ℕ
second pair = pair.1

-- the lengths of the first segments in the bytes of their table
abbrev pub lengths_in : List ℕ → ℕ → List ℕ
lengths_in table n = map (λ i. u64_le_at table (16 * i + 8)) (range_with_len 0 n)

-- the tables have as many places as the fields say
pub record HasCounts (t : Tables) (h : Front) : Type 0 where
  pub segs : length t.segs.items ≡ h.segs
  pub avail : length t.avail.items ≡ h.avail
  pub wanted : length t.wanted.items ≡ h.wanted

-- the bytes of the tables
abbrev pub bytes_of : Tables → List ℕ
bytes_of t = flat_map avail_bytes t.segs.items ++ flat_map avail_bytes t.avail.items ++ flat_map u64 t.wanted.items

-- the texts have the lengths and the time that the fields say
pub record HasLengths (t : Texts) (h : Front) : Type 0 where
  pub host : length t.host ≡ h.host
  pub version : length t.version ≡ h.version
  pub panic : length t.panic ≡ h.panic
  pub msgbuf : length t.msgbuf ≡ h.msgbuf
  pub time : t.time ≡ h.time
