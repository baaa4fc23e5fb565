-- A file whose parts were read spells the image of these parts.
use Rattle.std.proofs.Common.{◌≡◌, ℕ, ◌+◌, ◌<◌, ◌≤◌, ◌^◌, All, List, ◌++◌, length, map, slice_range, Option, Some, None, IfSome, IsSomeAnd, sym, ◌∙◌, ap, arith}
use Rattle.std.specs.List.{concat, flat_map}
use Rattle.fd_image.specs.Image.{MachineImage}
use Rattle.fd_image.specs.declared.parts.Seg.{Seg}
use Rattle.fd_image.specs.declared.parts.Texts.{Texts}
use Rattle.fd_imgfile.specs.Front.{IsWithinLimits, IsFront, HasCounts, HasLengths, bytes_of, fields_of, tables_length, texts_length}
use Rattle.fd_imgfile.specs.Reading.{SpellsImage, fault_place}
use Rattle.fd_imgfile.specs.Spelling.{FitsFields, avail_bytes, front_of, magic, seg_bytes, spelling_of, tables_of, texts_of, u32, u64, windows_of, number_of}
use Rattle.fd_imgfile.specs.declared.front.Front.{Front}
use Rattle.fd_imgfile.specs.declared.tables.Tables.{Tables}
use Rattle.fd_image.proofs.Slices.{slice-all, slice-join}

-- the image of the parts
abbrev pub image_of : Front → Tables → Texts → List Seg → MachineImage
image_of h t texts segs = record {
  arch = h.arch;
  sv48 = h.sv48;
  segs = segs;
  avail = t.avail.items;
  wanted = t.wanted.items;
  root = h.root;
  windows = h.windows;
  texts = texts;
}

-- the fields are the front of an image with these counts and lengths
front_spelled : (h : Front) (t : Tables) (texts : Texts) (segs : List Seg) → length segs ≡ h.segs → HasCounts t h → HasLengths texts h → fields_of h ≡ front_of (image_of h t texts segs)
front_spelled h t texts segs count counts lengths =
    let fields : (s a w ho v p m time : ℕ) → List ℕ =
    λ s a w ho v p m time. magic ++ u32 1 ++ u32 (number_of h.arch h.sv48) ++ (u32 s ++ u32 a ++ u32 w) ++ (u32 ho ++ u32 v ++ u32 p ++ u32 m) ++ u32 0 ++ u64 h.root ++ windows_of h.windows
    ++ u64 time in
    ap (λ n. fields n h.avail h.wanted h.host h.version h.panic h.msgbuf h.time) (sym count)
    ∙ (ap (λ n. fields (length segs) n h.wanted h.host h.version h.panic h.msgbuf h.time) (sym counts.avail)
    ∙ (ap (λ n. fields (length segs) (length t.avail.items) n h.host h.version h.panic h.msgbuf h.time) (sym counts.wanted)
    ∙ (ap (λ n. fields (length segs) (length t.avail.items) (length t.wanted.items) n h.version h.panic h.msgbuf h.time) (sym lengths.host)
    ∙ (ap (λ n. fields (length segs) (length t.avail.items) (length t.wanted.items) (length texts.host) n h.panic h.msgbuf h.time) (sym lengths.version)
    ∙ (ap (λ n. fields (length segs) (length t.avail.items) (length t.wanted.items) (length texts.host) (length texts.version) n h.msgbuf h.time) (sym lengths.panic)
    ∙ (ap (λ n. fields (length segs) (length t.avail.items) (length t.wanted.items) (length texts.host) (length texts.version) (length texts.panic) n h.time) (sym lengths.msgbuf)
    ∙ ap (λ n. fields (length segs) (length t.avail.items) (length t.wanted.items) (length texts.host) (length texts.version) (length texts.panic) (length texts.msgbuf) n) (sym lengths.time)))))))

-- what is known of a file after all of it was read
pub record IsRead (f : List ℕ) (h : Front) (t : Tables) (texts : Texts) (segs : List Seg) (len : ℕ) : Type 0 where
  pub front : IsFront f h
  pub size : length f ≡ len
  pub tables : bytes_of t ≡ slice_range f 112 (112 + tables_length h)
  pub texts_are : texts_of texts ≡ slice_range f (112 + tables_length h) (112 + tables_length h + texts_length h)
  pub memory : concat (map (λ seg. seg.bytes) segs) ≡ slice_range f (112 + tables_length h + texts_length h) len

pub image_spelled : (f : List ℕ) (h : Front) (t : Tables) (texts : Texts) (segs : List Seg) (len : ℕ) → IsRead f h t texts segs len → 112 + tables_length h + texts_length h ≤ len
    → length segs ≡ h.segs → HasCounts t h → HasLengths texts h → flat_map seg_bytes segs ≡ flat_map avail_bytes t.segs.items → f ≡ spelling_of (image_of h t texts segs)
unfolding spelling_of
image_spelled f h t texts segs len read within count counts lengths table =
    let m : MachineImage = image_of h t texts segs in
    let i : ℕ = 112 + tables_length h in
    let j : ℕ = i + texts_length h in
    let front : slice_range f 0 112 ≡ front_of m = read.front.spelled ∙ front_spelled h t texts segs count counts lengths in
    let tables : slice_range f 112 i ≡ tables_of m = sym read.tables ∙ ap (λ (l : List ℕ). l ++ flat_map avail_bytes t.avail.items ++ flat_map u64 t.wanted.items) (sym table) in
    let whole : slice_range f 0 112 ++ slice_range f 112 i ++ slice_range f i j ++ slice_range f j len ≡ f =
    ap (λ (l : List ℕ). l ++ slice_range f i j ++ slice_range f j len) (slice-join f 0 112 i (omega arith) (omega arith))
    ∙ (ap (λ (l : List ℕ). l ++ slice_range f j len) (slice-join f 0 i j (omega arith) (omega arith)) ∙ (slice-join f 0 j len (omega arith) within ∙ slice-all f len (omega (arith, read.size)))) in
    sym whole
    ∙ (ap (λ (l : List ℕ). l ++ slice_range f 112 i ++ slice_range f i j ++ slice_range f j len) front
    ∙ (ap (λ (l : List ℕ). front_of m ++ l ++ slice_range f i j ++ slice_range f j len) tables
    ∙ (ap (λ (l : List ℕ). front_of m ++ tables_of m ++ l ++ slice_range f j len) (sym read.texts_are)
    ∙ ap (λ (l : List ℕ). front_of m ++ tables_of m ++ texts_of texts ++ l) (sym read.memory))))

-- the image of counts and lengths within their limits
pub image_fits : (h : Front) (t : Tables) (texts : Texts) (segs : List Seg) → IsWithinLimits h → length segs ≡ h.segs → HasCounts t h → HasLengths texts h
    → All (λ seg. length seg.bytes < 2 ^ 64) segs → FitsFields (image_of h t texts segs)
image_fits h t texts segs limits count counts lengths sizes = record {
  counts = (omega (arith, limits.segs, count), omega (arith, limits.avail, counts.avail), omega (arith, limits.wanted, counts.wanted));
  names = (omega (arith, limits.host, lengths.host), omega (arith, limits.version, lengths.version), omega (arith, limits.panic, lengths.panic));
  msgbuf = omega (arith, limits.msgbuf, lengths.msgbuf);
  sizes = sizes;
  paging = limits.paging;
}

pub image_read : (file : Option (List ℕ)) (h : Front) (t : Tables) (texts : Texts) (segs : List Seg) (len : ℕ) → FitsFields (image_of h t texts segs)
    → 112 + tables_length h + texts_length h ≤ len → length segs ≡ h.segs → HasCounts t h → HasLengths texts h → flat_map seg_bytes segs ≡ flat_map avail_bytes t.segs.items
    → IsSomeAnd file (λ f. length f ≡ len) → IfSome file (λ f. IsFront f h) → IfSome file (λ f. fault_place f ≡ None) → IfSome file (λ f. bytes_of t ≡ slice_range f 112 (112 + tables_length h))
    → IfSome file (λ f. texts_of texts ≡ slice_range f (112 + tables_length h) (112 + tables_length h + texts_length h))
    → IfSome file (λ f. concat (map (λ seg. seg.bytes) segs) ≡ slice_range f (112 + tables_length h + texts_length h) len) → IsSomeAnd file (λ f. SpellsImage f (image_of h t texts segs))
image_read None h t texts segs len fits within count counts lengths table has front kept tables texts_are memory = has
image_read (Some f) h t texts segs len fits within count counts lengths table has front kept tables texts_are memory =
    let read : IsRead f h t texts segs len = record { front = front; size = has; tables = tables; texts_are = texts_are; memory = memory } in
    record {
      fits = fits;
      is = image_spelled f h t texts segs len read within count counts lengths table;
      no_fault = kept;
    }
