-- Segments are read one after another: what is read spells the table and the memory.
use Rattle.std.proofs.Common.{◌≡◌, ℕ, ◌+◌, ◌<◌, ◌≤◌, List, [], ◌∷◌, ◌++◌, length, map, take, get_or, slice_range, Option, Some, None, IfSome, refl, sym, ◌∙◌, ap, arith}
use Rattle.std.specs.List.{concat, flat_map}
use Rattle.std.proofs.lemmas.List.{append-nil, map_push, take_more}
use Rattle.std.proofs.lemmas.List.Folds.{concat-append}
use Rattle.fd_image.specs.declared.parts.Seg.{Seg}
use Rattle.fd_imgfile.specs.Spelling.{avail_bytes, pair_bytes, seg_bytes}
use Rattle.fd_site.proofs.Writing.{flat_map_push}
use Rattle.fd_image.proofs.Slices.{slice-join}

-- the bytes of one more segment
pub memory_more : (f : List ℕ) (segs : List Seg) (seg : Seg) (from next end : ℕ) → from ≤ next → next ≤ end → concat (map (λ seg. seg.bytes) segs) ≡ slice_range f from next
    → seg.bytes ≡ slice_range f next end → concat (map (λ seg. seg.bytes) (segs ++ seg ∷ [])) ≡ slice_range f from end
memory_more f segs seg from next end order rises so_far bytes =
    let split : concat (map (λ seg. seg.bytes) (segs ++ seg ∷ [])) ≡ concat (map (λ seg. seg.bytes) segs) ++ seg.bytes =
    ap concat (map_push (λ seg. seg.bytes) segs seg)
    ∙ (concat-append (map (λ seg. seg.bytes) segs) (seg.bytes ∷ []) ∙ ap (λ (l : List ℕ). concat (map (λ seg. seg.bytes) segs) ++ l) (append-nil seg.bytes)) in
    split ∙ (ap (λ (l : List ℕ). l ++ seg.bytes) so_far ∙ (ap (λ (l : List ℕ). slice_range f from next ++ l) bytes ∙ slice-join f from next end order rises))

-- the table's pair of one more segment
pub table_more : (segs : List Seg) (seg : Seg) (table : List (ℕ × ℕ)) (i : ℕ) (pair : ℕ × ℕ) → i < length table → pair ≡ get_or table i pair → seg.start ≡ pair.0 → length seg.bytes ≡ pair.1
    → flat_map seg_bytes segs ≡ flat_map avail_bytes (take i table) → flat_map seg_bytes (segs ++ seg ∷ []) ≡ flat_map avail_bytes (take (i + 1) table)
table_more segs seg table i pair inside is start size so_far =
    let same : seg_bytes seg ≡ avail_bytes pair = ap (λ s. pair_bytes s (length seg.bytes)) start ∙ ap (λ n. pair_bytes pair.0 n) size in
    let next : take (i + 1) table ≡ take i table ++ pair ∷ [] = take_more table i pair inside ∙ ap (λ (p : ℕ × ℕ). take i table ++ p ∷ []) (sym is) in
    flat_map_push seg_bytes segs seg (flat_map avail_bytes (take i table)) so_far
    ∙ (ap (λ (l : List ℕ). flat_map avail_bytes (take i table) ++ l) same ∙
    (sym (flat_map_push avail_bytes (take i table) pair (flat_map avail_bytes (take i table)) refl) ∙ ap (flat_map avail_bytes) (sym next)))

-- four texts, one after another
texts_joined : (f host version panic msgbuf : List ℕ) (a i j k end : ℕ) → a ≤ i → i ≤ j → j ≤ k → k ≤ end → host ≡ slice_range f a i → version ≡ slice_range f i j → panic ≡ slice_range f j k
    → msgbuf ≡ slice_range f k end → host ++ version ++ panic ++ msgbuf ≡ slice_range f a end
texts_joined f host version panic msgbuf a i j k end first second third fourth h v p m =
    rw (h, v, p, m) (ap (λ (l : List ℕ). l ++ slice_range f j k ++ slice_range f k end) (slice-join f a i j first second) ∙
    (ap (λ (l : List ℕ). l ++ slice_range f k end) (slice-join f a j k (omega arith) third) ∙ slice-join f a k end (omega arith) fourth))

pub texts_read : (file : Option (List ℕ)) (host version panic msgbuf : List ℕ) (a i j k end : ℕ) → a ≤ i → i ≤ j → j ≤ k → k ≤ end → IfSome file (λ f. host ≡ slice_range f a i)
    → IfSome file (λ f. version ≡ slice_range f i j) → IfSome file (λ f. panic ≡ slice_range f j k) → IfSome file (λ f. msgbuf ≡ slice_range f k end)
    → IfSome file (λ f. host ++ version ++ panic ++ msgbuf ≡ slice_range f a end)
texts_read None host version panic msgbuf a i j k end first second third fourth h v p m = h
texts_read (Some f) host version panic msgbuf a i j k end first second third fourth h v p m = texts_joined f host version panic msgbuf a i j k end first second third fourth h v p m

-- what was read is what is kept, and its places are those of the fields
pub read_to : (file : Option (List ℕ)) (read kept : List ℕ) (a b i j : ℕ) → IfSome file (λ f. read ≡ slice_range f a b) → kept ≡ read → a ≡ i → b ≡ j → IfSome file (λ f. kept ≡ slice_range f i j)
read_to None read kept a b i j is same from to = is
read_to (Some f) read kept a b i j is same from to = same ∙ (is ∙ (ap (λ n. slice_range f n b) from ∙ ap (λ n. slice_range f i n) to))

-- two parts that were read one after another
pub joined_read : (file : Option (List ℕ)) (whole first second : List ℕ) (a i j : ℕ) → a ≤ i → i ≤ j → whole ≡ first ++ second
    → IfSome file (λ f. first ≡ slice_range f a i) → IfSome file (λ f. second ≡ slice_range f i j) → IfSome file (λ f. whole ≡ slice_range f a j)
joined_read None whole first second a i j one two is h k = h
joined_read (Some f) whole first second a i j one two is h k =
    is ∙ (ap (λ (l : List ℕ). l ++ second) h ∙ (ap (λ (l : List ℕ). slice_range f a i ++ l) k ∙ slice-join f a i j one two))
