-- No two images whose counts and lengths fit their fields have the same file.
use Rattle.std.proofs.Common.{◌≡◌, ℕ, ◌+◌, ◌<◌, ◌^◌, Bool, true, false, ◌==◌, if◌then◌else◌, List, [], ◌∷◌, ◌++◌, length, map, take, drop, slice_range, All, refl, sym, ◌∙◌, ap, arith}
use Rattle.std.specs.Int.{w64, from_le_bytes}
use Rattle.std.specs.List.{concat, flat_map}
use Rattle.std.proofs.lemmas.List.{append_assoc, drop_at, length-append, take_at}
use Rattle.std.proofs.lemmas.List.Elements.{All-head, All-tail}
use Rattle.std.proofs.lemmas.Nat.{from_le_bytes-to_le_bytes_8}
use Rattle.fd_bytes.specs.Field.{u32_le_at, u64_le_at}
use Rattle.fd_bytes.specs.declared.arch.Arch.{Arch}
use Rattle.fd_bytes.specs.declared.arch.Arch.TheVariants.{Amd64, Arm64, Riscv}
use Rattle.fd_bytes.proofs.Fields.{u32_le_at-spelled, u64_le_at-spelled}
use Rattle.fd_image.specs.Image.{AreBytes, IsTyped, MachineImage, is_known_paging}
use Rattle.fd_image.specs.declared.parts.Seg.{Seg}
use Rattle.fd_image.specs.declared.parts.Texts.{Texts}
use Rattle.fd_image.specs.declared.parts.Windows.{Windows}
use Rattle.fd_imgfile.specs.Spelling.{FitsFields, avail_bytes, front_of, memory_of, number_of, pair_bytes, seg_bytes, spelling_of, u32, u64}

-- where the same list is cut at the same place
pub same_parts : (a b c d : List ℕ) → length a ≡ length b → a ++ c ≡ b ++ d → (a ≡ b) × (c ≡ d)
same_parts a b c d len same = (
  sym (take_at a c (length b) len) ∙ (ap (take (length b)) same ∙ take_at b d (length b) refl),
  sym (drop_at a c (length b) len) ∙
      (ap (drop (length b)) same ∙ drop_at b d (length b) refl),
)

-- a number has one spelling
same_u64 : (m n : ℕ) → m < 2 ^ 64 → n < 2 ^ 64 → u64 m ≡ u64 n → m ≡ n
same_u64 m n fits_m fits_n same = sym (from_le_bytes-to_le_bytes_8 m fits_m) ∙ (ap (from_le_bytes w64) same ∙ from_le_bytes-to_le_bytes_8 n fits_n)

same_pair : (a b c d : ℕ) → a < 2 ^ 64 → b < 2 ^ 64 → c < 2 ^ 64 → d < 2 ^ 64 → pair_bytes a b ≡ pair_bytes c d → (a ≡ c) × (b ≡ d)
same_pair a b c d fits_a fits_b fits_c fits_d same =
    let parts : (u64 a ≡ u64 c) × (u64 b ≡ u64 d) = same_parts (u64 a) (u64 c) (u64 b) (u64 d) refl same in
    (same_u64 a c fits_a fits_c parts.0, same_u64 b d fits_b fits_d parts.1)

-- tables with as many places are as long
same_length : {X : Type 0} (f : X → List ℕ) (k : ℕ) (size : (x : X) → length (f x) ≡ k) (xs ys : List X) → length xs ≡ length ys → length (flat_map f xs) ≡ length (flat_map f ys)
same_length f k size [] [] len = refl
same_length f k size [] (y ∷ ys) len = absurd (omega arith)
same_length f k size (x ∷ xs) [] len = absurd (omega arith)
same_length f k size (x ∷ xs) (y ∷ ys) len =
    let rest : length (flat_map f xs) ≡ length (flat_map f ys) = same_length f k size xs ys (omega arith) in
    omega (arith, length-append (f x) (flat_map f xs), length-append (f y) (flat_map f ys), size x, size y, rest)

same_numbers : (xs ys : List ℕ) → length xs ≡ length ys → All (λ n. n < 2 ^ 64) xs → All (λ n. n < 2 ^ 64) ys → flat_map u64 xs ≡ flat_map u64 ys → xs ≡ ys
same_numbers [] [] len fits_x fits_y same = refl
same_numbers [] (y ∷ ys) len fits_x fits_y same = absurd (omega arith)
same_numbers (x ∷ xs) [] len fits_x fits_y same = absurd (omega arith)
same_numbers (x ∷ xs) (y ∷ ys) len fits_x fits_y same =
    let P : ℕ → Type 0 = λ n. n < 2 ^ 64 in
    let parts : (u64 x ≡ u64 y) × (flat_map u64 xs ≡ flat_map u64 ys) = same_parts (u64 x) (u64 y) (flat_map u64 xs) (flat_map u64 ys) refl same in
    let first : x ≡ y = same_u64 x y (All-head P x xs fits_x) (All-head P y ys fits_y) parts.0 in
    let rest : xs ≡ ys = same_numbers xs ys (omega arith) (All-tail P x xs fits_x) (All-tail P y ys fits_y) parts.1 in
    rw (first, rest) refl

abbrev FitPair : ℕ × ℕ → Type 0
FitPair p = (p.0 < 2 ^ 64) × (p.1 < 2 ^ 64)

one_pair : (a b c d : ℕ) → a ≡ c → b ≡ d → (let p : ℕ × ℕ = (a, b) in p) ≡ (c, d)
one_pair a b c d first second = rw (first, second) refl

same_pairs : (xs ys : List (ℕ × ℕ)) → length xs ≡ length ys → All FitPair xs → All FitPair ys → flat_map avail_bytes xs ≡ flat_map avail_bytes ys → xs ≡ ys
same_pairs [] [] len fits_x fits_y same = refl
same_pairs [] (y ∷ ys) len fits_x fits_y same = absurd (omega arith)
same_pairs (x ∷ xs) [] len fits_x fits_y same = absurd (omega arith)
same_pairs (x ∷ xs) (y ∷ ys) len fits_x fits_y same =
    let parts : (avail_bytes x ≡ avail_bytes y) × (flat_map avail_bytes xs ≡ flat_map avail_bytes ys) =
    same_parts (avail_bytes x) (avail_bytes y) (flat_map avail_bytes xs) (flat_map avail_bytes ys) refl same in
    let fit_x : FitPair x = All-head FitPair x xs fits_x in
    let fit_y : FitPair y = All-head FitPair y ys fits_y in
    let numbers : (x.0 ≡ y.0) × (x.1 ≡ y.1) = same_pair x.0 x.1 y.0 y.1 fit_x.0 fit_x.1 fit_y.0 fit_y.1 parts.0 in
    let first : x ≡ y = one_pair x.0 x.1 y.0 y.1 numbers.0 numbers.1 in
    let rest : xs ≡ ys = same_pairs xs ys (omega arith) (All-tail FitPair x xs fits_x) (All-tail FitPair y ys fits_y) parts.1 in
    rw (first, rest) refl

abbrev FitSeg : Seg → Type 0
FitSeg seg = (seg.start < 2 ^ 64) × (length seg.bytes < 2 ^ 64)

one_seg : (s t : ℕ) (b c : List ℕ) → s ≡ t → b ≡ c → (let x : Seg = record { start = s; bytes = b } in x) ≡ record { start = t; bytes = c }
one_seg s t b c first second = rw (first, second) refl

same_segs : (xs ys : List Seg) → length xs ≡ length ys → All FitSeg xs → All FitSeg ys → flat_map seg_bytes xs ≡ flat_map seg_bytes ys
    → concat (map (λ seg. seg.bytes) xs) ≡ concat (map (λ seg. seg.bytes) ys) → xs ≡ ys
same_segs [] [] len fits_x fits_y same memory = refl
same_segs [] (y ∷ ys) len fits_x fits_y same memory = absurd (omega arith)
same_segs (x ∷ xs) [] len fits_x fits_y same memory = absurd (omega arith)
same_segs (x ∷ xs) (y ∷ ys) len fits_x fits_y same memory =
    let parts : (seg_bytes x ≡ seg_bytes y) × (flat_map seg_bytes xs ≡ flat_map seg_bytes ys) = same_parts (seg_bytes x) (seg_bytes y) (flat_map seg_bytes xs) (flat_map seg_bytes ys) refl same in
    let fit_x : FitSeg x = All-head FitSeg x xs fits_x in
    let fit_y : FitSeg y = All-head FitSeg y ys fits_y in
    let numbers : (x.start ≡ y.start) × (length x.bytes ≡ length y.bytes) = same_pair x.start (length x.bytes) y.start (length y.bytes) fit_x.0 fit_x.1 fit_y.0 fit_y.1 parts.0 in
    let bytes : (x.bytes ≡ y.bytes) × (concat (map (λ seg. seg.bytes) xs) ≡ concat (map (λ seg. seg.bytes) ys)) =
    same_parts x.bytes y.bytes (concat (map (λ seg. seg.bytes) xs)) (concat (map (λ seg. seg.bytes) ys)) numbers.1 memory in
    let first : x ≡ y = one_seg x.start y.start x.bytes y.bytes numbers.0 bytes.0 in
    let rest : xs ≡ ys = same_segs xs ys (omega arith) (All-tail FitSeg x xs fits_x) (All-tail FitSeg y ys fits_y) parts.1 bytes.1 in
    rw (first, rest) refl

pub fits_number : (arch : Arch) (sv48 : Bool) → number_of arch sv48 < 2 ^ 32
fits_number Amd64 sv48 = omega arith
fits_number Arm64 sv48 = omega arith
fits_number Riscv true = omega arith
fits_number Riscv false = omega arith

-- a number is read in one way
arch_numbered : ℕ → Arch
arch_numbered n = if n == 1 then Amd64 else if n == 2 then Arm64 else Riscv

numbered : (arch : Arch) (sv48 : Bool) → is_known_paging arch sv48 ≡ true → (arch_numbered (number_of arch sv48) ≡ arch) × ((number_of arch sv48 == 4) ≡ sv48)
unfolding arch_numbered
numbered Amd64 false known = (refl, refl)
numbered Amd64 true known = absurd (cc)
numbered Arm64 false known = (refl, refl)
numbered Arm64 true known = absurd (cc)
numbered Riscv false known = (refl, refl)
numbered Riscv true known = (refl, refl)

same_arch : (a b : Arch) (s t : Bool) → is_known_paging a s ≡ true → is_known_paging b t ≡ true → number_of a s ≡ number_of b t → (a ≡ b) × (s ≡ t)
same_arch a b s t known_a known_b same = (
  sym (numbered a s known_a).0 ∙ (ap arch_numbered same ∙ (numbered b t known_b).0),
  sym (numbered a s known_a).1 ∙ (ap (λ n. n == 4) same ∙ (numbered b t known_b).1),
)

-- fields at the same place of the same bytes
at_u32 : (f g : List ℕ) (at m n : ℕ) → f ≡ g → m < 2 ^ 32 → n < 2 ^ 32 → u32 m ≡ slice_range f at (at + 4) → u32 n ≡ slice_range g at (at + 4) → m ≡ n
at_u32 f g at m n same fits_m fits_n left right = sym (u32_le_at-spelled f at m fits_m left) ∙ (ap (λ (l : List ℕ). u32_le_at l at) same ∙ u32_le_at-spelled g at n fits_n right)

at_u64 : (f g : List ℕ) (at m n : ℕ) → f ≡ g → m < 2 ^ 64 → n < 2 ^ 64 → u64 m ≡ slice_range f at (at + 8) → u64 n ≡ slice_range g at (at + 8) → m ≡ n
at_u64 f g at m n same fits_m fits_n left right = sym (u64_le_at-spelled f at m fits_m left) ∙ (ap (λ (l : List ℕ). u64_le_at l at) same ∙ u64_le_at-spelled g at n fits_n right)

-- the parts of a file, one after another
parts_in_order : (front segs avail wanted host version panic msgbuf memory : List ℕ)
    → front ++ (segs ++ avail ++ wanted) ++ (host ++ version ++ panic ++ msgbuf) ++ memory ≡ front ++ (segs ++ (avail ++ (wanted ++ (host ++ (version ++ (panic ++ (msgbuf ++ memory)))))))
parts_in_order front segs avail wanted host version panic msgbuf memory = simp append_assoc

pub spelling_in_order : (m : MachineImage)
    → spelling_of m ≡ front_of m ++ (flat_map seg_bytes m.segs ++ (flat_map avail_bytes m.avail ++ (flat_map u64 m.wanted ++
    (m.texts.host ++ (m.texts.version ++ (m.texts.panic ++ (m.texts.msgbuf ++ memory_of m)))))))
unfolding spelling_of
spelling_in_order m = parts_in_order (front_of m) (flat_map seg_bytes m.segs) (flat_map avail_bytes m.avail) (flat_map u64 m.wanted) m.texts.host m.texts.version m.texts.panic m.texts.msgbuf
    (memory_of m)

one_windows : (a b c d e a' b' c' d' e' : ℕ) → a ≡ a' → b ≡ b' → c ≡ c' → d ≡ d' → e ≡ e' →
    (let w : Windows = record { kernbase = a; kernspan = b; dmapbase = c; dmapend = d; dmapphys = e } in w) ≡ record { kernbase = a'; kernspan = b'; dmapbase = c'; dmapend = d'; dmapphys = e' }
one_windows a b c d e a' b' c' d' e' ea eb ec ed ee = rw (ea, eb, ec, ed, ee) refl

one_texts : (a b c d : List ℕ) (t : ℕ) (a' b' c' d' : List ℕ) (t' : ℕ) → a ≡ a' → b ≡ b' → c ≡ c' → d ≡ d' → t ≡ t' →
    (let x : Texts = record { host = a; version = b; panic = c; msgbuf = d; time = t } in x) ≡ record { host = a'; version = b'; panic = c'; msgbuf = d'; time = t' }
one_texts a b c d t a' b' c' d' t' ea eb ec ed et = rw (ea, eb, ec, ed, et) refl

one_image : (a a' : Arch) (p p' : Bool) (s s' : List Seg) (v v' : List (ℕ × ℕ)) (w w' : List ℕ) (r r' : ℕ) (k k' : Windows)
    (t t' : Texts) → a ≡ a' → p ≡ p' → s ≡ s' → v ≡ v' → w ≡ w' → r ≡ r' → k ≡ k' → t ≡ t' →
    (let x : MachineImage = record { arch = a; sv48 = p; segs = s; avail = v; wanted = w; root = r; windows = k; texts = t } in x)
    ≡ record { arch = a'; sv48 = p'; segs = s'; avail = v'; wanted = w'; root = r'; windows = k'; texts = t' }
one_image a a' p p' s s' v v' w w' r r' k k' t t' ea ep es ev ew er ek et = rw (ea, ep, es, ev, ew, er, ek, et) refl

fit_segs : (segs : List Seg) → All (λ seg. (seg.start < 2 ^ 64) × AreBytes seg.bytes) segs → All (λ seg. length seg.bytes < 2 ^ 64) segs → All FitSeg segs
fit_segs segs typed sizes = λ k d below. ((typed k d below).0, sizes k d below)

pub one_spelling : (m n : MachineImage) → IsTyped m → IsTyped n → FitsFields m → FitsFields n → spelling_of m ≡ spelling_of n → m ≡ n
one_spelling m n typed_m typed_n fits_m fits_n same =
    let whole = sym (spelling_in_order m) ∙ (same ∙ spelling_in_order n) in
    let a = same_parts (front_of m) (front_of n) _ _ refl whole in
    let number = λ (at i j : ℕ). at_u32 (front_of m) (front_of n) at i j a.0 in
    let wide = λ (at i j : ℕ). at_u64 (front_of m) (front_of n) at i j a.0 in
    let arch = same_arch m.arch n.arch m.sv48 n.sv48 fits_m.paging fits_n.paging
    (number 20 (number_of m.arch m.sv48) (number_of n.arch n.sv48) (fits_number m.arch m.sv48) (fits_number n.arch n.sv48) refl refl) in
    let segs_count : length m.segs ≡ length n.segs = number 24 (length m.segs) (length n.segs) fits_m.counts.0 fits_n.counts.0 refl refl in
    let avail_count : length m.avail ≡ length n.avail = number 28 (length m.avail) (length n.avail) fits_m.counts.1 fits_n.counts.1 refl refl in
    let wanted_count : length m.wanted ≡ length n.wanted = number 32 (length m.wanted) (length n.wanted) fits_m.counts.2 fits_n.counts.2 refl refl in
    let host_length : length m.texts.host ≡ length n.texts.host = number 36 (length m.texts.host) (length n.texts.host) fits_m.names.0 fits_n.names.0 refl refl in
    let version_length : length m.texts.version ≡ length n.texts.version = number 40 (length m.texts.version) (length n.texts.version) fits_m.names.1 fits_n.names.1 refl refl in
    let panic_length : length m.texts.panic ≡ length n.texts.panic = number 44 (length m.texts.panic) (length n.texts.panic) fits_m.names.2 fits_n.names.2 refl refl in
    let msgbuf_length : length m.texts.msgbuf ≡ length n.texts.msgbuf = number 48 (length m.texts.msgbuf) (length n.texts.msgbuf) fits_m.msgbuf fits_n.msgbuf refl refl in
    let root : m.root ≡ n.root = wide 56 m.root n.root typed_m.root typed_n.root refl refl in
    let kernbase : m.windows.kernbase ≡ n.windows.kernbase = wide 64 m.windows.kernbase n.windows.kernbase typed_m.kernel_window.0 typed_n.kernel_window.0 refl refl in
    let kernspan : m.windows.kernspan ≡ n.windows.kernspan = wide 72 m.windows.kernspan n.windows.kernspan typed_m.kernel_window.1 typed_n.kernel_window.1 refl refl in
    let dmapbase : m.windows.dmapbase ≡ n.windows.dmapbase = wide 80 m.windows.dmapbase n.windows.dmapbase typed_m.direct_map.0 typed_n.direct_map.0 refl refl in
    let dmapend : m.windows.dmapend ≡ n.windows.dmapend = wide 88 m.windows.dmapend n.windows.dmapend typed_m.direct_map.1 typed_n.direct_map.1 refl refl in
    let dmapphys : m.windows.dmapphys ≡ n.windows.dmapphys = wide 96 m.windows.dmapphys n.windows.dmapphys typed_m.direct_map.2 typed_n.direct_map.2 refl refl in
    let time : m.texts.time ≡ n.texts.time = wide 104 m.texts.time n.texts.time typed_m.time typed_n.time refl refl in
    let b = same_parts (flat_map seg_bytes m.segs) (flat_map seg_bytes n.segs) _ _ (same_length seg_bytes 16 (λ seg. refl) m.segs n.segs segs_count) a.1 in
    let c = same_parts (flat_map avail_bytes m.avail) (flat_map avail_bytes n.avail) _ _ (same_length avail_bytes 16 (λ pair. refl) m.avail n.avail avail_count) b.1 in
    let d = same_parts (flat_map u64 m.wanted) (flat_map u64 n.wanted) _ _ (same_length u64 8 (λ page. refl) m.wanted n.wanted wanted_count) c.1 in
    let host = same_parts m.texts.host n.texts.host _ _ host_length d.1 in
    let version = same_parts m.texts.version n.texts.version _ _ version_length host.1 in
    let panic = same_parts m.texts.panic n.texts.panic _ _ panic_length version.1 in
    let msgbuf = same_parts m.texts.msgbuf n.texts.msgbuf (memory_of m) (memory_of n) msgbuf_length panic.1 in
    let segs : m.segs ≡ n.segs = same_segs m.segs n.segs segs_count (fit_segs m.segs typed_m.segs fits_m.sizes) (fit_segs n.segs typed_n.segs fits_n.sizes) b.0 msgbuf.1 in
    one_image m.arch n.arch m.sv48 n.sv48 m.segs n.segs m.avail n.avail m.wanted n.wanted m.root n.root m.windows n.windows m.texts n.texts arch.0 arch.1 segs
    (same_pairs m.avail n.avail avail_count typed_m.avail typed_n.avail c.0) (same_numbers m.wanted n.wanted wanted_count typed_m.wanted typed_n.wanted d.0) root
    (one_windows m.windows.kernbase m.windows.kernspan m.windows.dmapbase m.windows.dmapend m.windows.dmapphys
    n.windows.kernbase n.windows.kernspan n.windows.dmapbase n.windows.dmapend n.windows.dmapphys kernbase kernspan dmapbase dmapend dmapphys)
    (one_texts m.texts.host m.texts.version m.texts.panic m.texts.msgbuf m.texts.time n.texts.host n.texts.version n.texts.panic n.texts.msgbuf n.texts.time host.0 version.0 panic.0 msgbuf.0 time)
