-- What is read from the bytes of a header.
use Rattle.std.proofs.Common.{◌≡◌, ℕ, zero, suc, Bool, true, false, cond, ◌-◌, ◌<◌, List, [], ◌∷◌, ◌++◌, get_or, length, take, drop, replicate, Err}
use Rattle.std.proofs.Common.{Ok, refl, sym, ◌∙◌, ap, arith, lit<, length-append}
use Rattle.std.proofs.lemmas.List.{append-nil, length-replicate}
use Rattle.std.proofs.lemmas.Slice.Eq.{bytes_eq-Decides}
use Rattle.std.specs.Int.{w32, to_be_bytes}
use Rattle.std.specs.List.{concat}
use Rattle.std.specs.Str.{bytes_eq}
use Rattle.fd_bytes.specs.Field.{u32_be_at}
use Rattle.fd_bytes.specs.Label.{IsByteText, IsText, text_of}
use Rattle.fd_bytes.specs.Page.{filled}
use Rattle.fd_bytes.proofs.Fields.{u32_be_at-spelled, u64_be_at-spelled}
use Rattle.fd_bytes.proofs.Texts.{text_of-append}
use Rattle.fd_kdh.specs.Parity.{words, xor_all}
use Rattle.fd_kdh.specs.declared.header.Header.{Header}
use Rattle.fd_kdh.specs.declared.header.HeaderFault.TheVariants.{Cleared, NoMagic, TextDump}
use Rattle.fd_kdh.specs.Header.{FitsFields, IsWithinFields, by_magic, by_parity, by_version, cleared_magic, decoded, dump_header}
use Rattle.fd_kdh.specs.Header.{fields_before_parity, fields_of, live_magic, text_magic}
use Rattle.fd_kdh.proofs.Bytes.{AllBytes, AllBytes-append, AllBytes-be32, AllBytes-be64, AllBytes-concat, AllBytes-from_All, AllBytes-from_test}
use Rattle.fd_kdh.proofs.Bytes.{AllBytes-zeros, EachBytes, xor_all-fits}
use Rattle.fd_kdh.proofs.Parities.{sealed}
use Rattle.fd_kdh.proofs.Parts.{AreSized, element, length-parts, part, start}

-- a label in its field
length-filled : (n : ℕ) (text : List ℕ) → length text < n → length (filled n text) ≡ n
length-filled n text fits = omega (arith, length-append text (replicate (n - length text) 0), length-replicate {A = ℕ} (n - length text) 0)

text_of-zeros : (n : ℕ) → text_of (replicate n 0) ≡ []
text_of-zeros zero = refl
text_of-zeros (suc n) = refl

text_of-filled : (n : ℕ) (text : List ℕ) → IsText text → text_of (filled n text) ≡ text
text_of-filled n text is =
    text_of-append text (replicate (n - length text) 0) is
    ∙ ap (λ (l : List ℕ). text ++ l) (text_of-zeros (n - length text))
    ∙ append-nil text

AllBytes-filled : (n : ℕ) (text : List ℕ) → IsByteText text → AllBytes (filled n text)
AllBytes-filled n text is = AllBytes-append text (replicate (n - length text) 0) (AllBytes-from_All text is.bytes) (AllBytes-zeros (n - length text))

-- the sizes of the fields
abbrev sizes : List ℕ
sizes = 20 ∷ 12 ∷ 4 ∷ 4 ∷ 8 ∷ 8 ∷ 4 ∷ 4 ∷ 64 ∷ 192 ∷ 175 ∷ 1 ∷ 8 ∷ 4 ∷ []

abbrev parity_word : Header → List ℕ
parity_word h = to_be_bytes w32 (xor_all (words (concat (fields_before_parity h))))

sized : (h : Header) → FitsFields h → AreSized sizes (fields_before_parity h)
sized h fits =
    let texts : AreSized (drop 8 sizes) (drop 8 (fields_before_parity h)) =
    (length-filled 64 h.hostname fits.hostname, (length-filled 192 h.versionstring fits.versionstring, (length-filled 175 h.panicstring fits.panicstring, (refl, (refl, (refl, tt)))))) in
    (refl, (length-filled 12 h.architecture fits.architecture, (refl, (refl, (refl, (refl, (refl, (refl, texts))))))))

magic_bytes : AllBytes live_magic
magic_bytes = AllBytes-from_test live_magic refl

each_bytes : (h : Header) → IsWithinFields h → EachBytes (fields_before_parity h)
each_bytes h within =
    let last : EachBytes (drop 11 (fields_before_parity h)) = ((within.compression, tt), (AllBytes-be64 h.dumpextent, (AllBytes-be32 0, tt))) in
    let texts : EachBytes (drop 8 (fields_before_parity h)) =
    (AllBytes-filled 64 h.hostname within.hostname, (AllBytes-filled 192 h.versionstring within.versionstring, (AllBytes-filled 175 h.panicstring within.panicstring, last))) in
    let numbers : EachBytes (drop 4 (fields_before_parity h)) =
    (AllBytes-be64 h.dumplength, (AllBytes-be64 h.dumptime, (AllBytes-be32 h.dumpkeysize, (AllBytes-be32 h.blocksize, texts)))) in
    (magic_bytes, (AllBytes-filled 12 h.architecture within.architecture, (AllBytes-be32 4, (AllBytes-be32 h.architectureversion, numbers))))

-- all fields but the parity word have 508 bytes, and a header has 512
length-fields : (h : Header) → FitsFields h → length (concat (fields_before_parity h)) ≡ 508
length-fields h fits = length-parts sizes (fields_before_parity h) (sized h fits)

pub length-dump_header : (h : Header) → FitsFields h → length (dump_header h) ≡ 512
unfolding dump_header
length-dump_header h fits =
    let front : List ℕ = concat (fields_before_parity h) in
    omega (arith, length-fields h fits, length-append front (to_be_bytes w32 (xor_all (words front))))

-- the exclusive or of its words is 0
pub xor_all-dump_header : (h : Header) → IsWithinFields h → xor_all (words (dump_header h)) ≡ 0
unfolding dump_header
xor_all-dump_header h within =
    let front : List ℕ = concat (fields_before_parity h) in
    sealed front (xor_all (words front)) (omega (arith, length-fields h within.fits)) refl (xor_all-fits front (AllBytes-concat (fields_before_parity h) (each_bytes h within)))

module _ (h : Header) (within : IsWithinFields h) where
  abbrev k : List ℕ
  k = concat (fields_before_parity h) ++ parity_word h

  magic : take 20 k ≡ live_magic
  magic = part sizes (fields_before_parity h) (parity_word h) 0 (sized h within.fits) (lit< tt)

  version : u32_be_at k 32 ≡ 4
  version = u32_be_at-spelled k 32 4 (lit< tt) (sym (part sizes (fields_before_parity h) (parity_word h) 2 (sized h within.fits) (lit< tt)))

  text : (n i : ℕ) → i < 14 → (t : List ℕ) → IsByteText t → get_or (fields_before_parity h) i [] ≡ filled n t → text_of (take (get_or sizes i 0) (drop (start i sizes) k)) ≡ t
  text n i inside t is field = ap text_of (part sizes (fields_before_parity h) (parity_word h) i (sized h within.fits) inside ∙ field) ∙ text_of-filled n t is.no_zero

  -- each field holds what the header has there
  same : fields_of k ≡ h
  unfolding fields_of
  same = λ i. record {
    architecture = text 12 1 (lit< tt) h.architecture within.architecture refl i;
    architectureversion = u32_be_at-spelled k 36 h.architectureversion within.architectureversion (sym (part sizes (fields_before_parity h) (parity_word h) 3 (sized h within.fits) (lit< tt))) i;
    dumplength = u64_be_at-spelled k 40 h.dumplength within.dumplength (sym (part sizes (fields_before_parity h) (parity_word h) 4 (sized h within.fits) (lit< tt))) i;
    dumptime = u64_be_at-spelled k 48 h.dumptime within.dumptime (sym (part sizes (fields_before_parity h) (parity_word h) 5 (sized h within.fits) (lit< tt))) i;
    dumpkeysize = u32_be_at-spelled k 56 h.dumpkeysize within.dumpkeysize (sym (part sizes (fields_before_parity h) (parity_word h) 6 (sized h within.fits) (lit< tt))) i;
    blocksize = u32_be_at-spelled k 60 h.blocksize within.blocksize (sym (part sizes (fields_before_parity h) (parity_word h) 7 (sized h within.fits) (lit< tt))) i;
    hostname = text 64 8 (lit< tt) h.hostname within.hostname refl i;
    versionstring = text 192 9 (lit< tt) h.versionstring within.versionstring refl i;
    panicstring = text 175 10 (lit< tt) h.panicstring within.panicstring refl i;
    compression = element k 495 h.compression (part sizes (fields_before_parity h) (parity_word h) 11 (sized h within.fits) (lit< tt)) i;
    dumpextent = u64_be_at-spelled k 496 h.dumpextent within.dumpextent (sym (part sizes (fields_before_parity h) (parity_word h) 12 (sized h within.fits) (lit< tt))) i;
  }

  zero_sum : xor_all (words k) ≡ 0
  unfolding dump_header
  zero_sum = xor_all-dump_header h within

  back : decoded k ≡ Ok h
  unfolding decoded
  back = ap (λ m. by_magic m k) magic ∙ ap (λ v. by_version v k) version ∙ ap (λ s. by_parity s k) zero_sum ∙ ap (λ d. Ok d) same

-- a header is read back from its bytes
pub decoded-dump_header : (h : Header) → IsWithinFields h → decoded (dump_header h) ≡ Ok h
unfolding dump_header
decoded-dump_header h within = back h within

-- only bytes that begin with the live magic are a header
pub take-decoded : (bytes : List ℕ) (h : Header) → decoded bytes ≡ Ok h → take 20 bytes ≡ live_magic
unfolding decoded
take-decoded bytes h is =
    by_tests (bytes_eq text_magic (take 20 bytes)) (bytes_eq cleared_magic (take 20 bytes)) (bytes_eq live_magic (take 20 bytes)) refl is
  where
    by_tests : (is_text is_cleared is_live : Bool) → is_live ≡ bytes_eq live_magic (take 20 bytes)
        → cond is_text (Err TextDump) (cond is_cleared (Err Cleared) (cond is_live (by_version (u32_be_at bytes 32) bytes) (Err NoMagic))) ≡ Ok h → take 20 bytes ≡ live_magic
    by_tests true is_cleared is_live live is = absurd (cc)
    by_tests false true is_live live is = absurd (cc)
    by_tests false false false live is = absurd (cc)
    by_tests false false true live is = sym ((bytes_eq-Decides live_magic (take 20 bytes)).0 (sym live))
