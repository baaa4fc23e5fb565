use Rattle.std.proofs.Common.{◌≡◌, [], ◌∷◌, ◌++◌, List, ℕ, length, ◌∙◌, ap, append_assoc, arith}
use Rattle.std.proofs.lemmas.List.{append-nil}
use Rattle.std.specs.Int.{w32, w64, to_be_bytes}
use Rattle.std.specs.List.{concat}
use Rattle.fd_bytes.specs.Page.{filled}
use Rattle.fd_kdh.specs.Header.{IsWithinFields, decoded, dump_header, fields_before_parity, live_magic}
use Rattle.fd_kdh.specs.Parity.{words, xor_all}
use Rattle.fd_kdh.proofs.Headers.{decoded-dump_header, xor_all-dump_header}
use Rattle.fd_kdh.proofs.encoding.encode.Goals as goal

-- one more part
onto : (old new part front : List ℕ) → new ≡ old ++ part → old ≡ front → new ≡ front ++ part
onto old new part front is was = is ∙ ap (λ (l : List ℕ). l ++ part) was

-- the page before the parity word is put
filled_page : (c : goal.After-result-1) → c.put_u32_be-5.new.self ≡ concat (fields_before_parity c.args.header.now)
filled_page c =
    let h = c.args.header.now in
    let s0 : c.put.new.self ≡ live_magic = onto _ _ live_magic [] c.put.ensures.bytes c.new-page.ensures in
    let s1 = onto _ _ (filled 12 h.architecture) _ c.put_label.ensures.bytes s0 in
    let s2 = onto _ _ (to_be_bytes w32 4) _ c.put_u32_be.ensures.bytes s1 in
    let s3 = onto _ _ (to_be_bytes w32 h.architectureversion) _ c.put_u32_be-2.ensures.bytes s2 in
    let s4 = onto _ _ (to_be_bytes w64 h.dumplength) _ c.put_u64_be.ensures.bytes s3 in
    let s5 = onto _ _ (to_be_bytes w64 h.dumptime) _ c.put_u64_be-2.ensures.bytes s4 in
    let s6 = onto _ _ (to_be_bytes w32 h.dumpkeysize) _ c.put_u32_be-3.ensures.bytes s5 in
    let s7 = onto _ _ (to_be_bytes w32 h.blocksize) _ c.put_u32_be-4.ensures.bytes s6 in
    let s8 = onto _ _ (filled 64 h.hostname) _ c.put_label-2.ensures.bytes s7 in
    let s9 = onto _ _ (filled 192 h.versionstring) _ c.put_label-3.ensures.bytes s8 in
    let s10 = onto _ _ (filled 175 h.panicstring) _ c.put_label-4.ensures.bytes s9 in
    let s11 = onto _ _ (h.compression ∷ []) _ c.put_u8.ensures.bytes s10 in
    let s12 = onto _ _ (to_be_bytes w64 h.dumpextent) _ c.put_u64_be-3.ensures.bytes s11 in
    let s13 = onto _ _ (to_be_bytes w32 0) _ c.put_u32_be-5.ensures.bytes s12 in
    s13 ∙ simp (append_assoc, append-nil)

-- what the calls that put the fields tell of them
within : (c : goal.After-result-1) → IsWithinFields c.args.header.now
within c = record {
  fits = c.requires;
  architecture = c.put_label.ensures.text;
  architectureversion = c.put_u32_be-2.ensures.fits;
  dumplength = c.put_u64_be.ensures.fits;
  dumptime = c.put_u64_be-2.ensures.fits;
  dumpkeysize = c.put_u32_be-3.ensures.fits;
  blocksize = c.put_u32_be-4.ensures.fits;
  hostname = c.put_label-2.ensures.text;
  versionstring = c.put_label-3.ensures.text;
  panicstring = c.put_label-4.ensures.text;
  compression = c.put_u8.ensures.fits;
  dumpextent = c.put_u64_be-3.ensures.fits;
}

-- the page is full with it
full : (c : goal.After-result-1) → length c.put_u32_be-6.new.self ≡ 512
full c =
    let front : length (c.new-page.result) ≡ 0 = ap length c.new-page.ensures in
    omega (
      arith,
      front,
      c.put.ensures.len,
      c.put_label.ensures.len,
      c.put_u32_be.ensures.len,
      c.put_u32_be-2.ensures.len,
      c.put_u64_be.ensures.len,
      c.put_u64_be-2.ensures.len,
      c.put_u32_be-3.ensures.len,
      c.put_u32_be-4.ensures.len,
      c.put_label-2.ensures.len,
      c.put_label-3.ensures.len,
      c.put_label-4.ensures.len,
      c.put_u8.ensures.len,
      c.put_u64_be-3.ensures.len,
      c.put_u32_be-5.ensures.len,
      c.put_u32_be-6.ensures.len,
    )

-- and it has the header's bytes
all : (c : goal.After-result-1) → c.bytes.result.now ≡ dump_header c.args.header.now
unfolding dump_header
all c =
    let sum : c.xor_of_words-sum.result ≡ xor_all (words (concat (fields_before_parity c.args.header.now))) =
    c.xor_of_words-sum.ensures ∙ ap (λ (l : List ℕ). xor_all (words l)) (c.filled.ensures ∙ filled_page c) in
    c.bytes.ensures.full (full c) ∙ c.put_u32_be-6.ensures.bytes ∙ (λ i. filled_page c i ++ to_be_bytes w32 (sum i))

pub returns-clause-bytes : goal.returns-clause-bytes
returns-clause-bytes c = all c

pub returns-clause-parity : goal.returns-clause-parity
returns-clause-parity c = ap (λ (l : List ℕ). xor_all (words l)) (all c) ∙ xor_all-dump_header c.args.header.now (within c)

pub returns-clause-read_back : goal.returns-clause-read_back
returns-clause-read_back c = ap decoded (all c) ∙ decoded-dump_header c.args.header.now (within c)
