-- The tables, then the texts, then the memory.
use Rattle.std.proofs.Common.{◌≡◌, ◌+◌, ◌<◌, ◌^◌, ◌++◌, ℕ, List, [], ◌∷◌, length, map, refl, subst, ap, ◌∙◌, append_assoc, arith, length-append}
use Rattle.std.proofs.lemmas.List.{append-nil}
use Rattle.std.specs.List.{concat, flat_map}
use Rattle.fd_image.specs.Image.{MachineImage}
use Rattle.fd_image.specs.declared.parts.Seg.{Seg}
use Rattle.fd_image.specs.declared.parts.Texts.{Texts}
use Rattle.fd_imgfile.specs.Front.{IsWithinLimits, front_in}
use Rattle.fd_imgfile.specs.Spelling.{avail_bytes, front_of, memory_of, seg_bytes, spelling_of, tables_of, texts_of, u64}
use Rattle.fd_site.specs.Writing.{BeginsOn, WritesOn}
use Rattle.fd_imgfile.proofs.Unfaulted.{eights, memory_length, sixteens}
use Rattle.fd_site.proofs.Writing.{begins_first, begins_then, if_ok, on_err, when_err, when_ok, writes_then, written_to}
use Rattle.fd_imgfile.proofs.write.write_contents.Goals as goal

-- what stands before the texts
abbrev before_texts : MachineImage → List ℕ
before_texts m = front_of m ++ tables_of m

whole : (m : MachineImage) → (before_texts m ++ texts_of m.texts) ++ memory_of m ≡ spelling_of m
unfolding spelling_of
whole m = refl

in_parts : (t : Texts) (host version panic msgbuf : List ℕ) → host ≡ t.host → version ≡ t.version → panic ≡ t.panic → msgbuf ≡ t.msgbuf
    → host ++ (version ++ (panic ++ (msgbuf ++ []))) ≡ texts_of t
in_parts t host version panic msgbuf a b c d = (λ k. a k ++ (b k ++ (c k ++ (d k ++ [])))) ∙ simp (append_assoc, append-nil)

memory_is : (segs : List Seg) → flat_map (λ seg. seg.bytes) segs ≡ concat (map (λ seg. seg.bytes) segs)
memory_is [] = refl
memory_is (seg ∷ segs) = ap (λ (l : List ℕ). seg.bytes ++ l) (memory_is segs)

-- neither is long
length-before_texts : (m : MachineImage) → IsWithinLimits (front_in m) → length (before_texts m) < 2 ^ 32
length-before_texts m limits =
    omega (
      arith,
      limits.segs,
      limits.avail,
      limits.wanted,
      length-append (front_of m) (tables_of m),
      length-append (flat_map seg_bytes m.segs ++ flat_map avail_bytes m.avail) (flat_map u64 m.wanted),
      length-append (flat_map seg_bytes m.segs) (flat_map avail_bytes m.avail),
      sixteens seg_bytes (λ seg. refl) m.segs,
      sixteens avail_bytes (λ pair. refl) m.avail,
      eights m.wanted,
    )

length-texts : (m : MachineImage) → IsWithinLimits (front_in m) → length (texts_of m.texts) < 2 ^ 32
length-texts m limits =
    omega (
      arith,
      limits.host,
      limits.version,
      limits.panic,
      limits.msgbuf,
      length-append (m.texts.host ++ m.texts.version ++ m.texts.panic) m.texts.msgbuf,
      length-append (m.texts.host ++ m.texts.version) m.texts.panic,
      length-append m.texts.host m.texts.version,
    )

pub write_parts-requires-clause-made : goal.write_parts-requires-clause-made
write_parts-requires-clause-made g c =
    written_to c.args.name.now 0 c.in_ok-texts_at.texts_at _ _ _ c.requires.made c.in_ok-texts_at.ensures.whole (omega (arith, c.in_ok-texts_at.ensures.end))

pub write_parts-requires-clause-fits : goal.write_parts-requires-clause-fits
write_parts-requires-clause-fits g c =
    let m : MachineImage = c.args.image.now in
    let t = c.texts-texts.ensures.value in
    let parts = in_parts m.texts c.as_slice.result.now c.as_slice-2.result.now c.as_slice-3.result.now c.as_slice-4.result.now (c.as_slice.ensures ∙ ap (λ x. x.host) t)
    (c.as_slice-2.ensures ∙ ap (λ x. x.version) t) (c.as_slice-3.ensures ∙ ap (λ x. x.panic) t) (c.as_slice-4.ensures ∙ ap (λ x. x.msgbuf) t) in
    let limits = c.is_within_limits.ensures.fields in
    omega (arith, ap length parts, c.in_ok-texts_at.ensures.end, length-before_texts m limits, length-texts m limits)

pub returns-in_err-texts_at-clause-begun : goal.returns-in_err-texts_at-clause-begun
returns-in_err-texts_at-clause-begun g c =
    let m : MachineImage = c.args.image.now in
    let name : List ℕ = c.args.name.now in
    let old = (g.S.Site.seen c.args.site.now).told in
    let new = (g.S.Site.seen c.write_tables.new.site).told in
    on_err c.from_residual.result (subst (λ (l : List ℕ). BeginsOn name 0 l old new) (whole m)
    (begins_first name 0 (before_texts m ++ texts_of m.texts) (memory_of m) old new
    (begins_first name 0 (before_texts m) (texts_of m.texts) old new c.in_err-texts_at.ensures.begun)))

pub returns-in_err-memory_at-clause-begun : goal.returns-in_err-memory_at-clause-begun
returns-in_err-memory_at-clause-begun g c =
    let m : MachineImage = c.args.image.now in
    let name : List ℕ = c.args.name.now in
    let old = (g.S.Site.seen c.args.site.now).told in
    let mid = (g.S.Site.seen c.write_tables.new.site).told in
    let new = (g.S.Site.seen c.write_parts.new.site).told in
    let t = c.texts-texts.ensures.value in
    let parts = in_parts m.texts c.as_slice.result.now c.as_slice-2.result.now c.as_slice-3.result.now c.as_slice-4.result.now (c.as_slice.ensures ∙ ap (λ x. x.host) t)
    (c.as_slice-2.ensures ∙ ap (λ x. x.version) t) (c.as_slice-3.ensures ∙ ap (λ x. x.panic) t) (c.as_slice-4.ensures ∙ ap (λ x. x.msgbuf) t) in
    on_err c.from_residual-in_err-memory_at.result (subst (λ (l : List ℕ). BeginsOn name 0 l old new) (whole m)
    (begins_first name 0 (before_texts m ++ texts_of m.texts) (memory_of m) old new
    (begins_then name 0 c.in_ok-texts_at.texts_at (before_texts m) (texts_of m.texts) old mid new (omega (arith, c.in_ok-texts_at.ensures.end)) c.in_ok-texts_at.ensures.whole
    (subst (λ (l : List ℕ). BeginsOn name c.in_ok-texts_at.texts_at l mid new) parts c.in_err-memory_at.ensures.begun))))

pub write_segments-requires-clause-made : goal.write_segments-requires-clause-made
write_segments-requires-clause-made g c =
    written_to c.args.name.now c.in_ok-texts_at.texts_at c.in_ok-memory_at.memory_at _ _ _
    (written_to c.args.name.now 0 c.in_ok-texts_at.texts_at _ _ _ c.requires.made c.in_ok-texts_at.ensures.whole (omega (arith, c.in_ok-texts_at.ensures.end)))
    c.in_ok-memory_at.ensures.whole c.in_ok-memory_at.ensures.end

pub write_segments-requires-clause-fits : goal.write_segments-requires-clause-fits
write_segments-requires-clause-fits g c =
    let m : MachineImage = c.args.image.now in
    let t = c.texts-texts.ensures.value in
    let parts = in_parts m.texts c.as_slice.result.now c.as_slice-2.result.now c.as_slice-3.result.now c.as_slice-4.result.now (c.as_slice.ensures ∙ ap (λ x. x.host) t)
    (c.as_slice-2.ensures ∙ ap (λ x. x.version) t) (c.as_slice-3.ensures ∙ ap (λ x. x.panic) t) (c.as_slice-4.ensures ∙ ap (λ x. x.msgbuf) t) in
    let limits = c.is_within_limits.ensures.fields in
    let memory = ap (flat_map (λ (seg : Seg). seg.bytes)) c.segs.ensures.value ∙ memory_is m.segs in
    omega (
      arith,
      ap length parts,
      ap length memory,
      memory_length m,
      c.is_within_limits.ensures.memory,
      c.in_ok-texts_at.ensures.end,
      c.in_ok-memory_at.ensures.end,
      length-before_texts m limits,
      length-texts m limits,
    )

pub returns-clause-len : goal.returns-clause-len
returns-clause-len g c =
    let m : MachineImage = c.args.image.now in
    let t = c.texts-texts.ensures.value in
    let parts = in_parts m.texts c.as_slice.result.now c.as_slice-2.result.now c.as_slice-3.result.now c.as_slice-4.result.now (c.as_slice.ensures ∙ ap (λ x. x.host) t)
    (c.as_slice-2.ensures ∙ ap (λ x. x.version) t) (c.as_slice-3.ensures ∙ ap (λ x. x.panic) t) (c.as_slice-4.ensures ∙ ap (λ x. x.msgbuf) t) in
    let memory = ap (flat_map (λ (seg : Seg). seg.bytes)) c.segs.ensures.value ∙ memory_is m.segs in
    if_ok (λ len. len ≡ c.in_ok-memory_at.memory_at + length (flat_map (λ (seg : Seg). seg.bytes) c.segs.result.now))
    (λ len. len ≡ length (spelling_of m)) c.write_segments.result c.write_segments.ensures.end
    (λ len is. omega (
      arith,
      is,
      ap length (whole m),
      length-append (before_texts m ++ texts_of m.texts) (memory_of m),
      length-append (before_texts m) (texts_of m.texts),
      ap length parts,
      ap length memory,
      c.in_ok-texts_at.ensures.end,
      c.in_ok-memory_at.ensures.end,
    ))

pub returns-clause-whole : goal.returns-clause-whole
returns-clause-whole g c =
    let m : MachineImage = c.args.image.now in
    let name : List ℕ = c.args.name.now in
    let old = (g.S.Site.seen c.args.site.now).told in
    let mid = (g.S.Site.seen c.write_tables.new.site).told in
    let late = (g.S.Site.seen c.write_parts.new.site).told in
    let new = (g.S.Site.seen c.write_segments.new.site).told in
    let t = c.texts-texts.ensures.value in
    let parts = in_parts m.texts c.as_slice.result.now c.as_slice-2.result.now c.as_slice-3.result.now c.as_slice-4.result.now (c.as_slice.ensures ∙ ap (λ x. x.host) t)
    (c.as_slice-2.ensures ∙ ap (λ x. x.version) t) (c.as_slice-3.ensures ∙ ap (λ x. x.panic) t) (c.as_slice-4.ensures ∙ ap (λ x. x.msgbuf) t) in
    let memory = ap (flat_map (λ (seg : Seg). seg.bytes)) c.segs.ensures.value ∙ memory_is m.segs in
    let place : c.in_ok-memory_at.memory_at ≡ 0 + length (before_texts m ++ texts_of m.texts) =
    omega (arith, length-append (before_texts m) (texts_of m.texts), ap length parts, c.in_ok-texts_at.ensures.end, c.in_ok-memory_at.ensures.end) in
    when_ok c.write_segments.result c.write_segments.ensures.whole
    (λ wrote. subst (λ (l : List ℕ). WritesOn name 0 l old new) (whole m)
    (writes_then name 0 c.in_ok-memory_at.memory_at (before_texts m ++ texts_of m.texts) (memory_of m) old late new place
    (writes_then name 0 c.in_ok-texts_at.texts_at (before_texts m) (texts_of m.texts) old mid late (omega (arith, c.in_ok-texts_at.ensures.end)) c.in_ok-texts_at.ensures.whole
    (subst (λ (l : List ℕ). WritesOn name c.in_ok-texts_at.texts_at l mid late) parts c.in_ok-memory_at.ensures.whole))
    (subst (λ (l : List ℕ). WritesOn name c.in_ok-memory_at.memory_at l late new) memory wrote)))

pub returns-clause-begun : goal.returns-clause-begun
returns-clause-begun g c =
    let m : MachineImage = c.args.image.now in
    let name : List ℕ = c.args.name.now in
    let old = (g.S.Site.seen c.args.site.now).told in
    let mid = (g.S.Site.seen c.write_tables.new.site).told in
    let late = (g.S.Site.seen c.write_parts.new.site).told in
    let new = (g.S.Site.seen c.write_segments.new.site).told in
    let t = c.texts-texts.ensures.value in
    let parts = in_parts m.texts c.as_slice.result.now c.as_slice-2.result.now c.as_slice-3.result.now c.as_slice-4.result.now (c.as_slice.ensures ∙ ap (λ x. x.host) t)
    (c.as_slice-2.ensures ∙ ap (λ x. x.version) t) (c.as_slice-3.ensures ∙ ap (λ x. x.panic) t) (c.as_slice-4.ensures ∙ ap (λ x. x.msgbuf) t) in
    let memory = ap (flat_map (λ (seg : Seg). seg.bytes)) c.segs.ensures.value ∙ memory_is m.segs in
    let place : c.in_ok-memory_at.memory_at ≡ 0 + length (before_texts m ++ texts_of m.texts) =
    omega (arith, length-append (before_texts m) (texts_of m.texts), ap length parts, c.in_ok-texts_at.ensures.end, c.in_ok-memory_at.ensures.end) in
    when_err c.write_segments.result c.write_segments.ensures.begun
    (λ begun. subst (λ (l : List ℕ). BeginsOn name 0 l old new) (whole m)
    (begins_then name 0 c.in_ok-memory_at.memory_at (before_texts m ++ texts_of m.texts) (memory_of m) old late new place
    (writes_then name 0 c.in_ok-texts_at.texts_at (before_texts m) (texts_of m.texts) old mid late (omega (arith, c.in_ok-texts_at.ensures.end)) c.in_ok-texts_at.ensures.whole
    (subst (λ (l : List ℕ). WritesOn name c.in_ok-texts_at.texts_at l mid late) parts c.in_ok-memory_at.ensures.whole))
    (subst (λ (l : List ℕ). BeginsOn name c.in_ok-memory_at.memory_at l late new) memory begun)))
