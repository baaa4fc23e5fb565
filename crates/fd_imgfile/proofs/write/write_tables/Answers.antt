-- The fields and the first two tables, then the wanted pages.
use Rattle.std.proofs.Common.{◌≡◌, ◌+◌, ◌*◌, ◌++◌, ℕ, List, [], length, refl, subst, sym, ap, ◌∙◌, append_assoc, arith, length-append}
use Rattle.std.proofs.lemmas.List.{append-nil}
use Rattle.std.specs.List.{flat_map}
use Rattle.fd_image.specs.Image.{MachineImage}
use Rattle.fd_imgfile.specs.Front.{fields_of}
use Rattle.fd_imgfile.specs.Spelling.{avail_bytes, front_of, seg_bytes, tables_of, u64}
use Rattle.fd_site.specs.Writing.{BeginsOn, WritesOn}
use Rattle.fd_imgfile.proofs.Unfaulted.{eights, sixteens}
use Rattle.fd_site.proofs.Writing.{begins_first, begins_then, if_ok, on_err, when_err, when_ok, writes_then, written_to}
use Rattle.fd_imgfile.proofs.write.write_tables.Goals as goal

-- what stands before the wanted pages
abbrev before_wanted : MachineImage → List ℕ
before_wanted m = front_of m ++ (flat_map seg_bytes m.segs ++ flat_map avail_bytes m.avail)

length-before_wanted : (m : MachineImage) → length (before_wanted m) ≡ 112 + 16 * length m.segs + 16 * length m.avail
length-before_wanted m =
    omega (
      arith,
      length-append (front_of m) (flat_map seg_bytes m.segs ++ flat_map avail_bytes m.avail),
      length-append (flat_map seg_bytes m.segs) (flat_map avail_bytes m.avail),
      sixteens seg_bytes (λ seg. refl) m.segs,
      sixteens avail_bytes (λ pair. refl) m.avail,
    )

in_parts : (m : MachineImage) (front segs avail : List ℕ) → front ≡ front_of m → segs ≡ flat_map seg_bytes m.segs → avail ≡ flat_map avail_bytes m.avail
    → front ++ (segs ++ (avail ++ [])) ≡ before_wanted m
in_parts m front segs avail a b c = (λ k. a k ++ (b k ++ (c k ++ []))) ∙ ap (λ (l : List ℕ). front_of m ++ (flat_map seg_bytes m.segs ++ l)) (append-nil (flat_map avail_bytes m.avail))

joined : (m : MachineImage) → before_wanted m ++ flat_map u64 m.wanted ≡ front_of m ++ tables_of m
joined m = append_assoc (front_of m) (flat_map seg_bytes m.segs ++ flat_map avail_bytes m.avail) (flat_map u64 m.wanted)

pub segs_page-segs-requires : goal.segs_page-segs-requires
segs_page-segs-requires g c = omega (arith, c.is_within_limits.ensures.fields.segs, ap length c.segs.ensures.value)

pub avail_page-avail-requires : goal.avail_page-avail-requires
avail_page-avail-requires g c = omega (arith, c.is_within_limits.ensures.fields.avail, ap length c.avail.ensures.value)

pub write_parts-requires-clause-fits : goal.write_parts-requires-clause-fits
write_parts-requires-clause-fits g c =
    let m : MachineImage = c.args.image.now in
    let parts = in_parts m c.filled.result.now c.filled-2.result.now c.filled-3.result.now (c.filled.ensures ∙ c.spelled-front.ensures ∙ ap fields_of c.front_in.ensures)
    (c.filled-2.ensures ∙ c.segs_page-segs.ensures ∙ ap (flat_map seg_bytes) c.segs.ensures.value)
    (c.filled-3.ensures ∙ c.avail_page-avail.ensures ∙ ap (flat_map avail_bytes) c.avail.ensures.value) in
    omega (arith, ap length parts, length-before_wanted m, c.is_within_limits.ensures.fields.segs, c.is_within_limits.ensures.fields.avail)

pub returns-in_err-wanted_at-clause-begun : goal.returns-in_err-wanted_at-clause-begun
returns-in_err-wanted_at-clause-begun g c =
    let m : MachineImage = c.args.image.now in
    let name : List ℕ = c.args.name.now in
    let old = (g.S.Site.seen c.args.site.now).told in
    let new = (g.S.Site.seen c.write_parts.new.site).told in
    let parts = in_parts m c.filled.result.now c.filled-2.result.now c.filled-3.result.now (c.filled.ensures ∙ c.spelled-front.ensures ∙ ap fields_of c.front_in.ensures)
    (c.filled-2.ensures ∙ c.segs_page-segs.ensures ∙ ap (flat_map seg_bytes) c.segs.ensures.value)
    (c.filled-3.ensures ∙ c.avail_page-avail.ensures ∙ ap (flat_map avail_bytes) c.avail.ensures.value) in
    on_err c.from_residual.result (subst (λ (l : List ℕ). BeginsOn name 0 l old new) (joined m)
    (begins_first name 0 (before_wanted m) (flat_map u64 m.wanted) old new
    (subst (λ (l : List ℕ). BeginsOn name 0 l old new) parts c.in_err-wanted_at.ensures.begun)))

pub write_wanted-requires-clause-made : goal.write_wanted-requires-clause-made
write_wanted-requires-clause-made g c =
    written_to c.args.name.now 0 c.in_ok-wanted_at.wanted_at _ _ _ c.requires.made c.in_ok-wanted_at.ensures.whole c.in_ok-wanted_at.ensures.end

pub write_wanted-requires-clause-fits : goal.write_wanted-requires-clause-fits
write_wanted-requires-clause-fits g c =
    let m : MachineImage = c.args.image.now in
    let parts = in_parts m c.filled.result.now c.filled-2.result.now c.filled-3.result.now (c.filled.ensures ∙ c.spelled-front.ensures ∙ ap fields_of c.front_in.ensures)
    (c.filled-2.ensures ∙ c.segs_page-segs.ensures ∙ ap (flat_map seg_bytes) c.segs.ensures.value)
    (c.filled-3.ensures ∙ c.avail_page-avail.ensures ∙ ap (flat_map avail_bytes) c.avail.ensures.value) in
    let limits = c.is_within_limits.ensures.fields in
    omega (arith, ap length parts, length-before_wanted m, limits.segs, limits.avail, limits.wanted, c.in_ok-wanted_at.ensures.end, ap length c.wanted.ensures.value)

pub returns-clause-end : goal.returns-clause-end
returns-clause-end g c =
    let m : MachineImage = c.args.image.now in
    let parts = in_parts m c.filled.result.now c.filled-2.result.now c.filled-3.result.now (c.filled.ensures ∙ c.spelled-front.ensures ∙ ap fields_of c.front_in.ensures)
    (c.filled-2.ensures ∙ c.segs_page-segs.ensures ∙ ap (flat_map seg_bytes) c.segs.ensures.value)
    (c.filled-3.ensures ∙ c.avail_page-avail.ensures ∙ ap (flat_map avail_bytes) c.avail.ensures.value) in
    let whole : length (front_of m ++ tables_of m) ≡ length (before_wanted m) + 8 * length m.wanted =
    sym (ap length (joined m)) ∙ (length-append (before_wanted m) (flat_map u64 m.wanted) ∙ ap (λ n. length (before_wanted m) + n) (eights m.wanted)) in
    if_ok (λ end. end ≡ c.in_ok-wanted_at.wanted_at + 8 * length c.wanted.result.now) (λ end. end ≡ length (front_of m ++ tables_of m)) c.write_wanted.result c.write_wanted.ensures.end
    (λ end is. omega (arith, is, whole, ap length parts, c.in_ok-wanted_at.ensures.end, ap length c.wanted.ensures.value))

pub returns-clause-whole : goal.returns-clause-whole
returns-clause-whole g c =
    let m : MachineImage = c.args.image.now in
    let name : List ℕ = c.args.name.now in
    let old = (g.S.Site.seen c.args.site.now).told in
    let mid = (g.S.Site.seen c.write_parts.new.site).told in
    let new = (g.S.Site.seen c.write_wanted.new.site).told in
    let parts = in_parts m c.filled.result.now c.filled-2.result.now c.filled-3.result.now (c.filled.ensures ∙ c.spelled-front.ensures ∙ ap fields_of c.front_in.ensures)
    (c.filled-2.ensures ∙ c.segs_page-segs.ensures ∙ ap (flat_map seg_bytes) c.segs.ensures.value)
    (c.filled-3.ensures ∙ c.avail_page-avail.ensures ∙ ap (flat_map avail_bytes) c.avail.ensures.value) in
    when_ok c.write_wanted.result c.write_wanted.ensures.whole
    (λ wrote. subst (λ (l : List ℕ). WritesOn name 0 l old new) (joined m)
    (writes_then name 0 c.in_ok-wanted_at.wanted_at (before_wanted m) (flat_map u64 m.wanted) old mid new (omega (arith, ap length parts, c.in_ok-wanted_at.ensures.end))
    (subst (λ (l : List ℕ). WritesOn name 0 l old mid) parts c.in_ok-wanted_at.ensures.whole)
    (subst (λ (l : List ℕ). WritesOn name c.in_ok-wanted_at.wanted_at (flat_map u64 l) mid new) c.wanted.ensures.value wrote)))

pub returns-clause-begun : goal.returns-clause-begun
returns-clause-begun g c =
    let m : MachineImage = c.args.image.now in
    let name : List ℕ = c.args.name.now in
    let old = (g.S.Site.seen c.args.site.now).told in
    let mid = (g.S.Site.seen c.write_parts.new.site).told in
    let new = (g.S.Site.seen c.write_wanted.new.site).told in
    let parts = in_parts m c.filled.result.now c.filled-2.result.now c.filled-3.result.now (c.filled.ensures ∙ c.spelled-front.ensures ∙ ap fields_of c.front_in.ensures)
    (c.filled-2.ensures ∙ c.segs_page-segs.ensures ∙ ap (flat_map seg_bytes) c.segs.ensures.value)
    (c.filled-3.ensures ∙ c.avail_page-avail.ensures ∙ ap (flat_map avail_bytes) c.avail.ensures.value) in
    when_err c.write_wanted.result c.write_wanted.ensures.begun
    (λ begun. subst (λ (l : List ℕ). BeginsOn name 0 l old new) (joined m)
    (begins_then name 0 c.in_ok-wanted_at.wanted_at (before_wanted m) (flat_map u64 m.wanted) old mid new (omega (arith, ap length parts, c.in_ok-wanted_at.ensures.end))
    (subst (λ (l : List ℕ). WritesOn name 0 l old mid) parts c.in_ok-wanted_at.ensures.whole)
    (subst (λ (l : List ℕ). BeginsOn name c.in_ok-wanted_at.wanted_at (flat_map u64 l) mid new) c.wanted.ensures.value begun)))
