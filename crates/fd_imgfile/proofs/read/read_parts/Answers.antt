-- The file spells the image of the parts that were read.
use Rattle.std.proofs.Common.{◌≡◌, ℕ, ◌+◌, List, Option, length, refl, ap, ◌∙◌, arith}
use Rattle.std.specs.List.{flat_map, sum_by}
use Rattle.fd_image.specs.declared.parts.Seg.{Seg}
use Rattle.fd_image.specs.declared.parts.Texts.{Texts}
use Rattle.fd_site.specs.Contents.{file_of}
use Rattle.fd_imgfile.specs.Front.{second, tables_length, texts_length}
use Rattle.fd_imgfile.specs.Spelling.{FitsFields, avail_bytes, seg_bytes}
use Rattle.fd_imgfile.specs.declared.front.Front.{Front}
use Rattle.fd_imgfile.specs.declared.tables.Tables.{Tables}
use Rattle.fd_imgfile.proofs.Images.{image_fits, image_of, image_read}
use Rattle.fd_imgfile.proofs.Segments.{read_to}
use Rattle.fd_imgfile.proofs.read.read_parts.Goals as goal

pub returns-clause-parts : goal.returns-clause-parts
returns-clause-parts g c =
    let h : Front = c.in_ok-front.front in
    let t : Tables = c.in_ok-tables.tables in
    let texts : Texts = c.in_ok-texts.texts in
    let segs : List Seg = c.in_ok-segs.segs.items in
    let i : ℕ = 112 + tables_length h in
    let j : ℕ = i + texts_length h in
    let pairs : c.as_slice.result.now ≡ t.segs.items = c.as_slice.ensures.value in
    let told-2 : (g.S.Site.seen c.read_front.new.site).told ≡ (g.S.Site.seen c.args.site.now).told = c.in_ok-front.ensures.untouched.told in
    let told-3 : (g.S.Site.seen c.read_tables.new.site).told ≡ (g.S.Site.seen c.args.site.now).told = c.in_ok-tables.ensures.untouched.told ∙ told-2 in
    let told-4 : (g.S.Site.seen c.read_texts.new.site).told ≡ (g.S.Site.seen c.args.site.now).told = c.in_ok-texts.ensures.untouched.told ∙ told-3 in
    let whole : j + sum_by second t.segs.items ≡ c.args.len = c.in_ok-tables.ensures.whole in
    let count : length segs ≡ h.segs = c.in_ok-segs.ensures.places ∙ (ap length pairs ∙ c.in_ok-tables.ensures.counts.segs) in
    let fits : FitsFields (image_of h t texts segs) =
    image_fits h t texts segs c.in_ok-front.ensures.limits count c.in_ok-tables.ensures.counts c.in_ok-texts.ensures.lengths c.in_ok-segs.ensures.sizes in
    let table : flat_map seg_bytes segs ≡ flat_map avail_bytes t.segs.items = c.in_ok-segs.ensures.table ∙ ap (flat_map avail_bytes) pairs in
    let end : c.tables_length-texts_at.result ≡ tables_length h = c.tables_length-texts_at.ensures in
    let more : c.texts_length.result ≡ texts_length h = c.texts_length.ensures in
    let sums : sum_by second c.as_slice.result.now ≡ sum_by second t.segs.items = ap (sum_by second) pairs in
    λ w is.
    let file : Option (List ℕ) = file_of w c.args.name.now in
    rw (c.new.ensures, c.new-2.ensures, c.new-3.ensures)
    (image_read file h t texts segs c.args.len fits (omega (arith, whole)) count c.in_ok-tables.ensures.counts c.in_ok-texts.ensures.lengths table (c.requires.length w is)
    (c.in_ok-front.ensures.front w is)
    (c.in_ok-tables.ensures.no_fault w (told-2 ∙ is))
    (c.in_ok-tables.ensures.spelling w (told-2 ∙ is))
    (read_to file _ _ _ _ i j (c.in_ok-texts.ensures.texts w (told-3 ∙ is)) refl (omega (arith, end)) (omega (arith, end, more)))
    (read_to file _ _ _ _ j c.args.len (c.in_ok-segs.ensures.memory w (told-4 ∙ is)) refl (omega (arith, end, more)) (omega (arith, end, more, sums, whole))))
