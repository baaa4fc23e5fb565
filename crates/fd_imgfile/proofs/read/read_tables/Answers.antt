-- The tables are those of the file.
use Rattle.std.proofs.Common.{◌≡◌, ◌+◌, ◌*◌, ◌∙◌, arith}
use Rattle.fd_site.specs.Contents.{file_of}
use Rattle.fd_imgfile.specs.Front.{tables_length}
use Rattle.fd_imgfile.specs.declared.front.Front.{Front}
use Rattle.fd_imgfile.proofs.Segments.{joined_read, read_to}
use Rattle.fd_imgfile.proofs.read.read_tables.Goals as goal

pub returns-clause-spelling : goal.returns-clause-spelling
returns-clause-spelling g c =
    let h : Front = c.args.front.now in
    let told-2 : (g.S.Site.seen c.read_table.new.site).told ≡ (g.S.Site.seen c.args.site.now).told = c.in_ok-read_table.ensures.untouched.told in
    λ w is.
    joined_read (file_of w c.args.name.now) _ _ _ 112 (112 + 16 * h.segs) (112 + tables_length h) (omega arith) (omega arith)
    c.in_ok-tables_in.ensures.spelling
    (c.in_ok-read_table.ensures.bytes w is)
    (read_to (file_of w c.args.name.now) _ _ _ _ (112 + 16 * h.segs) (112 + tables_length h) (c.in_ok-ranges.ensures.bytes w (told-2 ∙ is)) c.as_slice.ensures.value (omega arith) (omega arith))
