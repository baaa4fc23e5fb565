-- Where the segments can't be read, the file has its program headers.
use Rattle.std.proofs.Common.{arith}
use Rattle.std.proofs.lemmas.Result.{err_from_is_err_and}
use Rattle.fd_site.specs.Contents.{file_of}
use Rattle.fd_elfcore.proofs.Opened.{known_length, unread}
use Rattle.fd_elfcore.proofs.elf.open_segments.Goals as goal

pub returns-in_err-segments-clause-opening : goal.returns-in_err-segments-clause-opening
returns-in_err-segments-clause-opening g c told is f there =
    let p = err_from_is_err_and c.from_residual.result c.from_residual.ensures.1 in
    let known = known_length (file_of told c.args.name.now) f c.args.len (c.requires.len told is) there in
    rw (p.1, p.2) (unread f c.args.count c.in_err-segments.field-0.0 (omega (arith, c.if-len-need.false, c.from.ensures, known)) (c.in_err-segments.ensures.segments told is f there))
