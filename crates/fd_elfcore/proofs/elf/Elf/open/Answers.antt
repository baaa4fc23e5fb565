-- Where no memory is left for the name, the file had been opened.
use Rattle.std.proofs.Common.{◌∙◌}
use Rattle.std.proofs.lemmas.Result.{err_from_is_err_and}
use Rattle.fd_site.specs.Contents.{file_of}
use Rattle.fd_elfcore.proofs.Opened.{has_headers}
use Rattle.fd_elfcore.proofs.elf.Elf.open.Goals as goal

pub returns-in_err-name-clause-opening : goal.returns-in_err-name-clause-opening
returns-in_err-name-clause-opening g c told is =
    let p = err_from_is_err_and c.from_residual-in_err-name.result c.from_residual-in_err-name.ensures.1 in
    rw (p.1, p.2) (has_headers (file_of told c.args.name.now) c.in_ok-segments.segments.items (c.in_ok-segments.ensures.opening told (c.in_ok-len.ensures.untouched.told ∙ is)))
