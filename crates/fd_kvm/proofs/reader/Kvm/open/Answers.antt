-- Where no memory is left for the name, the pages or the marks, the file had been opened; no page of it is kept yet.
use Rattle.std.proofs.lemmas.Result.{err_from_is_err_and}
use Rattle.fd_site.specs.Contents.{file_of}
use Rattle.fd_vmcore.proofs.Opened.{has_sections}
use Rattle.fd_kvm.proofs.reader.Kvm.open.Goals as goal

pub returns-in_err-name-clause-opening : goal.returns-in_err-name-clause-opening
returns-in_err-name-clause-opening g c told is =
    let p = err_from_is_err_and c.from_residual-in_err-name.result c.from_residual-in_err-name.ensures.1 in
    rw (p.1, p.2) (has_sections (file_of told c.args.name.now) c.in_ok-core.core (c.in_ok-core.ensures.opening told is))

pub returns-in_err-pages-clause-opening : goal.returns-in_err-pages-clause-opening
returns-in_err-pages-clause-opening g c told is =
    let p = err_from_is_err_and c.from_residual-in_err-pages.result c.from_residual-in_err-pages.ensures.1 in
    rw (p.1, p.2) (has_sections (file_of told c.args.name.now) c.in_ok-core.core (c.in_ok-core.ensures.opening told is))

pub returns-in_err-walked-clause-opening : goal.returns-in_err-walked-clause-opening
returns-in_err-walked-clause-opening g c told is =
    let p = err_from_is_err_and c.from_residual-in_err-walked.result c.from_residual-in_err-walked.ensures.1 in
    rw (p.1, p.2) (has_sections (file_of told c.args.name.now) c.in_ok-core.core (c.in_ok-core.ensures.opening told is))
