use Rattle.std.proofs.Common.{Some, Err, ap, refl, subst, ◌∙◌}
use Rattle.fd_site.specs.Contents.{Told, file_of}
use Rattle.fd_vmcore.specs.Sections.{IsOpening}
use Rattle.fd_cli.specs.Row.{reach}
use Rattle.fd_cli.specs.Rows.Pages.{pages_row}
use Rattle.fd_words.specs.declared.command.Command.TheVariants as command
use Rattle.fd_cli.proofs.Calls.{worked_on_site}
use Rattle.fd_cli.proofs.Reading.{framed}
use Rattle.fd_cli.proofs.Walks.{pages_opened, refused_pages}
use Rattle.fd_cli.proofs.list_pages.list_pages.Goals as goal

pub returns-in-Err : goal.returns-in-Err
returns-in-Err g c link ports =
    let old = g.S.Site.seen c.args.site.now in
    let name = c.args.file.now in
    let opening : Told old.told (λ d. IsOpening (file_of d name) (Err c.in-Err.fault)) =
    subst (λ n. Told old.told (λ d. IsOpening (file_of d n) (Err c.in-Err.fault))) c.as_str.ensures c.in-Err.ensures.opening in
    c.print_reply.ensures (Some (command.Pages name)) (reach old link ports) _
    (worked_on_site (pages_row name) _ _ link ports _
    (refused_pages old _ name c.in-Err.fault _ opening c.in-Err.ensures.untouched c.refuse_file.ensures.reply)
    (framed _ _ c.in-Err.ensures.untouched) (λ is. c.in-Err.ensures.cause (ap (λ f. Err f) (c.refuse_file.ensures.cause is))) refl)

pub returns : goal.returns
returns g c =
    let opened = c.in-Ok.ensures in
    let walked = c.print_pages.ensures in
    pages_opened _ _ _ _ _ c.in-Ok.kvm c.args.file.now walked.printed.0 _ _ c.pages_status.ensures opened.untouched opened.stands (opened.name ∙ c.as_str.ensures) walked.untouched
    walked.sink walked.site_cause walked.sink_cause walked.printed.1.0 walked.printed.1.1
