use Rattle.std.proofs.Common.{Some, Err, ap, refl, subst, ◌∙◌}
use Rattle.fd_site.specs.Contents.{Told, file_of}
use Rattle.fd_vmcore.specs.Sections.{IsOpening}
use Rattle.fd_cli.specs.Row.{reach}
use Rattle.fd_cli.specs.Rows.Read.{read_row}
use Rattle.fd_words.specs.declared.command.Command.TheVariants as command
use Rattle.fd_cli.proofs.Calls.{worked_on_site}
use Rattle.fd_cli.proofs.Reading.{framed, read_opened}
use Rattle.fd_cli.proofs.Refused.{refused_works}
use Rattle.fd_cli.proofs.print_memory.print_memory.Goals as goal

pub returns-in-Err : goal.returns-in-Err
returns-in-Err g c link ports =
    let old = g.S.Site.seen c.args.site.now in
    let name = c.args.file.now in
    let opening : Told old.told (λ d. IsOpening (file_of d name) (Err c.in-Err.fault)) =
    subst (λ n. Told old.told (λ d. IsOpening (file_of d n) (Err c.in-Err.fault))) c.as_str.ensures c.in-Err.ensures.opening in
    c.print_reply.ensures (Some (command.Read name c.args.address c.args.count)) (reach old link ports) _
    (worked_on_site (read_row name c.args.address c.args.count) _ _ link ports _
    (refused_works old _ name c.args.address c.args.count c.in-Err.fault _ opening c.in-Err.ensures.untouched c.refuse_file.ensures.reply)
    (framed _ _ c.in-Err.ensures.untouched) (λ is. c.in-Err.ensures.cause (ap (λ f. Err f) (c.refuse_file.ensures.cause is))) refl)

pub returns : goal.returns
returns g c =
    let opened = c.in-Ok.ensures in
    let printed = c.print_read.ensures in
    read_opened _ _ _ _ _ c.in-Ok.kvm c.args.file.now c.args.address c.args.count _ _ c.read_status.ensures opened.untouched opened.stands (opened.name ∙ c.as_str.ensures) printed.untouched
    printed.count printed.cause printed.sink_cause printed.prints
