use Rattle.std.proofs.Common.{None, Some, Err, refl, sym, ◌∙◌, ap}
use Rattle.fd_cli.specs.Rows.{row_of}
use Rattle.fd_cli.specs.Rows.Clear.{clear_row}
use Rattle.fd_cli.specs.Rows.Dump.{dump_row}
use Rattle.fd_cli.specs.Rows.Image.{image_row}
use Rattle.fd_cli.specs.Rows.Judge.{judge_row}
use Rattle.fd_cli.specs.Rows.Save.{save_row}
use Rattle.fd_cli.specs.declared.reply.Trouble.TheVariants.{NoMemory}
use Rattle.fd_words.specs.Command.{command_of}
use Rattle.fd_words.specs.declared.command.Command.{Command}
use Rattle.fd_words.specs.declared.command.Command.TheVariants as command
use Rattle.fd_cli.proofs.Calls.{called_by, starved, starved_at_once, worked_on_site}
use Rattle.fd_cli.proofs.Sound.{may_be_silent}
use Rattle.fd_cli.proofs.run.carry_out.Goals as goal

pub returns-in-Err : goal.returns-in-Err
returns-in-Err g c =
    starved (row_of (command_of c.args.words.now)) _ _ (may_be_silent (command_of c.args.words.now) _)
    (starved_at_once (command_of c.args.words.now) _ (Err NoMemory) refl)

pub returns-in-None : goal.returns-in-None
returns-in-None g c =
    called_by _ _ _ _ _ (sym c.in-Ok.ensures.value ∙ c.in-None.is) (c.print_reply.ensures None _ _ (c.refuse_words.ensures _))

pub returns-in-Some-Image : goal.returns-in-Some-Image
returns-in-Some-Image g c =
    let i = c.in-Some-Image in
    let done = c.make_image.ensures in
    called_by _ _ _ _ _ (sym c.in-Ok.ensures.value ∙ i.is ∙ ap (λ (x : Command). Some x) i.field-0-is)
    (c.print_reply-in-Some-Image.ensures (Some (command.Image i.arch i.number i.file)) _ _ (worked_on_site (image_row i.arch i.number i.file) _ _ _ _ _ done.works done.frame done.cause refl))

pub returns-in-Some-Judge : goal.returns-in-Some-Judge
returns-in-Some-Judge g c =
    let i = c.in-Some-Judge in
    let done = c.judge_reply.ensures in
    called_by _ _ _ _ _ (sym c.in-Ok.ensures.value ∙ i.is ∙ ap (λ (x : Command). Some x) i.field-0-is)
    (c.print_reply-in-Some-Judge.ensures (Some (command.Judge i.force)) _ _ (worked_on_site (judge_row i.force) _ _ _ _ _ done.works done.frame done.cause refl))

pub returns-in-Some-Clear : goal.returns-in-Some-Clear
returns-in-Some-Clear g c =
    let i = c.in-Some-Clear in
    let done = c.clear_dump.ensures in
    called_by _ _ _ _ _ (sym c.in-Ok.ensures.value ∙ i.is ∙ ap (λ (x : Command). Some x) i.field-0-is)
    (c.print_reply-in-Some-Clear.ensures (Some (command.Clear i.force)) _ _ (worked_on_site (clear_row i.force) _ _ _ _ _ done.works done.frame done.cause refl))

pub returns-in-Some-Save : goal.returns-in-Some-Save
returns-in-Some-Save g c =
    let i = c.in-Some-Save in
    let done = c.save_dump.ensures in
    called_by _ _ _ _ _ (sym c.in-Ok.ensures.value ∙ i.is ∙ ap (λ (x : Command). Some x) i.field-0-is)
    (c.print_reply-in-Some-Save.ensures (Some (command.Save i.options i.keep)) _ _ (worked_on_site (save_row i.options i.keep) _ _ _ _ _ done.works done.frame done.cause refl))

pub returns-in-Some-Dump : goal.returns-in-Some-Dump
returns-in-Some-Dump g c =
    let i = c.in-Some-Dump in
    let done = c.dump_image.ensures in
    called_by _ _ _ _ _ (sym c.in-Ok.ensures.value ∙ i.is ∙ ap (λ (x : Command). Some x) i.field-0-is)
    (c.print_reply-in-Some-Dump.ensures (Some (command.Dump i.mark i.image)) _ _ (worked_on_site (dump_row i.mark i.image) _ _ _ _ _ done.works done.frame done.cause refl))

pub returns-in-Some-Netdump : goal.returns-in-Some-Netdump
returns-in-Some-Netdump g c =
    let i = c.in-Some-Netdump in
    called_by _ _ _ _ _ (sym c.in-Ok.ensures.value ∙ i.is ∙ ap (λ (x : Command). Some x) i.field-0-is)
    (c.print_reply-in-Some-Netdump.ensures (Some (command.Netdump i.image i.server)) _ _ (c.send_image.ensures _))

pub returns-in-Some-Netdumpd : goal.returns-in-Some-Netdumpd
returns-in-Some-Netdumpd g c =
    let i = c.in-Some-Netdumpd in
    called_by _ _ _ _ _ (sym c.in-Ok.ensures.value ∙ i.is ∙ ap (λ (x : Command). Some x) i.field-0-is)
    (c.print_reply-in-Some-Netdumpd.ensures (Some (command.Netdumpd i.dumps)) _ _ (c.serve_dumps.ensures _))

pub returns-in-Some-Read : goal.returns-in-Some-Read
returns-in-Some-Read g c =
    let i = c.in-Some-Read in
    called_by _ _ _ _ _ (sym c.in-Ok.ensures.value ∙ i.is ∙ ap (λ (x : Command). Some x) i.field-0-is) (c.print_memory.ensures _ _)

pub returns-in-Some-Pages : goal.returns-in-Some-Pages
returns-in-Some-Pages g c =
    let i = c.in-Some-Pages in
    called_by _ _ _ _ _ (sym c.in-Ok.ensures.value ∙ i.is ∙ ap (λ (x : Command). Some x) i.field-0-is) (c.list_pages.ensures _ _)

pub returns-in-Some-Drill : goal.returns-in-Some-Drill
returns-in-Some-Drill g c =
    let i = c.in-Some-Drill in
    called_by _ _ _ _ _ (sym c.in-Ok.ensures.value ∙ i.is ∙ ap (λ (x : Command). Some x) i.field-0-is) (c.drill_image.ensures _ _)
