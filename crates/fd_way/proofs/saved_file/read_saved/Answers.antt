-- The line is printed, and then the file.
use Rattle.std.proofs.Common.{◌∙◌, ap}
use Rattle.fd_site.specs.Trace.{grown}
use Rattle.fd_way.specs.Drill.{saved_text}
use Rattle.fd_way.proofs.FileText.{front_printed_first}
use Rattle.fd_way.proofs.saved_file.read_saved.Goals as goal

pub returns-in-Err-clause-reads : goal.returns-in-Err-clause-reads
returns-in-Err-clause-reads g c =
    front_printed_first _ c.args.saved.now.number c.args.va c.args.length _ _ _ _
    (c.as_bytes.ensures.value ∙ c.as_str.ensures.value ∙ c.saved_line-line.ensures) c.in-Err.ensures.err

pub returns-clause-reads : goal.returns-clause-reads
returns-clause-reads g c =
    c.read_file.ensures.reads (saved_text c.args.saved.now.number c.args.saved.now.header.dumplength) (g.O.Sink.seen c.args.out.now)
    (c.in-Ok.ensures.ok ∙ ap (grown (g.O.Sink.seen c.args.out.now).told) (c.as_bytes.ensures.value ∙ c.as_str.ensures.value ∙ c.saved_line-line.ensures))
