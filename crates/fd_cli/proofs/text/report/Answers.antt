use Rattle.std.proofs.Common.{◌∙◌, arith}
use Rattle.fd_cli.proofs.Reports.{few_more, one_more}
use Rattle.fd_cli.proofs.text.report.Goals as goal

pub loop-session-preserved : goal.loop-session-preserved
loop-session-preserved c = record {
  lines = c.push_str.ensures.bytes
      ∙ one_more c.args.sessions.now c.loop-session.session-index _ c.loop-session.report.bytes c.as_str.result.now (omega arith)
      c.loop-session.invariant.lines (c.as_str.ensures.value ∙ c.received_line.ensures.bytes);
  few = few_more c.loop-session.session-index c.loop-session.report.bytes c.received_line.result.bytes c.as_str.result.now _ c.push_str.ensures.bytes
      c.as_str.ensures.value c.loop-session.invariant.few c.received_line.ensures.short;
}
