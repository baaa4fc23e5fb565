use Rattle.std.proofs.Common.{◌≡◌, ◌*◌, ◌≤◌, length, take}
use Rattle.fd_cli.specs.Received.{received_lines}
use Rattle.fd_cli.proofs.text.report.Given as goal

abbrev pub invariant-loop-session : goal.invariant-loop-session
invariant-loop-session l = record {
  lines : l.report.bytes ≡ received_lines (take l.session-index l.sessions);
  few : length l.report.bytes ≤ 48 * l.session-index;
}
