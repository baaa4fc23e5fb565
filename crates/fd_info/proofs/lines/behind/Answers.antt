use Rattle.fd_info.proofs.OneLine.{key_behind, key_shorter}
use Rattle.std.proofs.Common.{arith}
use Rattle.fd_info.proofs.lines.behind.Goals as goal

pub returns-then-key-text : goal.returns-then-key-text
returns-then-key-text c rest is = key_behind c.args.text.now c.args.key.now rest is

pub returns-else-key-text : goal.returns-else-key-text
returns-else-key-text c rest is = absurd (omega (arith, key_shorter c.args.text.now c.args.key.now rest is))
