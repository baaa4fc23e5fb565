-- One address behind the other.
use Rattle.std.proofs.Common.{◌∙◌, ◌++◌, ap, append_assoc}
use Rattle.std.specs.Int.{w64, to_le_bytes}
use Rattle.fd_dump.proofs.sections.put_pair.Goals as goal

pub returns-clause-bytes : goal.returns-clause-bytes
returns-clause-bytes c =
    c.put_u64_le-2.ensures.bytes
    ∙ ap (λ l. l ++ to_le_bytes w64 c.args.pair.1) c.put_u64_le.ensures.bytes
    ∙ append_assoc c.args.page.now (to_le_bytes w64 c.args.pair.0) (to_le_bytes w64 c.args.pair.1)
