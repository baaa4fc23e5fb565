-- The eight bytes of an entry are the number that stands there.
use Rattle.std.proofs.Common.{◌∙◌, rules}
use Rattle.fd_kvm.proofs.Standing.{entry_read}
use Rattle.fd_kvm.proofs.vmcore.Vmcore.read_entry.Goals as goal

pub returns-clause-entry : goal.returns-clause-entry
returns-clause-entry g c told is f there =
    c.get_u64_le.ensures.value ∙ entry_read f c.read_block.new.out c.args.place (search rules) (c.in_ok-read_block.ensures.bytes told is f there)
