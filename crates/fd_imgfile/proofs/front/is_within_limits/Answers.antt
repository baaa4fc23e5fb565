-- The rules of a valid image say so.
use Rattle.fd_imgfile.proofs.Unfaulted.{valid_limits}
use Rattle.fd_imgfile.proofs.front.is_within_limits.Goals as goal

pub returns-clause-fields : goal.returns-clause-fields
returns-clause-fields c = (valid_limits c.args.image.now c.arch.ensures.valid).1

pub returns-clause-memory : goal.returns-clause-memory
returns-clause-memory c = (valid_limits c.args.image.now c.arch.ensures.valid).0
