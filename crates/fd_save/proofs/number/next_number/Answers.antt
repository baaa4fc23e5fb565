use Rattle.fd_save.proofs.Turns.{numbered}
use Rattle.fd_save.proofs.number.next_number.Goals as goal

pub returns-in-None-clause-number : goal.returns-in-None-clause-number
returns-in-None-clause-number g c =
    numbered c.first_free.result _ _ c.args.max c.in_ok-bounds.bounds c.in-None.is c.in_ok-bounds.ensures.untouched.told c.in_ok-bounds.ensures.number c.first_free.ensures.number
