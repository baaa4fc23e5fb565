use Rattle.fd_bytes.proofs.Pages.{zeros_left, zeros_put}
use Rattle.fd_bytes.proofs.page.Page.put_zeros.Goals as goal

pub returns-clause-bytes : goal.returns-clause-bytes
returns-clause-bytes g c =
    zeros_put c.self.inside.bytes c.args.self.now g.row.N c.self.inside.at c.args.count c.self.told c.self.invariant.0 c.self.view_is c.requires c.self.invariant.1

pub invariant_of-self : goal.invariant_of-self
invariant_of-self g c =
    zeros_left c.self.inside.bytes c.args.self.now g.row.N c.self.inside.at c.args.count c.self.told c.self.invariant.0 c.self.view_is c.requires c.self.invariant.1
