use Rattle.std.proofs.Common.{◌≡◌, ◌+◌, ◌≤◌, ℕ, List, length, take, ap, arith}
use Rattle.std.proofs.lemmas.List.{length-take}
use Rattle.fd_bytes.proofs.Pages.{rest_stays_zero}
use Rattle.fd_bytes.proofs.page.Page.put.Goals as goal

pub invariant_of-self : goal.invariant_of-self
invariant_of-self g c =
    let page : List ℕ = c.self.inside.bytes in
    let at : ℕ = c.self.inside.at in
    let put : length (take at page) ≡ length c.args.self.now = ap length c.self.view_is in
    let within : at + length c.args.bytes.now ≤ g.row.N = omega (arith, put, length-take at page, c.requires, c.self.invariant.0) in
    (within, rest_stays_zero page c.copy_from_slice.new.self g.row.N at (length c.args.bytes.now) c.self.told within (ap length c.copy_from_slice.ensures.after) c.self.invariant.1)
