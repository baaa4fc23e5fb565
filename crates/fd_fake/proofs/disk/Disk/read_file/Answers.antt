-- The file of this name is the one after the journal.
use Rattle.std.proofs.Common.{◌≡◌, ◌+◌, ◌≤◌, List, ℕ, length, slice_range, IfSome, IsSomeAnd, sym, ◌∙◌, ap, subst}
use Rattle.fd_fake.specs.Directory.{content}
use Rattle.fd_fake.specs.Disk.{file_now}
use Rattle.fd_fake.proofs.Current.{current-content}
use Rattle.fd_fake.proofs.disk.Disk.read_file.Goals as goal

pub read_in-requires : goal.read_in-requires
read_in-requires c =
    let file : content c.self.inside.files c.args.name.now ≡ file_now c.args.self.now c.args.name.now =
    current-content _ _ _ _ _ c.args.name.now c.self.invariant ∙ ap (λ d. file_now d c.args.name.now) c.self.view_is in
    subst (λ o. IsSomeAnd o (λ (file : List ℕ). c.args.at + length c.args.out.now ≤ length file)) (sym file) c.requires

pub returns : goal.returns
returns c =
    let file : content c.self.inside.files c.args.name.now ≡ file_now c.args.self.now c.args.name.now =
    current-content _ _ _ _ _ c.args.name.now c.self.invariant ∙ ap (λ d. file_now d c.args.name.now) c.self.view_is in
    subst (λ o. IfSome o (λ (file : List ℕ). c.read_in.new.out ≡ slice_range file c.args.at (c.args.at + length c.args.out.now))) file c.read_in.ensures
