-- The file of this name is the one after the journal.
use Rattle.std.proofs.Common.{◌≡◌, List, ℕ, length, ◌∙◌, ap}
use Rattle.std.specs.Option.{option_map}
use Rattle.fd_fake.specs.Directory.{content}
use Rattle.fd_fake.specs.Disk.{file_now}
use Rattle.fd_fake.proofs.Current.{current-content}
use Rattle.fd_fake.proofs.disk.Disk.file_len.Goals as goal

pub returns : goal.returns
returns c =
    let file : content c.self.inside.files c.args.name.now ≡ file_now c.args.self.now c.args.name.now =
    current-content _ _ _ _ _ c.args.name.now c.self.invariant ∙ ap (λ d. file_now d c.args.name.now) c.self.view_is in
    c.len_in.ensures ∙ ap (λ o. option_map (λ (file : List ℕ). length file) o) file
