-- A sync is noted, and no file changes.
use Rattle.std.proofs.Common.{◌≡◌, ◌++◌, [], ◌∷◌, refl, ◌∙◌, ap, arith}
use Rattle.std.proofs.lemmas.Grind.{common_steps}
use Rattle.fd_site.specs.Journal.{Sync, part_after}
use Rattle.fd_fake.specs.Directory.{content}
use Rattle.fd_fake.proofs.Current.{current-file, synced}
use Rattle.fd_fake.specs.Entries.{entries}
use Rattle.fd_fake.specs.Disk.{part_now}
use Rattle.fd_site.proofs.Written.{part_after-append}
use Rattle.fd_fake.proofs.disk.Disk.sync_file.Goals as goal

pub invariant_of-self-2 : goal.invariant_of-self-2
invariant_of-self-2 c =
    let noted : entries c.push.new.self.items ≡ entries c.self.inside.journal.items ++ Sync c.args.name.now ∷ [] = grind (arith, common_steps) in
    current-file _ _ _ _ _ _ _ (Sync c.args.name.now) c.self.invariant (λ p. refl) (λ q. synced q c.args.name.now (content c.self.inside.files q)) noted

pub returns-clause-part : goal.returns-clause-part
returns-clause-part c =
    let noted : entries c.push.new.self.items ≡ entries c.self.inside.journal.items ++ Sync c.args.name.now ∷ [] = grind (arith, common_steps) in
    ap (λ l. part_after c.self.inside.base_part.items l) noted ∙ part_after-append c.self.inside.base_part.items (entries c.self.inside.journal.items) (Sync c.args.name.now ∷ [])
    ∙ ap part_now c.self.view_is
