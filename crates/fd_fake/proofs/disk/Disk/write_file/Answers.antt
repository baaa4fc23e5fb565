-- The bytes are put into the file and noted.
use Rattle.std.proofs.Common.{◌≡◌, ◌++◌, [], ◌∷◌, refl, ◌∙◌, ap, arith}
use Rattle.std.proofs.lemmas.Grind.{common_steps}
use Rattle.fd_site.specs.Journal.{Write, part_after}
use Rattle.fd_fake.proofs.Current.{current-file}
use Rattle.fd_fake.specs.Entries.{entries}
use Rattle.fd_fake.specs.Disk.{part_now}
use Rattle.fd_site.proofs.Written.{part_after-append}
use Rattle.fd_fake.proofs.disk.Disk.write_file.Goals as goal

pub invariant_of-self-2 : goal.invariant_of-self-2
invariant_of-self-2 c =
    let noted : entries c.push.new.self.items ≡ entries c.self.inside.journal.items ++ Write c.args.name.now c.args.at c.args.bytes.now ∷ [] = grind (arith, common_steps) in
    current-file _ _ _ _ _ _ _ (Write c.args.name.now c.args.at c.args.bytes.now) c.self.invariant (λ p. refl) c.in_ok-write_in.ensures.ok noted

pub returns-clause-part : goal.returns-clause-part
returns-clause-part c =
    let noted : entries c.push.new.self.items ≡ entries c.self.inside.journal.items ++ Write c.args.name.now c.args.at c.args.bytes.now ∷ [] = grind (arith, common_steps) in
    ap (λ l. part_after c.self.inside.base_part.items l) noted
    ∙ part_after-append c.self.inside.base_part.items (entries c.self.inside.journal.items) (Write c.args.name.now c.args.at c.args.bytes.now ∷ []) ∙ ap part_now c.self.view_is
