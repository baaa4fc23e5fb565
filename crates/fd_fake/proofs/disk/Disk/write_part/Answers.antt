-- A whole write is put into the partition and noted.
use Rattle.std.proofs.Common.{◌≡◌, ◌++◌, [], ◌∷◌, length, sym, ◌∙◌, ap, arith}
use Rattle.std.proofs.lemmas.Grind.{common_steps}
use Rattle.fd_site.specs.Contents.{whole_part}
use Rattle.fd_fake.specs.Entries.{entries}
use Rattle.fd_fake.specs.Disk.{part_now}
use Rattle.fd_fake.proofs.Current.{current-part}
use Rattle.fd_fake.proofs.disk.Disk.write_part.Goals as goal

pub invariant_of-self-2 : goal.invariant_of-self-2
invariant_of-self-2 c =
    let noted : entries c.push.new.self.items ≡ entries c.self.inside.journal.items ++ whole_part c.args.at c.args.bytes.now ∷ [] = grind (arith, common_steps) in
    current-part _ _ _ _ _ _ _ c.args.at c.args.bytes.now c.self.invariant c.requires.whole c.overwrite.ensures noted

pub returns-clause-size : goal.returns-clause-size
returns-clause-size c =
    let noted : entries c.push.new.self.items ≡ entries c.self.inside.journal.items ++ whole_part c.args.at c.args.bytes.now ∷ [] = grind (arith, common_steps) in
    let now = current-part _ _ _ _ _ _ _ c.args.at c.args.bytes.now c.self.invariant c.requires.whole c.overwrite.ensures noted in
    let same : length c.overwrite.new.bytes.items ≡ length c.self.inside.part.items = grind (arith, common_steps) in
    sym (ap length now.part_is) ∙ same ∙ ap length c.self.invariant.part_is ∙ ap (λ d. length (part_now d)) c.self.view_is
