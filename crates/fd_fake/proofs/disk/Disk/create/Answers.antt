-- An empty file is put into the directory and noted.
use Rattle.std.proofs.Common.{◌≡◌, ◌++◌, [], ◌∷◌, List, ℕ, refl, ◌∙◌, ap, arith}
use Rattle.std.proofs.lemmas.Grind.{common_steps}
use Rattle.std.proofs.Common.{Some, cond}
use Rattle.std.specs.Str.{bytes_eq}
use Rattle.fd_site.specs.Journal.{Create, file_step, part_after}
use Rattle.fd_fake.specs.Directory.{content}
use Rattle.fd_fake.proofs.Current.{current-file}
use Rattle.fd_fake.specs.Entries.{entries}
use Rattle.fd_fake.specs.Disk.{part_now}
use Rattle.fd_site.proofs.Written.{part_after-append}
use Rattle.fd_fake.proofs.disk.Disk.create.Goals as goal

pub invariant_of-self-2 : goal.invariant_of-self-2
invariant_of-self-2 c =
    let noted : entries c.push.new.self.items ≡ entries c.self.inside.journal.items ++ Create c.args.name.now ∷ [] = grind (arith, common_steps) in
    let steps : (q : List ℕ) → content c.put_file.new.files q ≡ file_step q (content c.self.inside.files q) (Create c.args.name.now) =
    λ q. c.in_ok-put_file.ensures.ok q ∙ ap (λ n. cond (bytes_eq q n) (Some c.new.result.items) (content c.self.inside.files q)) c.in_ok-key.ensures.ok
    ∙ ap (λ (l : List ℕ). cond (bytes_eq q c.args.name.now) (Some l) (content c.self.inside.files q)) c.new.ensures.items in
    current-file _ _ _ _ _ _ _ (Create c.args.name.now) c.self.invariant (λ p. refl) steps noted

pub returns-clause-part : goal.returns-clause-part
returns-clause-part c =
    let noted : entries c.push.new.self.items ≡ entries c.self.inside.journal.items ++ Create c.args.name.now ∷ [] = grind (arith, common_steps) in
    ap (λ l. part_after c.self.inside.base_part.items l) noted ∙ part_after-append c.self.inside.base_part.items (entries c.self.inside.journal.items) (Create c.args.name.now ∷ [])
    ∙ ap part_now c.self.view_is
