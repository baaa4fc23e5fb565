-- The file is put into the directory, or taken out again.
use Rattle.std.proofs.Common.{◌≡◌, [], List, ℕ, Some, None, cond, sym, ◌∙◌, ap}
use Rattle.std.specs.Str.{bytes_eq}
use Rattle.fd_site.specs.Journal.{file_after}
use Rattle.fd_fake.specs.Directory.{content, file_in, listed}
use Rattle.fd_fake.specs.Entries.{entries}
use Rattle.fd_fake.proofs.Current.{file_in-listed, on_err, taken_out}
use Rattle.fd_fake.proofs.disk.Disk.preset_file.Goals as goal

pub returns-in_err-put_file-clause-err : goal.returns-in_err-put_file-clause-err
returns-in_err-put_file-clause-err c =
    let same : (q : List ℕ) → file_in (listed c.put_file.new.files) q ≡ file_in c.args.self.now.base_files q =
    λ q. file_in-listed c.put_file.new.files q ∙ c.in_err-put_file.ensures.err q ∙ sym (file_in-listed c.self.inside.base_files q) ∙ ap (λ d. file_in d.base_files q) c.self.view_is in
    on_err _ same

pub returns-in-Ok-clause-ok : goal.returns-in-Ok-clause-ok
returns-in-Ok-clause-ok c = λ q.
    let was : content c.self.inside.base_files q ≡ file_in c.args.self.now.base_files q = sym (file_in-listed c.self.inside.base_files q) ∙ ap (λ d. file_in d.base_files q) c.self.view_is in
    file_in-listed c.put_file.new.files q ∙ c.in_ok-put_file.ensures.ok q
    ∙ ap (λ n. cond (bytes_eq q n) (Some c.args.bytes.items) (content c.self.inside.base_files q)) c.in_ok-base_key.ensures.ok
    ∙ ap (λ o. cond (bytes_eq q c.args.name.now) (Some c.args.bytes.items) o) was

pub returns-in-Err-clause-err : goal.returns-in-Err-clause-err
returns-in-Err-clause-err c = λ q.
    let empty : entries c.self.inside.journal.items ≡ [] = ap (λ d. d.journal) c.self.view_is ∙ c.requires in
    let none : content c.self.inside.base_files c.args.name.now ≡ None =
    sym (c.self.invariant.files_are c.args.name.now ∙ ap (λ l. file_after c.args.name.now (content c.self.inside.base_files c.args.name.now) l) empty)
    ∙ ap (content c.self.inside.files) (sym c.in_ok-key.ensures.ok) ∙ c.in-Err.ensures.fresh in
    let puts : (q : List ℕ) → content c.put_file.new.files q ≡ cond (bytes_eq q c.args.name.now) (Some c.args.bytes.items) (content c.self.inside.base_files q) =
    λ q. c.in_ok-put_file.ensures.ok q ∙ ap (λ n. cond (bytes_eq q n) (Some c.args.bytes.items) (content c.self.inside.base_files q)) c.in_ok-base_key.ensures.ok in
    let same : content c.remove_file.new.files q ≡ content c.self.inside.base_files q =
    taken_out (content c.self.inside.base_files) (content c.put_file.new.files) (content c.remove_file.new.files) c.args.name.now (Some c.args.bytes.items) puts c.remove_file.ensures none q in
    file_in-listed c.remove_file.new.files q ∙ same ∙ sym (file_in-listed c.self.inside.base_files q) ∙ ap (λ d. file_in d.base_files q) c.self.view_is
