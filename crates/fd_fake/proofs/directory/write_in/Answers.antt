-- What `get_mut` says of each name, after the write.
use Rattle.std.proofs.Common.{◌≡◌, List, ℕ, arith}
use Rattle.std.proofs.lemmas.Map.Text.{text_keys}
use Rattle.fd_fake.specs.Directory.{content}
use Rattle.fd_fake.proofs.Current.{on_err}
use Rattle.fd_fake.proofs.directory.write_in.Goals as goal

pub returns-in_err-write_at-in-Some-clause-err : goal.returns-in_err-write_at-in-Some-clause-err
returns-in_err-write_at-in-Some-clause-err c =
    let same : (q : List ℕ) → content (c.get_mut.follows.lender c.write_at.new.bytes) q ≡ content c.args.files.now q = λ q. grind (arith, text_keys) in
    on_err _ same

pub returns-in_ok-write_at-in-Some-clause-ok : goal.returns-in_ok-write_at-in-Some-clause-ok
returns-in_ok-write_at-in-Some-clause-ok c = λ q. grind (arith, text_keys)
