-- The file is made, written and synced.
use Rattle.std.proofs.Common.{ℕ, List, [], refl, subst}
use Rattle.std.proofs.lemmas.List.{append-nil}
use Rattle.fd_site.specs.Contents.{Adds}
use Rattle.fd_site.specs.FileJournal.{IsBegunFile}
use Rattle.fd_site.proofs.FileJournals.{adds_begun_at_create, adds_begun_at_sync, adds_synced, adds_written_nothing, told_there}
use Rattle.fd_imgfile.specs.Spelling.{spelling_of}
use Rattle.fd_site.proofs.Writing.{on_err}
use Rattle.fd_imgfile.proofs.write.write_image.Goals as goal

pub write_contents-requires-clause-made : goal.write_contents-requires-clause-made
write_contents-requires-clause-made g c =
    let old = (g.S.Site.seen c.args.site.now).told in
    record { base = old; front = []; place = refl; made = adds_written_nothing c.args.name.now old old (g.S.Site.seen c.create.new.self).told c.in_ok-create.ensures.ok }

pub sync_file-requires-clause-there : goal.sync_file-requires-clause-there
sync_file-requires-clause-there g c =
    let name : List ℕ = c.args.name.now in
    let old = (g.S.Site.seen c.args.site.now).told in
    let made = adds_written_nothing name old old (g.S.Site.seen c.create.new.self).told c.in_ok-create.ensures.ok in
    told_there name (spelling_of c.args.image.now) old (g.S.Site.seen c.write_contents.new.site).told (c.in_ok-len.ensures.whole.written old [] refl made)

pub returns-in_err-create-clause-begun : goal.returns-in_err-create-clause-begun
returns-in_err-create-clause-begun g c =
    let old = (g.S.Site.seen c.args.site.now).told in
    on_err c.from_residual.result
    (adds_begun_at_create c.args.name.now old old (g.S.Site.seen c.create.new.self).told (spelling_of c.args.image.now) c.in_err-create.ensures.err)

pub returns-in_err-len-clause-begun : goal.returns-in_err-len-clause-begun
returns-in_err-len-clause-begun g c =
    let name : List ℕ = c.args.name.now in
    let old = (g.S.Site.seen c.args.site.now).told in
    let new = (g.S.Site.seen c.write_contents.new.site).told in
    let made = adds_written_nothing name old old (g.S.Site.seen c.create.new.self).told c.in_ok-create.ensures.ok in
    on_err c.from_residual-in_err-len.result
    (subst (λ (l : List ℕ). Adds (IsBegunFile name l) old new) (append-nil (spelling_of c.args.image.now)) (c.in_err-len.ensures.begun.begun old [] [] refl made))

pub returns-in_err-sync_file-clause-begun : goal.returns-in_err-sync_file-clause-begun
returns-in_err-sync_file-clause-begun g c =
    let name : List ℕ = c.args.name.now in
    let old = (g.S.Site.seen c.args.site.now).told in
    let mid = (g.S.Site.seen c.write_contents.new.site).told in
    let made = adds_written_nothing name old old (g.S.Site.seen c.create.new.self).told c.in_ok-create.ensures.ok in
    on_err c.from_residual-in_err-sync_file.result
    (adds_begun_at_sync name old mid (g.S.Site.seen c.sync_file.new.self).told (spelling_of c.args.image.now) (c.in_ok-len.ensures.whole.written old [] refl made) c.in_err-sync_file.ensures.err)

pub returns-clause-whole : goal.returns-clause-whole
returns-clause-whole g c =
    let name : List ℕ = c.args.name.now in
    let old = (g.S.Site.seen c.args.site.now).told in
    let mid = (g.S.Site.seen c.write_contents.new.site).told in
    let made = adds_written_nothing name old old (g.S.Site.seen c.create.new.self).told c.in_ok-create.ensures.ok in
    adds_synced name old mid (g.S.Site.seen c.sync_file.new.self).told (spelling_of c.args.image.now) (c.in_ok-len.ensures.whole.written old [] refl made) c.in_ok-sync_file.ensures.ok
