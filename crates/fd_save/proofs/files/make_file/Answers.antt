use Rattle.fd_save.proofs.Copying.{made_there, made_whole, make_begun_at_sync, make_begun_at_write, map_err, map_ok, on_err, written_there}
use Rattle.fd_site.proofs.FileJournals.{adds_begun_at_create}
use Rattle.fd_save.proofs.files.make_file.Goals as goal

pub returns-in_err-create-clause-err : goal.returns-in_err-create-clause-err
returns-in_err-create-clause-err g c =
    on_err c.from_residual.result
    (adds_begun_at_create c.args.name.now (g.S.Site.seen c.args.site.now).told (g.S.Site.seen c.args.site.now).told _
    c.args.bytes.now c.in_err-create.ensures.err)

pub write_file-requires-clause-there : goal.write_file-requires-clause-there
write_file-requires-clause-there g c =
    made_there c.args.name.now c.args.bytes.now (g.S.Site.seen c.args.site.now).told (g.S.Site.seen c.create.new.self).told
    (g.S.Site.seen c.create.new.self).told (g.S.Site.seen c.create.new.self).told c.in_ok-create.ensures.ok

pub returns-in_err-write_file-clause-err : goal.returns-in_err-write_file-clause-err
returns-in_err-write_file-clause-err g c =
    on_err c.from_residual-in_err-write_file.result
    (make_begun_at_write c.args.name.now c.args.bytes.now (g.S.Site.seen c.args.site.now).told
    (g.S.Site.seen c.create.new.self).told (g.S.Site.seen c.create.new.self).told (g.S.Site.seen c.write_file.new.self).told
    c.in_ok-create.ensures.ok c.in_err-write_file.ensures.err)

pub sync_file-requires-clause-there : goal.sync_file-requires-clause-there
sync_file-requires-clause-there g c =
    written_there c.args.name.now c.args.bytes.now (g.S.Site.seen c.args.site.now).told (g.S.Site.seen c.create.new.self).told
    (g.S.Site.seen c.write_file.new.self).told (g.S.Site.seen c.write_file.new.self).told c.in_ok-create.ensures.ok
    c.in_ok-write_file.ensures.ok

pub returns-clause-ok : goal.returns-clause-ok
returns-clause-ok g c =
    map_ok c.sync_file.result
    (made_whole c.args.name.now c.args.bytes.now (g.S.Site.seen c.args.site.now).told (g.S.Site.seen c.create.new.self).told
    (g.S.Site.seen c.write_file.new.self).told (g.S.Site.seen c.sync_file.new.self).told c.in_ok-create.ensures.ok
    c.in_ok-write_file.ensures.ok) c.sync_file.ensures.ok

pub returns-clause-err : goal.returns-clause-err
returns-clause-err g c =
    map_err c.sync_file.result
    (make_begun_at_sync c.args.name.now c.args.bytes.now (g.S.Site.seen c.args.site.now).told
    (g.S.Site.seen c.create.new.self).told (g.S.Site.seen c.write_file.new.self).told
    (g.S.Site.seen c.sync_file.new.self).told c.in_ok-create.ensures.ok c.in_ok-write_file.ensures.ok)
    c.sync_file.ensures.err
