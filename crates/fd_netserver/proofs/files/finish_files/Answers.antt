use Rattle.fd_site.specs.Journal.{Create, Write, Sync}
use Rattle.fd_netserver.proofs.Steps.{begun_after, begun_by, there_made, there_written, on_err}
use Rattle.fd_netserver.proofs.files.finish_files.Goals as goal

pub returns-in_err-create-clause-err : goal.returns-in_err-create-clause-err
returns-in_err-create-clause-err g c =
    on_err _ _
    (begun_after _ _ _ (Sync c.args.vmcore.now) _ c.in_ok-sync_file.ensures.ok
    (begun_by _ _ (Create c.args.info.now) _ c.in_err-create.ensures.err))

pub write_file-requires-clause-there : goal.write_file-requires-clause-there
write_file-requires-clause-there g c = there_made _ _ c.args.info.now c.in_ok-create.ensures.ok

pub returns-in_err-write_file-clause-err : goal.returns-in_err-write_file-clause-err
returns-in_err-write_file-clause-err g c =
    on_err _ _
    (begun_after _ _ _ (Sync c.args.vmcore.now) _ c.in_ok-sync_file.ensures.ok
    (begun_after _ _ _ (Create c.args.info.now) _ c.in_ok-create.ensures.ok
    (begun_by _ _ (Write c.args.info.now 0 c.args.text.now) _ c.in_err-write_file.ensures.err)))

pub sync_file-requires-2-clause-there : goal.sync_file-requires-2-clause-there
sync_file-requires-2-clause-there g c = there_written _ _ _ c.args.info.now 0 c.args.text.now c.in_ok-create.ensures.ok c.in_ok-write_file.ensures.ok

pub returns-in_err-sync_file-2-clause-err : goal.returns-in_err-sync_file-2-clause-err
returns-in_err-sync_file-2-clause-err g c =
    on_err _ _
    (begun_after _ _ _ (Sync c.args.vmcore.now) _ c.in_ok-sync_file.ensures.ok
    (begun_after _ _ _ (Create c.args.info.now) _ c.in_ok-create.ensures.ok
    (begun_after _ _ _ (Write c.args.info.now 0 c.args.text.now) _ c.in_ok-write_file.ensures.ok
    (begun_by _ _ (Sync c.args.info.now) _ c.in_err-sync_file-2.ensures.err))))
