use Rattle.std.proofs.Common.{arith}
use Rattle.fd_networld.proofs.Watching.{cause_by, next_after}
use Rattle.fd_networld.proofs.watched.WatchedSite.sync_file.Goals as goal

pub noted-requires : goal.noted-requires
noted-requires g c = (omega arith, next_after c.sync_file-answer.result _ _ c.sync_file-answer.ensures.ok_calls c.sync_file-answer.ensures.err_calls)

pub returns-clause-cause : goal.returns-clause-cause
returns-clause-cause g c =
    cause_by g.row.MOST _ c.sync_file-answer.new.self c.noted.new.self.site c.args.self.now.waiting c.args.self.now.failed c.noted.new.self.failed c.sync_file-answer.result c.noted.result
    c.noted.ensures.answer c.noted.ensures.site c.args.self.now.watched c.sync_file-answer.ensures.err_calls c.noted.ensures.err
