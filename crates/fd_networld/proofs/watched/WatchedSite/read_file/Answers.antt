use Rattle.std.proofs.Common.{arith}
use Rattle.fd_networld.proofs.Watching.{cause_by, failed_read, next_after_read}
use Rattle.fd_networld.proofs.watched.WatchedSite.read_file.Goals as goal

pub noted-requires : goal.noted-requires
noted-requires g c = (
  omega arith,
  next_after_read c.read_file-answer.result c.args.self.now.site.calls c.read_file-answer.new.self.calls
      c.read_file-answer.ensures.ok_calls c.read_file-answer.ensures.err_calls,
)

pub returns-clause-cause : goal.returns-clause-cause
returns-clause-cause g c =
    cause_by g.row.MOST _ c.read_file-answer.new.self c.noted.new.self.site c.args.self.now.waiting c.args.self.now.failed c.noted.new.self.failed c.read_file-answer.result c.noted.result
    c.noted.ensures.answer c.noted.ensures.site c.args.self.now.watched
    (failed_read c.read_file-answer.result c.args.self.now.site.calls c.read_file-answer.new.self.calls
    c.read_file-answer.ensures.due c.read_file-answer.ensures.err_calls) c.noted.ensures.err
