use Rattle.std.proofs.Common.{arith}
use Rattle.fd_networld.proofs.Watching.{cause_by, failed_read, next_after_read}
use Rattle.fd_networld.proofs.watched.WatchedSite.file_len.Goals as goal

pub noted-requires : goal.noted-requires
noted-requires g c = (
  omega arith,
  next_after_read c.file_len-answer.result c.args.self.now.site.calls c.file_len-answer.new.self.calls
      c.file_len-answer.ensures.ok_calls c.file_len-answer.ensures.err_calls,
)

pub returns-clause-cause : goal.returns-clause-cause
returns-clause-cause g c =
    cause_by g.row.MOST _ c.file_len-answer.new.self c.noted.new.self.site c.args.self.now.waiting c.args.self.now.failed c.noted.new.self.failed c.file_len-answer.result c.noted.result
    c.noted.ensures.answer c.noted.ensures.site c.args.self.now.watched
    (failed_read c.file_len-answer.result c.args.self.now.site.calls c.file_len-answer.new.self.calls
    c.file_len-answer.ensures.due c.file_len-answer.ensures.err_calls) c.noted.ensures.err
