use Rattle.fd_cli.proofs.Saves.{clear_fault, clear_refused, is_error, refused_on, unchanged_on_refused}
use Rattle.fd_cli.proofs.save_dump.clear_good.Goals as goal

pub returns-in-Err-Refused-clause-works : goal.returns-in-Err-Refused-clause-works
returns-in-Err-Refused-clause-works g c =
    let refused = c.in-Err-Refused in
    clear_refused c.args.force _ _ refused.why c.in_ok-reply-in-Err-Refused.reply (refused_on (Unit {0}) refused.field-0 refused.why _ refused.field-0-is refused.ensures.refused)
    (unchanged_on_refused (Unit {0}) refused.field-0 refused.why _ refused.field-0-is refused.ensures.unchanged) c.in_ok-reply-in-Err-Refused.ensures

pub returns-clause-works : goal.returns-clause-works
returns-clause-works g c =
    let failed = c.in-Err-SiteFault in
    clear_fault c.args.force _ _ c.requires (failed.ensures.fault (is_error failed.field-0 _ failed.field-0-is))
