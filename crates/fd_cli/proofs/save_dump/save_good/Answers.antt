use Rattle.std.proofs.Common.{◌∙◌}
use Rattle.fd_save.specs.declared.saved.Saved.{Saved}
use Rattle.fd_cli.proofs.Saves.{clear_failed, is_error, refused_on, save_done, save_failed, save_refused, save_unnumbered, unchanged_on, unchanged_on_refused}
use Rattle.fd_cli.proofs.save_dump.save_good.Goals as goal

pub returns-in-Err-SiteFault-clause-works : goal.returns-in-Err-SiteFault-clause-works
returns-in-Err-SiteFault-clause-works g c =
    let failed = c.in-Err-SiteFault in
    save_failed c.args.options c.args.keep _ _ c.requires (failed.ensures.fault (is_error failed.field-0 _ failed.field-0-is))

pub returns-in-Err-NoNumber-clause-works : goal.returns-in-Err-NoNumber-clause-works
returns-in-Err-NoNumber-clause-works g c =
    let none = c.in-Err-NoNumber in
    save_unnumbered c.args.options c.args.keep _ _ c.in_ok-reply-in-Err-NoNumber.reply (none.ensures.no_number (is_error none.field-0 _ none.field-0-is))
    (unchanged_on Saved none.field-0 _ none.field-0-is none.ensures.unchanged) c.in_ok-reply-in-Err-NoNumber.ensures

pub returns-in-Err-Refused-clause-works : goal.returns-in-Err-Refused-clause-works
returns-in-Err-Refused-clause-works g c =
    let refused = c.in-Err-Refused in
    save_refused c.args.options c.args.keep _ _ refused.why c.in_ok-reply-in-Err-Refused.reply (refused_on Saved refused.field-0 refused.why _ refused.field-0-is refused.ensures.refused)
    (unchanged_on_refused Saved refused.field-0 refused.why _ refused.field-0-is refused.ensures.unchanged) c.in_ok-reply-in-Err-Refused.ensures

pub returns-in-Ok-clear_saved-clause-works : goal.returns-in-Ok-clear_saved-clause-works
returns-in-Ok-clear_saved-clause-works g c =
    let frame = c.in-Ok.ensures.frame in
    save_done c.args.options c.args.keep (g.S.Site.seen c.args.site.now) (g.S.Site.seen c.save.new.site) (g.S.Site.seen c.clear_saved.new.site) c.in-Ok.saved
    c.in-Ok.ensures.saved frame.size frame.block c.done.result c.in-Ok-clear_saved.ensures.ok
    (record { status = c.done.ensures.status; text = c.done.ensures.text ∙ c.saved_line.ensures })

pub returns-in-Err-clause-works : goal.returns-in-Err-clause-works
returns-in-Err-clause-works g c =
    let frame = c.in-Ok.ensures.frame in
    clear_failed c.args.options c.args.keep (g.S.Site.seen c.args.site.now) (g.S.Site.seen c.save.new.site) (g.S.Site.seen c.clear_saved.new.site) c.in-Ok.saved
    c.in-Ok.ensures.saved frame.size frame.block c.requires c.in-Err.ensures.err
