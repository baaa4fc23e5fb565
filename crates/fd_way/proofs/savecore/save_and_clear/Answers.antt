-- The dump is saved and cleared, or either fails.
use Rattle.std.proofs.Common.{refl}
use Rattle.fd_save.specs.declared.fault.SaveFault.TheVariants.{SiteFault}
use Rattle.fd_way.specs.Steps.{SavesAndClears}
use Rattle.fd_way.proofs.Errors.{by_error}
use Rattle.fd_way.proofs.Savecores.{cleared, not_cleared, not_saved}
use Rattle.fd_way.proofs.savecore.save_and_clear.Goals as goal

pub returns-in_err-saved-clause-saves : goal.returns-in_err-saved-clause-saves
returns-in_err-saved-clause-saves g c =
    let e = c.in_err-saved.ensures in
    by_error c.from_residual.result c.in_err-saved.field-0.0 (SavesAndClears (g.S.Site.seen c.args.site.now) (g.S.Site.seen c.save.new.site)) c.from_residual.ensures.1
    (not_saved _ _ c.in_err-saved.field-0.0 e.refused e.no_number e.unchanged e.fault)

pub returns-in_err-clear-clause-saves : goal.returns-in_err-clear-clause-saves
returns-in_err-clear-clause-saves g c =
    let saved = c.in_ok-saved.ensures in
    by_error c.from_residual-in_err-clear.result SiteFault (SavesAndClears (g.S.Site.seen c.args.site.now) (g.S.Site.seen c.clear.new.site)) c.from_residual-in_err-clear.ensures.1
    (not_cleared _ _ _ c.in_ok-saved.saved saved.saved saved.frame SiteFault refl c.in_err-clear.ensures.err)

pub returns-clause-saves : goal.returns-clause-saves
returns-clause-saves g c = cleared _ _ _ c.in_ok-saved.saved c.in_ok-saved.ensures.saved c.in_ok-saved.ensures.frame c.in_ok-clear.ensures.ok
