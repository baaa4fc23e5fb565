use Rattle.std.proofs.Common.{◌≡◌, List, ◌∙◌, OnErr, OnOk, subst}
use Rattle.fd_site.specs.Begun.{IsBegun}
use Rattle.fd_site.specs.Contents.{Adds, with_entries}
use Rattle.fd_site.specs.Journal.{Entry}
use Rattle.fd_netserver.proofs.Steps.{end_named}
use Rattle.fd_netserver.proofs.files.end_files.Goals as goal

pub returns-clause-ok : goal.returns-clause-ok
returns-clause-ok g c =
    subst (λ (es : List Entry). OnOk c.finish_files.result ((g.S.Site.seen c.finish_files.new.site).told ≡ with_entries (g.S.Site.seen c.args.site.now).told es))
    (end_named c.args.number c.args.header.now c.args.parity _ _ _ (c.as_str.ensures.value ∙ c.vmcore_name-vmcore.ensures.name)
    (c.as_str-2.ensures.value ∙ c.info_name-info.ensures.name) (c.as_slice.ensures.value ∙ c.print_info-text.ensures))
    c.finish_files.ensures.ok

pub returns-clause-err : goal.returns-clause-err
returns-clause-err g c =
    subst (λ (es : List Entry). OnErr c.finish_files.result (Adds (IsBegun es) (g.S.Site.seen c.args.site.now).told (g.S.Site.seen c.finish_files.new.site).told))
    (end_named c.args.number c.args.header.now c.args.parity _ _ _ (c.as_str.ensures.value ∙ c.vmcore_name-vmcore.ensures.name)
    (c.as_str-2.ensures.value ∙ c.info_name-info.ensures.name) (c.as_slice.ensures.value ∙ c.print_info-text.ensures))
    c.finish_files.ensures.err
