-- The file is opened, read and printed.
use Rattle.std.proofs.Common.{ℕ, List, Err, ◌∙◌, subst}
use Rattle.fd_site.specs.Seen.{Watched}
use Rattle.fd_way.specs.Print.{PrintsRead}
use Rattle.fd_way.proofs.FileText.{file_gone, file_printed, file_printed_first}
use Rattle.fd_way.proofs.saved_file.read_file.Goals as goal

pub returns-in-Err-NoFile-clause-reads : goal.returns-in-Err-NoFile-clause-reads
returns-in-Err-NoFile-clause-reads g c front was before =
    file_gone _ _ c.args.number c.args.va c.args.length front was _ c.in-Err-NoFile.field-0 c.in-Err-NoFile.field-0-is (c.as_str.ensures.value ∙ c.vmcore_name-name.ensures.name)
    c.in-Err-NoFile.ensures.opening before

pub returns-in-Ok-print_read-clause-reads : goal.returns-in-Ok-print_read-clause-reads
returns-in-Ok-print_read-clause-reads g c front was before =
    file_printed _ _ _ c.args.number c.args.va c.args.length front was _ _ c.in-Ok.ensures.untouched.told
    (c.in-Ok.ensures.name ∙ c.as_str.ensures.value ∙ c.vmcore_name-name.ensures.name) before c.in-Ok-print_read.fault c.in-Ok-print_read.ensures.prints

pub returns-in-Err-SinkFault-clause-reads : goal.returns-in-Err-SinkFault-clause-reads
returns-in-Err-SinkFault-clause-reads g c front was before =
    let told = (g.S.Site.seen c.open.new.site).told in
    let name : List ℕ = c.in-Ok.kvm.name in
    let old : Watched ℕ = g.O.Sink.seen c.args.out.now in
    let new : Watched ℕ = g.O.Sink.seen c.print_read.new.out in
    file_printed_first _ _ _ c.args.number c.args.va c.args.length front was old new c.in-Ok.ensures.untouched.told
    (c.in-Ok.ensures.name ∙ c.as_str.ensures.value ∙ c.vmcore_name-name.ensures.name) before
    (subst (λ e. PrintsRead told name c.args.va c.args.length old new (Err e)) c.in-Err-SinkFault.field-0-is c.in-Err-SinkFault.ensures.prints)
