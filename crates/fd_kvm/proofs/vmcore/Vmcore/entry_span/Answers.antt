-- An entry that names a table goes on by that.
use Rattle.std.proofs.Common.{sym, subst}
use Rattle.fd_pte.specs.declared.entry.Kind.{Kind}
use Rattle.fd_kvm.specs.Place.{by_entry}
use Rattle.fd_kvm.specs.Runs.{IsSpan}
use Rattle.fd_kvm.proofs.vmcore.Vmcore.entry_span.Goals as goal

pub returns-in-Table-clause-span : goal.returns-in-Table-clause-span
returns-in-Table-clause-span g c told is f there =
    let P : Kind → Type 0 = λ kind. IsSpan (λ a. by_entry f c.args.self.now.sections a kind) c.args.va c.table_span.result in
    subst P (sym c.in-Table.is) (c.table_span.ensures.span told is f there)
