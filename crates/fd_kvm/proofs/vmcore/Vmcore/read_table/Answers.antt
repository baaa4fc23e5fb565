-- The block of a page table that is dumped lies in the file.
use Rattle.std.proofs.Common.{◌≡◌, Some, sym, ap, subst, ◌∙◌, ◌+◌, ◌*◌, arith}
use Rattle.fd_site.specs.Contents.{file_of}
use Rattle.fd_vmcore.specs.Sections.{page_offset}
use Rattle.fd_kvm.specs.OpenFile.{HasBlock}
use Rattle.fd_kvm.proofs.Standing.{of_file, table_block}
use Rattle.fd_kvm.proofs.vmcore.Vmcore.read_table.Goals as goal

pub read_block-requires-clause-inside : goal.read_block-requires-clause-inside
read_block-requires-clause-inside g c told is =
    let s = c.args.self.now.sections in
    let place = c.in-Some.place in
    let found : page_offset s c.in-Table.address ≡ Some place = ap (page_offset s) (sym c.from.ensures) ∙ sym c.in-Some.ensures.place in
    of_file (HasBlock place) (file_of told c.args.self.now.name) s c.args.pages.now (c.requires.stands told is)
    (λ f there opened. let same : place + 8 * 0 ≡ place = omega arith in subst (λ n. HasBlock n f) same (table_block f s c.in-Table.address place 0 opened found (omega arith)))
