-- A page table's entry lies in the file, and maps the rest of its page.
use Rattle.std.proofs.Common.{◌≡◌, ◌+◌, ◌*◌, ◌/◌, ◌%◌, Ok, Some, sym, ap, ◌∙◌, arith}
use Rattle.fd_site.specs.Contents.{file_of}
use Rattle.fd_pte.specs.Architecture.{kind_of}
use Rattle.fd_pte.specs.declared.entry.Kind.TheVariants.{Leaf}
use Rattle.fd_mini.specs.declared.header.MiniHeader.{MiniHeader}
use Rattle.fd_vmcore.specs.Sections.{page_offset}
use Rattle.fd_kvm.specs.OpenFile.{HasBlock}
use Rattle.fd_kvm.specs.Place.{by_table, table_entry}
use Rattle.fd_kvm.proofs.Placed.{page_next}
use Rattle.fd_kvm.proofs.Standing.{of_file, table_block}
use Rattle.fd_kvm.proofs.vmcore.Vmcore.table_span.Goals as goal

pub read_entry-requires : goal.read_entry-requires
read_entry-requires g c = record {
  stands = c.requires.stands;
  aligned = omega (arith, c.in-Some.ensures.whole);
  inside = λ told is.
      let s = c.args.self.now.sections in
      let index = c.args.va / 4096 % 512 in
      let place = c.in-Some.place in
      let found : page_offset s c.args.table ≡ Some place = ap (page_offset s) (sym c.from.ensures) ∙ sym c.in-Some.ensures.place in
      of_file (HasBlock (place + 8 * index)) (file_of told c.args.self.now.name) s c.args.pages.now (c.requires.stands told is)
      (λ f there opened. table_block f s c.args.table place index opened found (omega arith));
}

pub returns-in-Leaf-clause-span : goal.returns-in-Leaf-clause-span
returns-in-Leaf-clause-span g c told is f there i within =
    let s = c.args.self.now.sections in
    let found : page_offset s c.args.table ≡ Some c.in-Some.place = ap (page_offset s) (sym c.from.ensures) ∙ sym c.in-Some.ensures.place in
    let entry = c.in_ok-bits.ensures.entry told is f there in
    let leaf : kind_of s.header.arch (table_entry f c.in-Some.place c.args.va) 0 ≡ Leaf c.in-Leaf.address =
    ap (λ b. kind_of s.header.arch b 0) (sym entry) ∙ ap (λ (h : MiniHeader). kind_of h.arch c.in_ok-bits.bits 0) (sym c.header.ensures) ∙ sym c.in-Leaf.ensures.kind in
    ap (by_table f s.header.arch (c.args.va + i)) found
    ∙ page_next f s.header.arch c.args.va i c.in-Some.place c.in-Leaf.address leaf (omega (arith, c.page_span.ensures.len))
    ∙ ap (λ n. Ok (n + i)) (sym c.page_span.ensures.first)
