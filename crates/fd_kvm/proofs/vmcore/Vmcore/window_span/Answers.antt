-- The directory's entry lies in the file, and is that of the addresses behind, too.
use Rattle.std.proofs.Common.{◌≡◌, ◌+◌, ◌*◌, sym, ap, subst, ◌∙◌, arith}
use Rattle.std.proofs.lemmas.Result.{err_from_is_err_and}
use Rattle.fd_site.specs.Contents.{file_of}
use Rattle.fd_mini.specs.Places.{places_of}
use Rattle.fd_mini.specs.declared.header.MiniHeader.{MiniHeader}
use Rattle.fd_kvm.specs.OpenFile.{HasBlock}
use Rattle.fd_kvm.specs.Place.{entry_index, by_entry, placed}
use Rattle.fd_kvm.specs.Runs.{window_limit}
use Rattle.fd_kvm.proofs.Placed.{in_window, by_window_in, by_window, by_window_here, kind_found, fault_here}
use Rattle.fd_kvm.proofs.Standing.{entry_block, of_file}
use Rattle.fd_kvm.proofs.vmcore.Vmcore.window_span.Goals as goal

pub read_entry-requires : goal.read_entry-requires
read_entry-requires g c = record {
  stands = c.requires.stands;
  aligned = omega (arith, c.directory.ensures.whole);
  inside = λ told is.
      let s = c.args.self.now.sections in
      let index : c.entry_index.result ≡ entry_index s.header c.args.va = c.entry_index.ensures ∙ ap (λ (h : MiniHeader). entry_index h c.args.va) c.header-header.ensures in
      let inside = in_window s.header c.args.va (by_window_in s.header c.args.va c.requires.window) in
      of_file (HasBlock (c.directory.result + 8 * c.entry_index.result)) (file_of told c.args.self.now.name) s c.args.pages.now (c.requires.stands told is)
      (λ f there opened. subst (λ n. HasBlock (n + 8 * c.entry_index.result) f) (sym c.directory.ensures.place)
      (subst (λ n. HasBlock ((places_of s.header).directory + 8 * n) f) (sym index) (entry_block f s (entry_index s.header c.args.va) opened inside.1)));
}

pub returns-in_err-span-clause-span : goal.returns-in_err-span-clause-span
returns-in_err-span-clause-span g c told is f there =
    let s = c.args.self.now.sections in
    let kind = c.entry_kind-kind.result in
    let found = kind_found f s c.args.va c.header-header.result.now c.directory.result c.entry_index.result c.in_ok-bits.bits c.entry_height_of.result kind
    c.header-header.ensures c.directory.ensures.place c.entry_index.ensures
    (c.in_ok-bits.ensures.entry told is f there) c.entry_height_of.ensures.value c.entry_kind-kind.ensures.kind in
    let p = err_from_is_err_and c.from_residual-in_err-span.result c.from_residual-in_err-span.ensures.1 in
    rw (p.1, p.2) (fault_here (placed f s) (λ a. by_entry f s a kind) c.args.va c.in_err-span.field-0.0
    (by_window_here f s c.args.va kind c.requires.window found) (c.in_err-span.ensures.span told (c.in_ok-bits.ensures.untouched.told ∙ is) f there))

pub returns-clause-span : goal.returns-clause-span
returns-clause-span g c told is f there i within =
    let s = c.args.self.now.sections in
    let kind = c.entry_kind-kind.result in
    let found = kind_found f s c.args.va c.header-header.result.now c.directory.result c.entry_index.result c.in_ok-bits.bits c.entry_height_of.result kind
    c.header-header.ensures c.directory.ensures.place c.entry_index.ensures
    (c.in_ok-bits.ensures.entry told is f there) c.entry_height_of.ensures.value c.entry_kind-kind.ensures.kind in
    by_window f s c.args.va i kind c.requires.window found
    (let w = c.window_limit.ensures.value in let m = c.min.ensures in let e = ap (λ (h : MiniHeader). window_limit h c.args.va) c.header-header.ensures in
    omega arith)
    ∙ c.in_ok-span.ensures.span told (c.in_ok-bits.ensures.untouched.told ∙ is) f there i (let m = c.min.ensures in omega arith)
