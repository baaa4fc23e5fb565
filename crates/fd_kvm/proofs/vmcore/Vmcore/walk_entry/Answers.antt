-- The pages of an entry are those of its pieces by the entry that was read.
use Rattle.std.proofs.Common.{◌≡◌, ℕ, ◌+◌, ◌-◌, ◌*◌, ◌/◌, Option, [], min, sym, ap, subst, ◌∙◌, refl, arith}
use Rattle.fd_bytes.specs.Field.{u64_le_at}
use Rattle.fd_mini.specs.Layout.{entry_height_of, unit_of}
use Rattle.fd_mini.specs.Places.{places_of}
use Rattle.fd_mini.specs.declared.header.MiniHeader.{MiniHeader}
use Rattle.fd_pte.specs.Architecture.{kind_of}
use Rattle.fd_kvm.specs.Parts.{count_of_entry, entry_pieces, page_by_kind, pages_by_kind, pages_of_entry}
use Rattle.fd_kvm.specs.Visits.{AreGiven, Took}
use Rattle.fd_kvm.specs.Walk.{piece_count}
use Rattle.fd_kvm.specs.declared.page.Page.{Page}
use Rattle.fd_kvm.proofs.Pieces.{entry_low, entry_there, pages_of_read_entry}
use Rattle.fd_kvm.proofs.Visited.{failed_first, failed_goes, given_few, mapped_few, marked_none}
use Rattle.fd_kvm.proofs.vmcore.Vmcore.walk_entry.Goals as goal

pub directory_entry-requires-clause-inside : goal.directory_entry-requires-clause-inside
directory_entry-requires-clause-inside g c = entry_there c.args.self.now.sections.header c.args.index c.requires.inside

pub directory_entry-requires-clause-low : goal.directory_entry-requires-clause-low
directory_entry-requires-clause-low g c = entry_low c.args.self.now.sections.header c.args.index c.requires.inside

pub returns-in_err-bits-clause-part : goal.returns-in_err-bits-clause-part
returns-in_err-bits-clause-part g c =
    let s = c.args.self.now.sections in
    let result = c.from_residual.result in
    let failed = c.from_residual.ensures.0 in
    record {
      pages = [];
      taken = subst (λ b. Took g.V.Visit.took c.args.visit.now [] b c.args.visit.now) (sym (failed_goes result failed)) refl;
      marked = marked_none s c.args.walked.now;
      are = (omega arith, (λ told is f there. failed_first (pages_of_entry f s c.args.index) [] result failed (pages_of_entry f s c.args.index, refl)));
    }

pub returns-in_err-found-clause-part : goal.returns-in_err-found-clause-part
returns-in_err-found-clause-part g c =
    let s = c.args.self.now.sections in
    let result = c.from_residual-in_err-found.result in
    let failed = c.from_residual-in_err-found.ensures.0 in
    record {
      pages = [];
      taken = subst (λ b. Took g.V.Visit.took c.args.visit.now [] b c.args.visit.now) (sym (failed_goes result failed)) refl;
      marked = marked_none s c.args.walked.now;
      are = (omega arith, (λ told is f there. failed_first (pages_of_entry f s c.args.index) [] result failed (pages_of_entry f s c.args.index, refl)));
    }

pub returns-clause-part : goal.returns-clause-part
returns-clause-part g c =
    let s = c.args.self.now.sections in
    let index = c.args.index in
    let given = c.walk_pieces.ensures.part in
    let bits = c.in_ok-bits.bits in
    let same = c.header-header.ensures in
    let each : c.unit_of-each.result / 4096 ≡ entry_pieces s = ap (λ n. n / 4096) (c.unit_of-each.ensures.value ∙ ap (λ (h : MiniHeader). unit_of h) same) in
    let first = c.unit_of-each.result / 4096 * index in
    let ends : c.min-end.result ≡ min (first + c.unit_of-each.result / 4096) (piece_count s.header) =
    c.min-end.ensures ∙ ap (min (first + c.unit_of-each.result / 4096)) (c.piece_count.ensures.count ∙ ap (λ (h : MiniHeader). piece_count h) same) in
    let count : c.min-end.result - first ≡ count_of_entry s index =
    ap (λ n. n - first) ends ∙ ap (λ n. min (n * index + n) (piece_count s.header) - n * index) each in
    let found : ℕ → Option Page = λ piece. page_by_kind s bits c.read_table.new.table c.in_ok-found.found (s.header.kernbase + 4096 * piece) in
    record {
      pages = given.pages;
      taken = given.taken;
      marked = given.marked;
      are = (
        omega (
          arith,
          count,
          given_few given.pages (pages_by_kind s bits c.read_table.new.table c.in_ok-found.found first (c.min-end.result - first)) c.walk_pieces.result given.are,
          mapped_few found first (c.min-end.result - first),
        ),
        (λ told is f there.
            let entry : bits ≡ u64_le_at f ((places_of s.header).directory + 8 * index) =
            c.in_ok-bits.ensures.entry told is f there in
            let kind : c.entry_kind-kind.result ≡ kind_of s.header.arch bits (entry_height_of s.header) =
            c.entry_kind-kind.ensures.kind ∙ ap (kind_of c.header-header.result.now.arch bits) c.entry_height_of.ensures.value
            ∙ ap (λ (h : MiniHeader). kind_of h.arch bits (entry_height_of h)) same in
            subst (λ l. AreGiven given.pages l c.walk_pieces.result)
            (pages_of_read_entry f s (c.unit_of-each.result / 4096) index c.min-end.result bits c.read_table.new.table c.entry_kind-kind.result c.in_ok-found.found each entry kind
            (c.in_ok-found.ensures.table told (c.in_ok-bits.ensures.untouched.told ∙ is) f there) ends) given.are),
      );
    }
