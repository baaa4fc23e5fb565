-- The pages are given entry by entry, up to one after which no more are wanted, or to a fault of the site.
use Rattle.std.proofs.Common.{◌≡◌, ℕ, ◌+◌, ◌*◌, ◌/◌, ◌<◌, [], ◌++◌, length, slice_range, min, true, false, sym, ap, subst, ◌∙◌, refl, arith}
use Rattle.std.specs.Int.{div_ceil}
use Rattle.std.proofs.lemmas.List.{length-append}
use Rattle.fd_mini.specs.Layout.{unit_of}
use Rattle.fd_mini.specs.Places.{places_of}
use Rattle.fd_mini.specs.declared.header.MiniHeader.{MiniHeader}
use Rattle.fd_vmcore.specs.Sections.{Sections}
use Rattle.fd_kvm.specs.Parts.{entry_pieces, pages_of_entries, pages_of_entry}
use Rattle.fd_kvm.specs.Visits.{AreGiven, Took}
use Rattle.fd_kvm.specs.Walk.{pages_of_pieces, piece_count, window_pages}
use Rattle.fd_kvm.proofs.Pieces.{entries_all, entries_more, entries_then, few_more, first_inside}
use Rattle.fd_kvm.proofs.Visited.{failed_first, failed_goes, marked_none, marked_then, took_then}
use Rattle.fd_kvm.proofs.vmcore.Vmcore.walk_window.Goals as goal

-- how many entries there are
entries_are :
    (s : Sections) (h : MiniHeader) (unit pieces count : ℕ) → h ≡ s.header → unit ≡ unit_of h → pieces ≡ piece_count h → count ≡ div_ceil pieces (unit / 4096)
    → count ≡ div_ceil (piece_count s.header) (entry_pieces s)
entries_are s h unit pieces count same is_unit are is =
    is ∙ ap (λ n. div_ceil n (unit / 4096)) are ∙ ap (λ n. div_ceil (piece_count h) (n / 4096)) is_unit ∙ ap (λ (m : MiniHeader). div_ceil (piece_count m) (unit_of m / 4096)) same

pub walk_entry-requires-clause-inside : goal.walk_entry-requires-clause-inside
walk_entry-requires-clause-inside g c =
    let s = c.args.self.now.sections in
    first_inside s.header c.loop-index.index
    (subst (λ n. c.loop-index.index < n)
    (entries_are s c.header-header.result.now c.unit_of.result c.piece_count.result c.div_ceil-entries.result
    c.header-header.ensures c.unit_of.ensures.value c.piece_count.ensures.count c.div_ceil-entries.ensures)
    c.loop-index-test.true)

pub loop-index-init : goal.loop-index-init
loop-index-init g c = record {
  part = record {
    pages = [];
    taken = refl;
    marked = marked_none c.args.self.now.sections c.args.walked.now;
    are = (
      omega arith,
      (λ told is f there.
          let none : 0 ≡ min (entry_pieces c.args.self.now.sections * 0) (piece_count c.args.self.now.sections.header) = omega arith in
          ap (pages_of_pieces f c.args.self.now.sections 0) none),
    );
  };
  kept = λ other. absurd (other refl);
  stands = c.requires.stands;
  untouched = record { told = refl; size = refl; block = refl; count = omega arith };
}

pub returns-in_err-walk_entry-clause-part : goal.returns-in_err-walk_entry-clause-part
returns-in_err-walk_entry-clause-part g c =
    let s = c.args.self.now.sections in
    let result = c.from_residual.result in
    let failed = c.from_residual.ensures.0 in
    let front = c.loop-index.invariant.part in
    let next = c.in_err-walk_entry.ensures.part in
    let inside : entry_pieces s * c.loop-index.index < piece_count s.header =
    first_inside s.header c.loop-index.index
    (subst (λ n. c.loop-index.index < n)
    (entries_are s c.header-header.result.now c.unit_of.result c.piece_count.result c.div_ceil-entries.result
    c.header-header.ensures c.unit_of.ensures.value c.piece_count.ensures.count c.div_ceil-entries.ensures)
    c.loop-index-test.true) in
    let few = few_more (entry_pieces s) (piece_count s.header) c.loop-index.index (length front.pages) (length next.pages) inside front.are.0 next.are.0 in
    record {
      pages = front.pages ++ next.pages;
      taken = subst (λ b. Took g.V.Visit.took c.args.visit.now (front.pages ++ next.pages) b c.walk_entry.new.visit) (sym (failed_goes result failed))
          (took_then g.V.Visit.took front.pages next.pages true c.args.visit.now c.loop-index.visit c.walk_entry.new.visit front.taken next.taken);
      marked = marked_then s front.pages next.pages c.args.walked.now c.loop-index.walked c.walk_entry.new.walked front.marked next.marked;
      are = (
        omega (arith, few, length-append front.pages next.pages),
        (λ told is f there. failed_first (window_pages f s) (front.pages ++ next.pages) result failed
            (entries_then f s c.loop-index.index front.pages next.pages inside (front.are.1 told is f there)
            (next.are.1 told (c.loop-index.invariant.untouched.told ∙ is) f there))),
      );
    }

pub returns-then-not-branch-clause-part : goal.returns-then-not-branch-clause-part
returns-then-not-branch-clause-part g c =
    let s = c.args.self.now.sections in
    let front = c.loop-index.invariant.part in
    let next = c.in_ok-walk_entry.ensures.part in
    let inside : entry_pieces s * c.loop-index.index < piece_count s.header =
    first_inside s.header c.loop-index.index
    (subst (λ n. c.loop-index.index < n)
    (entries_are s c.header-header.result.now c.unit_of.result c.piece_count.result c.div_ceil-entries.result
    c.header-header.ensures c.unit_of.ensures.value c.piece_count.ensures.count c.div_ceil-entries.ensures)
    c.loop-index-test.true) in
    let few = few_more (entry_pieces s) (piece_count s.header) c.loop-index.index (length front.pages) (length next.pages) inside front.are.0 next.are.0 in
    let ended = c.if-not-branch.true in
    record {
      pages = front.pages ++ next.pages;
      taken = took_then g.V.Visit.took front.pages next.pages false c.args.visit.now c.loop-index.visit c.walk_entry.new.visit front.taken
          (subst (λ b. Took g.V.Visit.took c.loop-index.visit next.pages b c.walk_entry.new.visit) ended next.taken);
      marked = marked_then s front.pages next.pages c.args.walked.now c.loop-index.walked c.walk_entry.new.walked front.marked next.marked;
      are = (
        omega (arith, few, length-append front.pages next.pages),
        (λ told is f there. entries_then f s c.loop-index.index front.pages next.pages inside (front.are.1 told is f there)
            (subst (AreGiven next.pages (pages_of_entry f s c.loop-index.index)) ended (next.are.1 told (c.loop-index.invariant.untouched.told ∙ is) f there))),
      );
    }

pub loop-index-preserved : goal.loop-index-preserved
loop-index-preserved g c =
    let s = c.args.self.now.sections in
    let front = c.loop-index.invariant.part in
    let next = c.in_ok-walk_entry.ensures.part in
    let inside : entry_pieces s * c.loop-index.index < piece_count s.header =
    first_inside s.header c.loop-index.index
    (subst (λ n. c.loop-index.index < n)
    (entries_are s c.header-header.result.now c.unit_of.result c.piece_count.result c.div_ceil-entries.result
    c.header-header.ensures c.unit_of.ensures.value c.piece_count.ensures.count c.div_ceil-entries.ensures)
    c.loop-index-test.true) in
    let few = few_more (entry_pieces s) (piece_count s.header) c.loop-index.index (length front.pages) (length next.pages) inside front.are.0 next.are.0 in
    let goes = c.if-not-branch.false in
    let read = c.in_ok-walk_entry.ensures.untouched in
    let before = c.loop-index.invariant.untouched in
    record {
      part = record {
        pages = front.pages ++ next.pages;
        taken = took_then g.V.Visit.took front.pages next.pages true c.args.visit.now c.loop-index.visit c.walk_entry.new.visit front.taken
            (subst (λ b. Took g.V.Visit.took c.loop-index.visit next.pages b c.walk_entry.new.visit) goes next.taken);
        marked = marked_then s front.pages next.pages c.args.walked.now c.loop-index.walked c.walk_entry.new.walked front.marked next.marked;
        are = (
          omega (arith, few, length-append front.pages next.pages),
          (λ told is f there.
              let one : next.pages ≡ pages_of_entry f s c.loop-index.index =
              subst (AreGiven next.pages (pages_of_entry f s c.loop-index.index)) goes (next.are.1 told (c.loop-index.invariant.untouched.told ∙ is) f there) in
              ap (λ l. l ++ next.pages) (front.are.1 told is f there) ∙ ap (λ l. pages_of_entries f s c.loop-index.index ++ l) one
              ∙ sym (entries_more f s c.loop-index.index inside)),
        );
      };
      kept = λ other told is f there.
          let same : c.loop-index.index / 512 ≡ (c.loop-index.index + 1) / 512 = omega (arith, other) in
          subst (λ n. c.walk_entry.new.block ≡ slice_range f ((places_of s.header).directory + 4096 * n) ((places_of s.header).directory + 4096 * n + 4096)) same
          (c.in_ok-walk_entry.ensures.kept told (c.loop-index.invariant.untouched.told ∙ is) f there);
      stands = c.in_ok-walk_entry.ensures.stands;
      untouched = record {
        told = read.told ∙ before.told;
        size = read.size ∙ before.size;
        block = read.block ∙ before.block;
        count = omega (arith, read.count, before.count);
      };
    }

pub returns-clause-part : goal.returns-clause-part
returns-clause-part g c =
    let s = c.args.self.now.sections in
    let front = c.loop-index.invariant.part in
    let count : c.loop-index.index ≡ c.div_ceil-entries.result = omega (arith, c.loop-index-test.false, c.loop-index.auto.index-end) in
    record {
      pages = front.pages;
      taken = front.taken;
      marked = front.marked;
      are = (
        omega (arith, front.are.0),
        (λ told is f there. front.are.1 told is f there ∙ entries_all f s c.loop-index.index
            (count ∙ entries_are s c.header-header.result.now c.unit_of.result c.piece_count.result c.div_ceil-entries.result
            c.header-header.ensures c.unit_of.ensures.value c.piece_count.ensures.count c.div_ceil-entries.ensures)),
      );
    }
