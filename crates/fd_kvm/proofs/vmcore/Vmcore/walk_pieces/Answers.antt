-- The pages are given piece by piece, up to one after which no more are wanted.
use Rattle.std.proofs.Common.{◌≡◌, ℕ, ◌+◌, ◌-◌, ◌*◌, Option, sym, arith}
use Rattle.fd_kvm.specs.Parts.{page_by_kind, pages_by_kind}
use Rattle.fd_kvm.specs.declared.page.Page.{Page}
use Rattle.fd_kvm.proofs.Pieces.{absent_none}
use Rattle.fd_kvm.proofs.Visited.{part_none, part_pass, part_item, part_last}
use Rattle.fd_kvm.proofs.vmcore.Vmcore.walk_pieces.Goals as goal
use Rattle.fd_kvm.proofs.vmcore.Vmcore.walk_pieces.Goals.{in-Some+else-not-visit, in_default-page_by_kind}

pub returns-in-Absent : goal.returns-in-Absent
returns-in-Absent g c =
    let s = c.args.self.now.sections in
    record {
      part = part_none g.V.Visit.took s c.args.visit.now c.args.walked.now (λ pages. pages ≡ pages_by_kind s c.args.bits c.args.table.now c.args.kind c.args.first (c.args.end - c.args.first))
          (sym (absent_none s c.args.bits c.args.table.now c.args.kind c.args.first (c.args.end - c.args.first) c.in-Absent.is));
    }

pub returns-then-not-visit : goal.returns-then-not-visit
returns-then-not-visit g c =
    let s = c.args.self.now.sections in
    let h : ℕ → Option Page = λ piece. page_by_kind s c.args.bits c.args.table.now c.args.kind (s.header.kernbase + 4096 * piece) in
    record {
      part = part_last g.V.Visit.took s h c.args.first (c.loop-piece.piece - c.args.first) c.loop-piece.piece (omega arith)
          c.args.visit.now c.loop-piece.visit c.visit.new.self c.args.walked.now c.loop-piece.walked c.mark.new.walked (c.args.end - c.args.first) c.in-Some.page (omega arith)
          (sym c.in-Some.ensures.page) c.loop-piece.invariant c.if-not-visit.ensures c.mark.ensures;
    }

pub loop-piece-preserved : goal.loop-piece-preserved
loop-piece-preserved g c =
    let s = c.args.self.now.sections in
    let h : ℕ → Option Page = λ piece. page_by_kind s c.args.bits c.args.table.now c.args.kind (s.header.kernbase + 4096 * piece) in
    elim c.match-page_by_kind.branch [
      | in-Some+else-not-visit w ↦ rw (w.walked-is, w.visit-is) (part_item g.V.Visit.took s h c.args.first (c.loop-piece.piece - c.args.first) c.loop-piece.piece (omega arith)
          c.args.visit.now c.loop-piece.visit w.visit.new.self c.args.walked.now c.loop-piece.walked w.mark.new.walked (c.loop-piece.piece + 1 - c.args.first) w.in-Some.page (omega arith)
          (sym w.in-Some.ensures.page) c.loop-piece.invariant w.if-not-visit.ensures w.mark.ensures)
      | in_default-page_by_kind w ↦ rw (w.walked-is, w.visit-is) (part_pass g.V.Visit.took s h c.args.first (c.loop-piece.piece - c.args.first) c.loop-piece.piece (omega arith)
          c.args.visit.now c.loop-piece.visit c.args.walked.now c.loop-piece.walked (c.loop-piece.piece + 1 - c.args.first)
          (omega arith) (sym w.in_default-page_by_kind.ensures.page) c.loop-piece.invariant)
    ]
