-- The pages of the entries so far were given, and marked.
use Rattle.std.proofs.Common.{◌≡◌, ◌≢◌, ◌%◌, ℕ, ◌*◌, ◌≤◌, min, true, List, length, Some}
use Rattle.fd_site.specs.Contents.{Told, file_of}
use Rattle.fd_site.specs.Seen.{Untouched}
use Rattle.fd_kvm.specs.OpenFile.{StandsWith}
use Rattle.fd_kvm.specs.Parts.{IsBlock, IsPart, entry_pieces, pages_of_entries}
use Rattle.fd_kvm.specs.Walk.{piece_count}
use Rattle.fd_kvm.proofs.vmcore.Vmcore.walk_window.Given as goal

abbrev pub invariant-loop-index : goal.invariant-loop-index
invariant-loop-index g l = record {
  part : IsPart g.V.Visit.took l.self.sections l.fn.visit l.visit l.fn.walked l.walked true
      (λ pages. (length pages ≤ min (entry_pieces l.self.sections * l.index) (piece_count l.self.sections.header))
      × Told (g.S.Site.seen l.fn.site).told (λ c. (f : List ℕ) → file_of c l.self.name ≡ Some f → pages ≡ pages_of_entries f l.self.sections l.index));
  kept : l.index % 512 ≢ 0 → Told (g.S.Site.seen l.fn.site).told (λ c. (f : List ℕ) → file_of c l.self.name ≡ Some f → IsBlock f l.self.sections l.index l.block);
  stands : Told (g.S.Site.seen l.site).told (StandsWith l.self l.pages);
  untouched : Untouched (g.S.Site.seen l.fn.site) (g.S.Site.seen l.site);
}
