-- The other pages of the bits so far were given, and so many of these bits are set.
use Rattle.std.proofs.Common.{◌≡◌, ◌≤◌, true, take}
use Rattle.fd_bitmap.specs.Bits.{set_count}
use Rattle.fd_kvm.specs.Parts.{IsTaken, other_pages}
use Rattle.fd_kvm.proofs.vmcore.Vmcore.walk_others.Given as goal

abbrev pub invariant-loop-bit : goal.invariant-loop-bit
invariant-loop-bit g l = record {
  taken : IsTaken g.V.Visit.took l.fn.visit l.visit true (λ pages. pages ≡ other_pages l.self.sections l.walked l.bit);
  number : l.number ≡ set_count (take l.bit l.self.sections.bits);
  few : l.number ≤ l.bit;
}
