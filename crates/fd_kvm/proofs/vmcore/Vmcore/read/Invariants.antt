-- The bytes before a place are read, and those behind it are as they were.
use Rattle.std.proofs.Common.{◌≡◌, ℕ, ◌≤◌, ◌-◌, length, List, Some}
use Rattle.fd_site.specs.Contents.{Told, file_of}
use Rattle.fd_site.specs.Seen.{Untouched}
use Rattle.fd_kvm.specs.Answer.{byte_in}
use Rattle.fd_kvm.specs.OpenFile.{StandsWith}
use Rattle.fd_kvm.specs.Runs.{IsFront}
use Rattle.fd_kvm.proofs.vmcore.Vmcore.read.Given as goal

abbrev pub invariant-loop-at : goal.invariant-loop-at
invariant-loop-at g l = record {
  inside : l.at ≤ length l.out;
  front : Told (g.S.Site.seen l.fn.site).told (λ c. (f : List ℕ) → file_of c l.self.name ≡ Some f → IsFront (byte_in f l.self.sections) l.va l.fn.out l.out l.at);
  stands : Told (g.S.Site.seen l.site).told (StandsWith l.self l.pages);
  untouched : Untouched (g.S.Site.seen l.fn.site) (g.S.Site.seen l.site);
}

abbrev pub decreases-loop-at : goal.decreases-loop-at
decreases-loop-at g l = length l.initial.out - l.at
