-- The bytes before a place are read, and those behind it are as they were.
use Rattle.std.proofs.Common.{◌≡◌, ℕ, ◌≤◌, ◌-◌, length, List, Some}
use Rattle.fd_site.specs.Contents.{Told, file_of}
use Rattle.fd_site.specs.Seen.{Untouched}
use Rattle.fd_elfcore.specs.Elf.{ElfStandsFor}
use Rattle.fd_elfcore.specs.ElfAnswer.{elf_byte}
use Rattle.fd_elfcore.specs.ElfParts.{IsElfFront}
use Rattle.fd_elfcore.proofs.elf.Elf.read.Given as goal

abbrev pub invariant-loop-at : goal.invariant-loop-at
invariant-loop-at g l = record {
  inside : l.at ≤ length l.out;
  front : Told (g.S.Site.seen l.fn.site).told (λ c. (f : List ℕ) → file_of c l.self.name ≡ Some f → IsElfFront (elf_byte f l.self.segments) l.va l.fn.out l.out l.at);
  stands : Told (g.S.Site.seen l.site).told (ElfStandsFor l.self);
  untouched : Untouched (g.S.Site.seen l.fn.site) (g.S.Site.seen l.site);
}

abbrev pub decreases-loop-at : goal.decreases-loop-at
decreases-loop-at g l = length l.initial.out - l.at
