-- The first sectors of a dump, all of them or not.
use Rattle.std.proofs.Common.{◌≡◌, ℕ, ◌<◌, ◌≤◌, IsErrOf, List, length, Ok, sym, ◌∙◌, subst, arith}
use Rattle.std.proofs.lemmas.List.{take_all}
use Rattle.fd_site.specs.Contents.{Adds}
use Rattle.fd_site.specs.Journal.{Entry}
use Rattle.fd_site.specs.Seen.{Seen}
use Rattle.fd_image.specs.Image.{IsValid, MachineImage}
use Rattle.fd_kdh.specs.declared.header.Header.{Header}
use Rattle.fd_dump.specs.Header.{header_of}
use Rattle.fd_dump.specs.Minidump.{minidump_of}
use Rattle.fd_part.specs.Dump.{IsDumpJournal, dump_sectors}
use Rattle.fd_part.specs.Outcome.{IsStoppedDump, OnStopped, OnWhole}
use Rattle.fd_part.specs.Partition.{need_of}
use Rattle.fd_part.specs.declared.outcome.PartFault.{PartFault}
use Rattle.fd_part.specs.declared.outcome.Wrote.{Wrote}
use Rattle.fd_part.specs.declared.outcome.Wrote.TheVariants.{Stopped, Whole}
use Rattle.fd_part.proofs.WholeDump.{IsBegunDump-whole, sectors_of_dump}
use Rattle.fd_way.specs.Steps.{Writes}

-- a whole dump has its first n sectors, where it has no more
pub whole_stopped : (body : List ℕ) (h : Header) (size block n : ℕ) (journal : List Entry) → IsDumpJournal body h size block journal
    → length (dump_sectors body h size block) ≤ n → IsStoppedDump body h size block n journal
whole_stopped body h size block n journal dump enough = record {
  begun = IsBegunDump-whole body h size block journal dump;
  sectors = sectors_of_dump body h size block journal dump ∙ sym (take_all n (dump_sectors body h size block) enough);
}

-- no room was found where there is room
has_room : (size need : ℕ) (wrote : Wrote) (fault : PartFault) → (size < need → IsErrOf {T = Wrote} {E = PartFault} (Ok wrote) fault) → need ≤ size
has_room size need wrote fault never = omega (arith, refuted)
  where
    refuted : size < need → ⊥
    refuted short = let no : IsErrOf {T = Wrote} {E = PartFault} (Ok wrote) fault = never short in cc

pub first_written : (m : MachineImage) (stop : ℕ) (old new : Seen) (body : List ℕ) (h : Header) (wrote : Wrote) (fault : PartFault) → body ≡ minidump_of m → h ≡ header_of m old.block
    → IsValid m → (old.size < need_of old.block (length body) → IsErrOf {T = Wrote} {E = PartFault} (Ok wrote) fault)
    → OnWhole (Ok wrote) (Adds (IsDumpJournal body h old.size old.block) old.told new.told)
    → OnWhole (Ok wrote) (length (dump_sectors body h old.size old.block) ≤ stop)
    → OnStopped (Ok wrote) (Adds (IsStoppedDump body h old.size old.block stop) old.told new.told)
    → Writes (IsStoppedDump (minidump_of m) (header_of m old.block) old.size old.block stop) m old new
first_written m stop old new body h wrote fault body_is h_is valid room whole enough stopped = record {
  valid = valid;
  room = subst (λ b. need_of old.block (length b) ≤ old.size) body_is (has_room old.size (need_of old.block (length body)) wrote fault room);
  adds =
      subst (λ b. Adds (IsStoppedDump b (header_of m old.block) old.size old.block stop) old.told new.told) body_is
      (subst (λ k. Adds (IsStoppedDump body k old.size old.block stop) old.told new.told) h_is (by_wrote wrote whole enough stopped));
}
  where
    by_wrote : (w : Wrote) → OnWhole (Ok w) (Adds (IsDumpJournal body h old.size old.block) old.told new.told)
        → OnWhole (Ok w) (length (dump_sectors body h old.size old.block) ≤ stop)
        → OnStopped (Ok w) (Adds (IsStoppedDump body h old.size old.block stop) old.told new.told) → Adds (IsStoppedDump body h old.size old.block stop) old.told new.told
    by_wrote Whole adds enough_ none = (adds.0, whole_stopped body h old.size old.block stop adds.0 adds.1 enough_, adds.2)
    by_wrote Stopped none few adds = adds
