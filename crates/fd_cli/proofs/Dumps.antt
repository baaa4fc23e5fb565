-- The work of `dump` and of `read`, by their functions' outcomes.
use Rattle.std.proofs.Common.{◌≡◌, inl, inr, ℕ, ◌<◌, Bool, true, false, IsErrOf, OnOk, List, [], length, Option, Some, None, Result, Ok, Err, refl, sym, ◌∙◌, ap, subst, arith}
use Rattle.std.proofs.lemmas.Bool.Decides.{nat_tests}
use Rattle.fd_site.specs.Contents.{Adds, Contents, Told, file_of, part_of}
use Rattle.fd_site.specs.Seen.{Seen, Untouched}
use Rattle.fd_site.proofs.Told.{with_entries-nil}
use Rattle.fd_image.specs.Image.{MachineImage, IsValid}
use Rattle.fd_imgfile.specs.Reading.{IsReading}
use Rattle.fd_imgfile.specs.declared.fault.ImageFault.{ImageFault}
use Rattle.fd_dump.specs.Minidump.{minidump_of}
use Rattle.fd_dump.specs.Header.{header_of}
use Rattle.fd_kdh.specs.declared.header.Header.{Header}
use Rattle.fd_part.specs.Dump.{IsBegunDump, IsDumpJournal}
use Rattle.fd_part.specs.Marked.{IsBegunMarked, IsMarkedJournal}
use Rattle.fd_part.specs.Outcome.{OnLacking, OnNoRoom, OnStopped, OnWhole}
use Rattle.fd_part.specs.Partition.{has_room, is_good, need_of}
use Rattle.fd_part.specs.declared.outcome.NoRoom.{NoRoom}
use Rattle.fd_part.specs.declared.outcome.PartFault.{PartFault}
use Rattle.fd_part.specs.declared.outcome.PartFault.TheVariants as part
use Rattle.fd_part.specs.declared.outcome.Wrote.{Wrote}
use Rattle.fd_part.specs.declared.outcome.Wrote.TheVariants.{Stopped, Whole}
use Rattle.fd_cli.specs.Reply.{IsReplyOf, SiteReplies, WorksOnSite}
use Rattle.fd_cli.specs.Rows.Dump.{DumpsIfRoom, DumpsSource, IsBegunOver, IsDumpOver, IsGiven, IsNamed, Names, RefusesImage, dump_row, image_dump_row, no_room}
use Rattle.fd_cli.specs.Rows.Read.{IsReadAnswer, read_row}
use Rattle.fd_cli.specs.declared.answer.Answer.{Answer}
use Rattle.fd_cli.specs.declared.answer.Answer.TheVariants.{Dumped, Refused}
use Rattle.fd_cli.specs.declared.refusal.Refusal.TheVariants as refusal
use Rattle.fd_cli.specs.declared.reply.Reply.{Reply}
use Rattle.fd_cli.specs.declared.reply.Trouble.{Trouble}
use Rattle.fd_cli.specs.declared.reply.Trouble.TheVariants.{Fault, NoMemory}
use Rattle.fd_words.specs.declared.source.Source.{Source}
use Rattle.fd_words.specs.declared.source.Source.TheVariants.{File, Made}
use Rattle.fd_cli.proofs.Good.{on_false, on_true, over_bad, over_good}
use Rattle.fd_cli.proofs.Sendings.{refuses_all}

-- a dump's journal where the header that stands there isn't marked, and where it is
module _ (mark : Bool) (old : Seen) (body : List ℕ) (h : Header) (new : Option Contents) where
  pub plain_over : mark ≡ false → Adds (IsDumpJournal body h old.size old.block) old.told new → Adds (IsDumpOver mark old.told old.size old.block body h) old.told new
  plain_over is adds = subst (λ b. Adds (IsDumpOver b old.told old.size old.block body h) old.told new) (sym is) adds

  pub plain_begun : mark ≡ false → Adds (IsBegunDump body h old.size old.block) old.told new → Adds (IsBegunOver mark old.told old.size old.block body h) old.told new
  plain_begun is adds = subst (λ b. Adds (IsBegunOver b old.told old.size old.block body h) old.told new) (sym is) adds

  pub marked_over : mark ≡ true → Adds (λ es. Told old.told (λ c. IsMarkedJournal (part_of c) body h old.block es)) old.told new
      → Adds (IsDumpOver mark old.told old.size old.block body h) old.told new
  marked_over is adds = subst (λ b. Adds (IsDumpOver b old.told old.size old.block body h) old.told new) (sym is) adds

  pub marked_begun : mark ≡ true → Adds (λ es. Told old.told (λ c. IsBegunMarked (part_of c) body h old.block es)) old.told new
      → Adds (IsBegunOver mark old.told old.size old.block body h) old.told new
  marked_begun is adds = subst (λ b. Adds (IsBegunOver b old.told old.size old.block body h) old.told new) (sym is) adds

-- a writer that has no stop writes all
pub all_written : (wrote : Wrote) (P : Type 0) → OnWhole (Ok wrote) P → OnStopped (Ok wrote) ⊥ → P
all_written Whole P all none = all
all_written Stopped P all none = absurd none

-- the same fault
pub same_fault : (fault other : PartFault) → IsErrOf {T = Unit} {E = PartFault} (Err fault) other → IsErrOf {T = Wrote} {E = PartFault} (Err fault) other
same_fault fault other is = ap (λ x. Err x) (ap error is)
  where
    error : Result Unit PartFault → PartFault
    error (Ok done) = fault
    error (Err found) = found

-- what follows where all was written
pub on_ok : (result : Result Unit PartFault) (P Q : Type 0) → (P → Q) → OnOk result P → OnOk result Q
on_ok (Ok done) P Q follows is = follows is
on_ok (Err fault) P Q follows is = tt

-- what a writer's answer says of no room
pub on_lacking : (fault : PartFault) (P : Type 0) → OnNoRoom (Err fault) P → OnLacking (Err fault) P
on_lacking (part.NoRoom room) P is = is
on_lacking part.SiteFault P is = tt

pub on_no_room : (fault : PartFault) (room : NoRoom) (P : Type 0) → fault ≡ part.NoRoom room → OnLacking (Err fault) P → P
on_no_room fault room P is holds = subst (λ x. OnLacking (Err x) P) is holds

room_of : (other : NoRoom) → Result Unit PartFault → NoRoom
room_of other (Ok done) = other
room_of other (Err (part.NoRoom room)) = room
room_of other (Err part.SiteFault) = other

-- the partition has no room for the dump
pub refused_for_room : (old new : Seen) (mark : Bool) (m : MachineImage) (body : List ℕ) (fault : PartFault) (room : NoRoom) (reply : Reply) → fault ≡ part.NoRoom room
    → body ≡ minidump_of m → old.size < need_of old.block (length body)
    → (old.size < need_of old.block (length body)
    → IsErrOf {T = Unit} {E = PartFault} (Err fault) (part.NoRoom (record { need = need_of old.block (length body); have = old.size })))
    → new ≡ old → IsReplyOf (Refused (refusal.NoRoom room)) reply → SiteReplies (image_dump_row mark m) old new reply
unfolding room_of
refused_for_room old new mark m body fault room reply fault_is body_is short numbers same is =
    let is_short : old.size < need_of old.block (length (minidump_of m)) = subst (λ b. old.size < need_of old.block (length b)) body_is short in
    let short_is : has_room old.size old.block (length (minidump_of m)) ≡ false = grind (arith, nat_tests, is_short) in
    let room_is : room ≡ record { need = need_of old.block (length (minidump_of m)); have = old.size } =
    ap (λ x. room_of room (Err x)) (sym fault_is) ∙ ap (room_of room) (numbers short) ∙ ap (λ b. record { need = need_of old.block (length b); have = old.size }) body_is in
    record {
      answer = Refused (no_room old m);
      entries = [];
      does = on_false _ _ _ short_is refl;
      told = ap (λ s. s.told) same ∙ with_entries-nil old.told;
      is = subst (λ r. IsReplyOf (Refused (refusal.NoRoom r)) reply) room_is is;
    }

-- a partition without room for a dump isn't written
has_its_room : (found : Seen) (len : ℕ) → (found.size < need_of found.block len → ⊥) → (has : Bool) → has_room found.size found.block len ≡ has
    → has_room found.size found.block len ≡ true
has_its_room found len never true is = is
has_its_room found len never false is = absurd (never (grind (arith, nat_tests, is)))

not_refused : (done : Unit) (fault : PartFault) → IsErrOf {T = Unit} {E = PartFault} (Ok done) fault → ⊥
not_refused done fault is = cc

-- the dump was written
pub dump_done : (old new : Seen) (mark : Bool) (m : MachineImage) (body : List ℕ) (h : Header) (len : ℕ) (done : Unit) (reply : Reply) → body ≡ minidump_of m
    → h ≡ header_of m old.block → len ≡ length (minidump_of m)
    → (old.size < need_of old.block (length body)
    → IsErrOf {T = Unit} {E = PartFault} (Ok done) (part.NoRoom (record { need = need_of old.block (length body); have = old.size })))
    → Adds (IsDumpOver mark old.told old.size old.block body h) old.told new.told → IsReplyOf (Dumped len) reply
    → SiteReplies (image_dump_row mark m) old new reply
dump_done old new mark m body h len done reply body_is h_is len_is room adds is =
    let never : old.size < need_of old.block (length (minidump_of m)) → ⊥ = λ short. not_refused done _ (room (subst (λ b. old.size < need_of old.block (length b)) (sym body_is) short)) in
    record {
      answer = Dumped (length (minidump_of m));
      entries = adds.0;
      does = on_true _ _ _ (has_its_room old (length (minidump_of m)) never _ refl) (record {
        answer = refl;
        is_dump = subst (λ b. IsDumpOver mark old.told old.size old.block b (header_of m old.block) adds.0) body_is
            (subst (λ k. IsDumpOver mark old.told old.size old.block body k adds.0) h_is adds.1);
        alone = refl;
      });
      told = adds.2;
      is = subst (λ n. IsReplyOf (Dumped n) reply) len_is is;
    }

-- the partition isn't good
pub refused_partition : (found : Seen) (mark : Bool) (source : Source) (size block : ℕ) (reply : Reply) → size ≡ found.size → block ≡ found.block
    → is_good found.size found.block ≡ false → IsReplyOf (Refused (refusal.Partition (record { size = size; block = block }))) reply
    → SiteReplies (dump_row mark source) found found reply
refused_partition found mark source size block reply same_size same_block bad is = record {
  answer = Refused (refusal.Partition (record { size = found.size; block = found.block }));
  entries = [];
  does = over_bad found (DumpsSource mark source found) _ bad refl;
  told = with_entries-nil found.told;
  is = subst (λ a. IsReplyOf a reply) (λ i. Refused (refusal.Partition (record { size = same_size i; block = same_block i }))) is;
}

-- the image wasn't given
pub image_refused : (old new : Seen) (mark : Bool) (source : Source) (fault : ImageFault) (result : Result Reply Trouble) → is_good old.size old.block ≡ true
    → IsGiven source old (Err fault) → RefusesImage fault result → new.told ≡ old.told → WorksOnSite (dump_row mark source) old new result
image_refused old new mark source fault (Ok reply) good given is same = record {
  answer = is.0;
  entries = [];
  does = over_good old (DumpsSource mark source old) _ good (Err fault, given, refuses_all (DumpsIfRoom mark old) old fault _ (is.1 old));
  told = same ∙ with_entries-nil old.told;
  is = is.2;
}
image_refused old new mark source fault (Err Fault) good given is same =
    record { entries = []; leaves = inl refl; told = same ∙ with_entries-nil old.told }
image_refused old new mark source fault (Err NoMemory) good given is same =
    record { entries = []; starves = refl; told = same ∙ with_entries-nil old.told }

-- a file that spells an image names it
named : (c : Contents) (name : List ℕ) (m : MachineImage) (file : Option (List ℕ)) → file_of c name ≡ file → IsReading file (Ok m) → IsNamed c name m
named c name m None is reading = absurd reading
named c name m (Some f) is reading = record { file = f; there = is; spells = reading }

-- the image that a source gives is a valid one, which it names
pub record IsImageOf (c : Contents) (source : Source) (m : MachineImage) : Type 0 where
  pub names : Names c source m
  pub valid : IsValid m

pub image_of : (found : Seen) (source : Source) (m : MachineImage) → IsGiven source found (Ok m) → Told found.told (λ c. IsImageOf c source m)
image_of found (File name) m given c told =
    let is_named = named c name m (file_of c name) refl (given c told) in record { names = is_named; valid = is_named.spells.valid }
image_of found (Made arch number) m given c told = record { names = given.0; valid = given.1 }

-- an image that was given, over a site that is seen as before but for its faults
same_row : (mark : Bool) (m : MachineImage) (old mid new : Seen) (result : Result Reply Trouble) → Untouched old mid → WorksOnSite (image_dump_row mark m) mid new result
    → WorksOnSite (image_dump_row mark m) (record mid { told = old.told; size = old.size; block = old.block }) new result
same_row mark m old mid new result same works =
    subst (λ s. WorksOnSite (image_dump_row mark m) s new result)
    (λ i. record mid { told = same.told i; size = same.size i; block = same.block i }) works

-- and its dump was written or not
pub image_dumped : (old mid new : Seen) (mark : Bool) (source : Source) (m : MachineImage) (result : Result Reply Trouble) → is_good old.size old.block ≡ true
    → IsGiven source old (Ok m) → Untouched old mid → WorksOnSite (image_dump_row mark m) mid new result → WorksOnSite (dump_row mark source) old new result
image_dumped old mid new mark source m (Ok reply) good given same works =
    let here = same_row mark m old mid new (Ok reply) same works in
    record {
      answer = here.answer;
      entries = here.entries;
      does = over_good old (DumpsSource mark source old) _ good (Ok m, given, here.does);
      told = here.told;
      is = here.is;
    }
image_dumped old mid new mark source m (Err Fault) good given same works =
    let here = same_row mark m old mid new (Err Fault) same works in
    record {
      entries = here.entries;
      leaves = elim here.leaves [ inl none ↦ inl none | inr begun ↦ inr (m, given, begun) ];
      told = here.told;
    }
image_dumped old mid new mark source m (Err NoMemory) good given same works =
    let here = same_row mark m old mid new (Err NoMemory) same works in
    record { entries = here.entries; starves = here.starves; told = here.told }

-- the reply to a read
pub read_replied : (old new : Seen) (name : List ℕ) (va count : ℕ) (answer : Answer) (reply : Reply) → IsReadAnswer old.told name va count answer
    → new.told ≡ old.told → IsReplyOf answer reply → SiteReplies (read_row name va count) old new reply
read_replied old new name va count answer reply answers same is = record {
  answer = answer;
  entries = [];
  does = (answers, refl);
  told = same ∙ with_entries-nil old.told;
  is = is;
}
