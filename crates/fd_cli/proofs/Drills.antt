-- Drills, however they end.
use Rattle.std.proofs.Common.{◌≡◌, inl, inr, ℕ, ◌+◌, ◌≤◌, true, false, List, [], ◌++◌, length, min, take, Option, Some, None, Result, Ok, Err, IfOk, IsErrOf, refl, sym, ◌∙◌, ap, subst, arith}
use Rattle.std.proofs.Math.Seq.{take-append-add}
use Rattle.std.proofs.lemmas.List.{append-nil, take-append-le, take_min}
use Rattle.fd_site.specs.Contents.{with_entries}
use Rattle.fd_site.specs.Fault.{Rose}
use Rattle.fd_site.specs.Journal.{Entry}
use Rattle.fd_site.specs.Seen.{Frame, Seen, Untouched, Watched}
use Rattle.fd_site.specs.Trace.{grown}
use Rattle.fd_site.proofs.Told.{grown-append, grown-nil, with_entries-nil}
use Rattle.fd_image.specs.Image.{MachineImage}
use Rattle.fd_imgfile.specs.declared.fault.ImageFault.{ImageFault}
use Rattle.fd_mini.specs.declared.address_fault.AddressFault.{AddressFault}
use Rattle.fd_part.specs.Partition.{is_good}
use Rattle.fd_vmcore.specs.declared.open.OpenFault.{OpenFault}
use Rattle.fd_way.specs.Drill.{Drill, Outcome}
use Rattle.fd_way.specs.Drill as way
use Rattle.fd_way.specs.declared.way_fault.Drilled.{Drilled}
use Rattle.fd_way.specs.declared.way_fault.Drilled.TheVariants as drilled
use Rattle.fd_way.specs.declared.way_fault.WayFault.{WayFault}
use Rattle.fd_way.specs.declared.way_fault.WayFault.TheVariants as fault
use Rattle.fd_cli.specs.Ending.{CallOnSite, answer_status, answer_text, line}
use Rattle.fd_cli.specs.Refusal.{line_of, status_of}
use Rattle.fd_cli.specs.Reply.{IsReplyOf, WorksOnSite}
use Rattle.fd_cli.specs.Row.{only}
use Rattle.fd_cli.specs.Rows.Drill.{Drills, DrillsSource, EndsDrill, EndsEarly, PrintsRefusal, by_then, drill_of, drill_row, drilled_answer, drilled_status, file_refusal}
use Rattle.fd_cli.specs.Rows.Dump.{IsGiven, RefusesImage, no_room}
use Rattle.fd_cli.specs.Rows.Read.{answer_by}
use Rattle.fd_cli.specs.declared.answer.Answer.{Answer}
use Rattle.fd_cli.specs.declared.answer.Answer.TheVariants.{Refused}
use Rattle.fd_cli.specs.declared.refusal.Refusal.{Refusal}
use Rattle.fd_cli.specs.declared.refusal.Refusal.TheVariants as refusal
use Rattle.fd_cli.specs.declared.reply.Reply.{Reply}
use Rattle.fd_cli.specs.declared.reply.Trouble.{Trouble}
use Rattle.fd_cli.specs.declared.reply.Trouble.TheVariants.{Fault, NoMemory}
use Rattle.fd_words.specs.declared.source.Source.{Source}
use Rattle.fd_cli.proofs.Calls.{grew_on_site}
use Rattle.fd_cli.proofs.Good.{over_bad, over_good}
use Rattle.fd_cli.proofs.Reading.{kept_on_site, rose_after, text_of_answer}
use Rattle.fd_cli.proofs.Sendings.{refuses_all}

-- a drill of a given image over a good partition, and how the site was seen when it began
record Begins (source : Source) (old : Seen) (m : MachineImage) : Type 0 where
  given : IsGiven source old (Ok m)
  good : is_good old.size old.block ≡ true

-- the whole work, printed by and by
went : (source : Source) (stop va count : ℕ) (old new : Seen) (was now : Watched ℕ) (answer : Answer) (entries : List Entry) (status : ℕ)
    → (drill_row source stop va count).Does old (record { answer = answer; added = only entries }) → new.told ≡ with_entries old.told entries
    → now.told ≡ grown was.told (answer_text answer) → status ≡ answer_status answer → Frame old new → was.faults ≤ now.faults
    → CallOnSite (drill_row source stop va count) old new was now status
went source stop va count old new was now answer entries status does told printed status_is frame counts link ports = record {
  ends = inl (record {
    work = record { answer = answer; added = only entries };
    does = does;
    grew = grew_on_site old new link ports entries told;
    printed = printed;
    status_is = status_is;
  });
  kept = kept_on_site old new link ports frame;
  sink = counts;
}

-- the sink failed
cut : (source : Source) (stop va count : ℕ) (old new : Seen) (was now : Watched ℕ) (answer : Answer) (entries : List Entry) (n : ℕ)
    → (drill_row source stop va count).Does old (record { answer = answer; added = only entries }) → new.told ≡ with_entries old.told entries
    → now.told ≡ grown was.told (take n (answer_text answer)) → Rose was.faults now.faults → Frame old new → was.faults ≤ now.faults
    → CallOnSite (drill_row source stop va count) old new was now 74
cut source stop va count old new was now answer entries n does told printed rose frame counts link ports = record {
  ends = inr (inl (record {
    work = record { answer = answer; added = only entries };
    does = does;
    grew = grew_on_site old new link ports entries told;
    n = n;
    printed = printed;
    status_is = refl;
    rose = rose;
  }));
  kept = kept_on_site old new link ports frame;
  sink = counts;
}

-- the site failed on the way
broke : (source : Source) (stop va count : ℕ) (old new : Seen) (was now : Watched ℕ) (entries : List Entry) (early : List ℕ)
    → EndsEarly source stop va count old (only entries) early → new.told ≡ with_entries old.told entries
    → now.told ≡ grown was.told early → Rose old.faults new.faults → Frame old new → was.faults ≤ now.faults
    → CallOnSite (drill_row source stop va count) old new was now 74
broke source stop va count old new was now entries early ends told printed rose frame counts link ports = record {
  ends = inr (inr (inl (record {
    added = only entries;
    leaves = inr (early, ends);
    grew = grew_on_site old new link ports entries told;
    early = early;
    may_say = inr ends;
    printed = printed;
    status_is = refl;
    rose = inl (refl, rose);
  })));
  kept = kept_on_site old new link ports frame;
  sink = counts;
}

-- no memory was found
starved : (source : Source) (stop va count : ℕ) (old new : Seen) (was now : Watched ℕ) (entries : List Entry) (early : List ℕ)
    → (drill_row source stop va count).Starves old (only entries) → (drill_row source stop va count).Says old (only entries) early
    → new.told ≡ with_entries old.told entries → now.told ≡ grown was.told early → Frame old new → was.faults ≤ now.faults
    → CallOnSite (drill_row source stop va count) old new was now 71
starved source stop va count old new was now entries early starves says told printed frame counts link ports = record {
  ends = inr (inr (inr (record {
    added = only entries;
    starves = starves;
    grew = grew_on_site old new link ports entries told;
    early = early;
    may_say = says;
    printed = printed;
    status_is = refl;
  })));
  kept = kept_on_site old new link ports frame;
  sink = counts;
}

-- a refusal's line is printed last, behind some text of the work
refused_last : (source : Source) (stop va count : ℕ) (old new : Seen) (was mid now : Watched ℕ) (answer : Answer) (entries : List Entry) (status : ℕ) (r : Refusal)
    (front : List ℕ) → (drill_row source stop va count).Does old (record { answer = answer; added = only entries }) → new.told ≡ with_entries old.told entries
    → answer_text answer ≡ front ++ line (line_of r) → answer_status answer ≡ status_of r → mid.told ≡ grown was.told front
    → (drill_row source stop va count).Says old (only entries) front → Frame old new → was.faults ≤ mid.faults → mid.faults ≤ now.faults
    → PrintsRefusal r mid now status → CallOnSite (drill_row source stop va count) old new was now status
refused_last source stop va count old new was mid now answer entries status r front does told text_is status_is before says frame first next (inl done) =
    went source stop va count old new was now answer entries status does told
    (done.1 ∙ ap (λ t. grown t (line (line_of r))) before ∙ grown-append was.told front (line (line_of r)) ∙ ap (grown was.told) (sym text_is)) (done.0 ∙ sym status_is) frame
    (omega (arith, first, next))
refused_last source stop va count old new was mid now answer entries status r front does told text_is status_is before says frame first next (inr (inl broken)) =
    subst (CallOnSite (drill_row source stop va count) old new was now) (sym broken.0)
    (cut source stop va count old new was now answer entries (length front + broken.2.0) does told
    (broken.2.1 ∙ ap (λ t. grown t (take broken.2.0 (line (line_of r)))) before ∙ grown-append was.told front (take broken.2.0 (line (line_of r)))
    ∙ ap (grown was.told) (sym (take-append-add front (line (line_of r)) broken.2.0)) ∙ ap (λ t. grown was.told (take (length front + broken.2.0) t)) (sym text_is))
    (rose_after was.faults mid.faults now.faults first broken.1) frame (omega (arith, first, next)))
refused_last source stop va count old new was mid now answer entries status r front does told text_is status_is before says frame first next (inr (inr none)) =
    subst (CallOnSite (drill_row source stop va count) old new was now) (sym none.0)
    (starved source stop va count old new was now entries front (inl (record { answer = answer; added = only entries }, does, refl)) says told
    (ap (λ w. w.told) none.1 ∙ before) frame (omega (arith, first, next)))

-- the work of an image that was given
does_of : (source : Source) (stop va count : ℕ) (old : Seen) (f : ℕ) (m : MachineImage) (outcome : Outcome) (entries : List Entry) → Begins source old m
    → way.Does (drill_of stop va count m) (by_then old f) outcome entries
    → (drill_row source stop va count).Does old (record { answer = drilled_answer va outcome; added = only entries })
does_of source stop va count old f m outcome entries begins does =
    over_good old (DrillsSource source stop va count old) _ begins.good
    (Ok m, begins.given, (f, inr (inr (record { outcome = outcome; does = does; answer = refl; alone = refl }))))

-- the status that follows the read of a saved file
status_by : (number len va : ℕ) (bytes : List ℕ) (first : Option AddressFault) → drilled_status (drilled.Saved number len first) ≡ answer_status (answer_by va bytes first)
status_by number len va bytes None = refl
status_by number len va bytes (Some none) = refl

status_in : Result Drilled WayFault → ℕ
status_in (Ok done) = drilled_status done
status_in (Err why) = 0

unread_in : OpenFault → Result Drilled WayFault → OpenFault
unread_in other (Ok done) = other
unread_in other (Err (fault.NoRoom room)) = other
unread_in other (Err fault.NoNumber) = other
unread_in other (Err (fault.Unread why)) = why
unread_in other (Err fault.SiteFault) = other
unread_in other (Err fault.SinkFault) = other
unread_in other (Err fault.NoMemory) = other

-- what was done is no fault
not_both : (done : Drilled) (why : WayFault) → Ok done ≡ Err why → ⊥
not_both done why is = cc

-- a drill that went its way, and printed all its text itself
done_by : (source : Source) (stop va count : ℕ) (old new : Seen) (f : ℕ) (was now : Watched ℕ) (m : MachineImage) (done : Drilled) (outcome : Outcome)
    (entries : List Entry) → Begins source old m → way.Does (drill_of stop va count m) (by_then old f) outcome entries → new.told ≡ with_entries old.told entries
    → now.told ≡ grown was.told (way.drill_text va outcome) → Ok done ≡ way.drill_answer outcome → Frame old new → was.faults ≤ now.faults
    → CallOnSite (drill_row source stop va count) old new was now (drilled_status done)
unfolding status_in
done_by source stop va count old new f was now m done (way.Refused why) entries begins does told printed is frame counts =
    went source stop va count old new was now _ entries (drilled_status done) (does_of source stop va count old f m (way.Refused why) entries begins does) told printed
    (ap status_in is) frame counts
done_by source stop va count old new f was now m done (way.Saved number len (Ok given)) entries begins does told printed is frame counts =
    went source stop va count old new was now _ entries (drilled_status done) (does_of source stop va count old f m (way.Saved number len (Ok given)) entries begins does) told
    (printed ∙ ap (λ t. grown was.told (way.saved_text number len ++ t)) (text_of_answer va given.bytes given.fault))
    (ap status_in is ∙ status_by number len va given.bytes given.fault) frame counts
done_by source stop va count old new f was now m done (way.Saved number len (Err why)) entries begins does told printed is frame counts = absurd (not_both _ _ is)

-- the text of a drill whose saved file was refused ends with the line of the dump
saved_alone : (t : List ℕ) → t ++ [] ≡ t
saved_alone t = append-nil t

-- a drill whose saved file was refused: why stands behind the line of the dump
unread_by : (source : Source) (stop va count : ℕ) (old new : Seen) (f : ℕ) (was mid now : Watched ℕ) (m : MachineImage) (why : OpenFault) (status : ℕ) (outcome : Outcome)
    (entries : List Entry) → Begins source old m → way.Does (drill_of stop va count m) (by_then old f) outcome entries → new.told ≡ with_entries old.told entries
    → mid.told ≡ grown was.told (way.drill_text va outcome) → Err (fault.Unread why) ≡ way.drill_answer outcome → Frame old new → was.faults ≤ mid.faults
    → mid.faults ≤ now.faults → PrintsRefusal (file_refusal why) mid now status → CallOnSite (drill_row source stop va count) old new was now status
unfolding unread_in
unread_by source stop va count old new f was mid now m why status (way.Refused w) entries begins does told printed is frame first next prints = absurd (not_both _ _ (sym is))
unread_by source stop va count old new f was mid now m why status (way.Saved number len (Ok given)) entries begins does told printed is frame first next prints = absurd (not_both _ _ (sym is))
unread_by source stop va count old new f was mid now m why status (way.Saved number len (Err other)) entries begins does told printed is frame first next prints =
    let same : why ≡ other = ap (unread_in why) is in
    let says : EndsEarly source stop va count old (only entries) (way.saved_text number len) = inr (
      m,
      begins.given,
      record {
        good = begins.good;
        faults = f;
        begun = inr (inr (inr (record { number = number; len = len; given = Err other; is_saved = does; said = refl })));
        alone = refl;
      },
    ) in
    refused_last source stop va count old new was mid now _ entries status (file_refusal other) (way.saved_text number len)
    (does_of source stop va count old f m (way.Saved number len (Err other)) entries begins does) told refl refl
    (printed ∙ ap (grown was.told) (saved_alone (way.saved_text number len))) (inr says) frame first next
    (subst (λ (w : OpenFault). PrintsRefusal (file_refusal w) mid now status) same prints)

-- it went as far as the sink, which failed
cut_by : (source : Source) (stop va count : ℕ) (old new : Seen) (f : ℕ) (was now : Watched ℕ) (m : MachineImage) (outcome : Outcome) (entries : List Entry) (n : ℕ)
    → Begins source old m → way.Does (drill_of stop va count m) (by_then old f) outcome entries → new.told ≡ with_entries old.told entries
    → now.told ≡ grown was.told (take n (way.drill_text va outcome)) → Rose was.faults now.faults → Frame old new → was.faults ≤ now.faults
    → CallOnSite (drill_row source stop va count) old new was now 74
cut_by source stop va count old new f was now m (way.Refused why) entries n begins does told printed rose frame counts =
    cut source stop va count old new was now _ entries n (does_of source stop va count old f m (way.Refused why) entries begins does) told printed rose frame counts
cut_by source stop va count old new f was now m (way.Saved number len (Ok given)) entries n begins does told printed rose frame counts =
    cut source stop va count old new was now _ entries n (does_of source stop va count old f m (way.Saved number len (Ok given)) entries begins does) told
    (printed ∙ ap (λ t. grown was.told (take n (way.saved_text number len ++ t))) (text_of_answer va given.bytes given.fault)) rose frame counts
cut_by source stop va count old new f was now m (way.Saved number len (Err why)) entries n begins does told printed rose frame counts =
    let front = way.saved_text number len in
    cut source stop va count old new was now _ entries (min n (length front)) (does_of source stop va count old f m (way.Saved number len (Err why)) entries begins does) told
    (printed ∙ ap (λ t. grown was.told (take n t)) (saved_alone front)
    ∙ ap (grown was.told) (sym (take_min n front) ∙ sym (take-append-le (min n (length front)) front (line (line_of (file_refusal why))) (omega arith)))) rose frame counts

-- how a site is seen that was only read since
seen_then : (old mid : Seen) → Untouched old mid → mid ≡ by_then old mid.faults
seen_then old mid same = λ i. record { told = same.told i; size = same.size i; block = same.block i; faults = mid.faults }

framed_after : (old mid new : Seen) → Untouched old mid → Frame mid new → Frame old new
framed_after old mid new same frame = record {
  size = frame.size ∙ same.size;
  block = frame.block ∙ same.block;
  count = omega (arith, same.count, frame.count);
}

-- a drill was done
pub drill_done : (source : Source) (stop va count : ℕ) (old mid new : Seen) (was now : Watched ℕ) (m : MachineImage) (done : Drilled) (status : ℕ)
    → IsGiven source old (Ok m) → is_good old.size old.block ≡ true → Untouched old mid → Frame mid new → was.faults ≤ now.faults
    → way.Drills (drill_of stop va count m) mid new was now (Ok done) → status ≡ drilled_status done
    → CallOnSite (drill_row source stop va count) old new was now status
drill_done source stop va count old mid new was now m done status given good same frame counts drills is =
    let a = subst (λ s. way.Answers (drill_of stop va count m) s new was now (Ok done)) (seen_then old mid same) drills in
    subst (CallOnSite (drill_row source stop va count) old new was now) (sym is)
    (done_by source stop va count old new mid.faults was now m done a.outcome a.added (record { given = given; good = good }) a.does a.told a.printed a.is
    (framed_after old mid new same frame) counts)

-- it was ended
ended : (source : Source) (stop va count : ℕ) (old new : Seen) (f : ℕ) (was mid now : Watched ℕ) (m : MachineImage) (why : WayFault) (status : ℕ)
    → Begins source old m → Frame old new → was.faults ≤ mid.faults → mid.faults ≤ now.faults
    → (IsErrOf {T = Drilled} (Err why) fault.SiteFault → Rose old.faults new.faults) → (IsErrOf {T = Drilled} (Err why) fault.SinkFault → Rose was.faults mid.faults)
    → way.Drills (drill_of stop va count m) (by_then old f) new was mid (Err why) → EndsDrill why mid now status
    → CallOnSite (drill_row source stop va count) old new was now status
ended source stop va count old new f was mid now m (fault.Unread why) status begins frame first next site_cause sink_cause drills ends =
    unread_by source stop va count old new f was mid now m why status drills.outcome drills.added begins drills.does drills.told drills.printed drills.is frame first next
    ends
ended source stop va count old new f was mid now m (fault.NoRoom room) status begins frame first next site_cause sink_cause drills ends =
    refused_last source stop va count old new was mid now (Refused (no_room (by_then old f) m)) [] status (no_room (by_then old f) m) []
    (over_good old (DrillsSource source stop va count old) _ begins.good (Ok m, begins.given, (f, inl (record { short = drills.short; refuses = refl }))))
    (ap (λ s. s.told) drills.same ∙ with_entries-nil old.told) refl refl (ap (λ w. w.told) drills.silent ∙ grown-nil was.told) (inl refl) frame first next
    (subst (λ r. PrintsRefusal (refusal.NoRoom r) mid now status) drills.room_is ends)
ended source stop va count old new f was mid now m fault.NoNumber status begins frame first next site_cause sink_cause drills ends =
    refused_last source stop va count old new was mid now (Refused refusal.NoNumber) drills.added status refusal.NoNumber []
    (over_good old (DrillsSource source stop va count old) _ begins.good
    (Ok m, begins.given, (f, inr (inl (record { unnumbered = drills.unnumbered; answer = refl; alone = refl })))))
    drills.told refl refl (ap (λ w. w.told) drills.silent ∙ grown-nil was.told) (inl refl) frame first next ends
ended source stop va count old new f was mid now m fault.SiteFault status begins frame first next site_cause sink_cause drills ends =
    subst (CallOnSite (drill_row source stop va count) old new was now) (sym ends.0)
    (broke source stop va count old new was now drills.added drills.early
    (inr (m, begins.given, record { good = begins.good; faults = f; begun = inr drills.leaves; alone = refl })) drills.told
    (ap (λ w. w.told) ends.1 ∙ drills.printed) (site_cause refl) frame (omega (arith, first, next)))
ended source stop va count old new f was mid now m fault.SinkFault status begins frame first next site_cause sink_cause drills ends =
    subst (λ (x : ℕ × Watched ℕ). CallOnSite (drill_row source stop va count) old new was x.1 x.0) (λ i. (sym ends.0 i, sym ends.1 i))
    (cut_by source stop va count old new f was mid m drills.outcome drills.added drills.n begins drills.does drills.told drills.printed (sink_cause refl) frame first)
ended source stop va count old new f was mid now m fault.NoMemory status begins frame first next site_cause sink_cause drills ends =
    let early : EndsEarly source stop va count old (only drills.added) drills.early =
    inr (m, begins.given, record { good = begins.good; faults = f; begun = drills.leaves; alone = refl }) in
    subst (CallOnSite (drill_row source stop va count) old new was now) (sym ends.0)
    (starved source stop va count old new was now drills.added drills.early (inr (drills.early, early)) (inr early) drills.told
    (ap (λ w. w.told) ends.1 ∙ drills.printed) frame (omega (arith, first, next)))

pub drill_ended : (source : Source) (stop va count : ℕ) (old mid new : Seen) (was then now : Watched ℕ) (m : MachineImage) (why : WayFault) (status : ℕ)
    → IsGiven source old (Ok m) → is_good old.size old.block ≡ true → Untouched old mid → Frame mid new → was.faults ≤ then.faults → then.faults ≤ now.faults
    → (IsErrOf {T = Drilled} (Err why) fault.SiteFault → Rose mid.faults new.faults) → (IsErrOf {T = Drilled} (Err why) fault.SinkFault → Rose was.faults then.faults)
    → way.Drills (drill_of stop va count m) mid new was then (Err why) → EndsDrill why then now status
    → CallOnSite (drill_row source stop va count) old new was now status
drill_ended source stop va count old mid new was then now m why status given good same frame first next site_cause sink_cause drills ends =
    ended source stop va count old new mid.faults was then now m why status (record { given = given; good = good }) (framed_after old mid new same frame) first next
    (λ is. rose_after old.faults mid.faults new.faults same.count (site_cause is)) sink_cause
    (subst (λ s. way.Drills (drill_of stop va count m) s new was then (Err why)) (seen_then old mid same) drills) ends

-- the partition isn't good
pub drill_on_bad : (source : Source) (stop va count : ℕ) (found : Seen) (size block : ℕ) (result : Result Reply Trouble) → size ≡ found.size → block ≡ found.block
    → is_good found.size found.block ≡ false → IfOk result (IsReplyOf (Refused (refusal.Partition (record { size = size; block = block }))))
    → (IsErrOf result Fault → ⊥) → WorksOnSite (drill_row source stop va count) found found result
drill_on_bad source stop va count found size block (Ok reply) same_size same_block bad is never = record {
  answer = Refused (refusal.Partition (record { size = found.size; block = found.block }));
  entries = [];
  does = over_bad found (DrillsSource source stop va count found) _ bad refl;
  told = with_entries-nil found.told;
  is = subst (λ a. IsReplyOf a reply) (λ i. Refused (refusal.Partition (record { size = same_size i; block = same_block i }))) is;
}
drill_on_bad source stop va count found size block (Err Fault) same_size same_block bad is never = absurd (never refl)
drill_on_bad source stop va count found size block (Err NoMemory) same_size same_block bad is never =
    record { entries = []; starves = inr ([], inl (refl, refl)); told = with_entries-nil found.told }

-- no image was given
pub image_not_drilled : (source : Source) (stop va count : ℕ) (old new : Seen) (why : ImageFault) (result : Result Reply Trouble) → is_good old.size old.block ≡ true
    → IsGiven source old (Err why) → RefusesImage why result → new.told ≡ old.told → WorksOnSite (drill_row source stop va count) old new result
image_not_drilled source stop va count old new why (Ok reply) good given is same = record {
  answer = is.0;
  entries = [];
  does = over_good old (DrillsSource source stop va count old) _ good (Err why, given, refuses_all (λ m. Drills (drill_of stop va count m) old) old why _ (is.1 old));
  told = same ∙ with_entries-nil old.told;
  is = is.2;
}
image_not_drilled source stop va count old new why (Err Fault) good given is same =
    record { entries = []; leaves = inr ([], inl (refl, refl)); told = same ∙ with_entries-nil old.told }
image_not_drilled source stop va count old new why (Err NoMemory) good given is same =
    record { entries = []; starves = inr ([], inl (refl, refl)); told = same ∙ with_entries-nil old.told }
