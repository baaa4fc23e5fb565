-- Turns, one after another.
use Rattle.std.proofs.Common.{◌≡◌, inl, inr, ◌⊎◌, ℕ, ◌≤◌, List, [], ◌∷◌, ◌++◌, Option, Some, None, Result, Ok, Err, IfErr, IsErrAnd, OnErr, OnOk, refl, sym, ◌∙◌, ap, subst, append_assoc, arith}
use Rattle.std.proofs.lemmas.List.{append-nil}
use Rattle.fd_netmsg.specs.Message.{ack}
use Rattle.fd_site.specs.Contents.{Contents, Told, Adds, file_of, with_entries}
use Rattle.fd_site.specs.Fault.{Rose}
use Rattle.fd_site.specs.Seen.{Seen}
use Rattle.fd_site.specs.Trace.{PortsEvent, NoneTaken, SlotOpened, Answered, grown}
use Rattle.fd_site.specs.declared.ports.Peer.{Peer}
use Rattle.fd_site.proofs.Told.{grown-append, grown-nil, with_entries-nil}
use Rattle.fd_netserver.specs.History.{IsTurn, IsServerRun, NoneBroken, entries_in}
use Rattle.fd_netserver.specs.Serving.{BreaksOff, EndsBy, IsGoing, IsServedTo, IsUnbroken, answers_of, events_of, finished_by, finished_in, input_event, turns_in}
use Rattle.fd_netserver.specs.Turning.{BreaksInput, BreaksTurn, GoesOn, TurnsOn, IsGrownInPart, IsServed, IsServedMore}
use Rattle.fd_netserver.specs.Session.{Input, Turn, Session, after_reply, sessions_after}
use Rattle.fd_netserver.specs.Stands.{IsBrokenAt, StandsFor, AreThere, TurnOf}
use Rattle.fd_netserver.specs.declared.limits.Received.{Received}
use Rattle.fd_netserver.specs.declared.limits.ServeFault.{ServeFault}
use Rattle.fd_netserver.specs.declared.limits.ServeFault.TheVariants.{TurnsSpent, PortsFault, NoMemory}
use Rattle.fd_netserver.specs.declared.limits.ServeLimits.{ServeLimits}
use Rattle.fd_netserver.specs.declared.record.Record.{Record}
use Rattle.fd_netserver.specs.declared.reply.Reply.{Reply}
use Rattle.fd_netserver.specs.declared.reply.Reply.TheVariants.{Opened, Ignored}
use Rattle.fd_netserver.specs.declared.reply.Skip.TheVariants as skip
use Rattle.fd_netserver.proofs.Lists.{Each-behind}
use Rattle.fd_netserver.proofs.Pacing.{finished_in-append}
use Rattle.fd_netserver.proofs.Running.{added_behind, run_behind, run_there, stands_behind}
use Rattle.fd_netserver.proofs.Unbroken.{rose_before, rose_later, whole_turn}

turns-behind : (hs : List (Option Turn)) (t : Turn) → turns_in (hs ++ Some t ∷ []) ≡ turns_in hs ++ t ∷ []
turns-behind [] t = refl
turns-behind (None ∷ hs) t = turns-behind hs t
turns-behind (Some u ∷ hs) t = ap (λ l. u ∷ l) (turns-behind hs t)

turns-quiet : (hs : List (Option Turn)) → turns_in (hs ++ None ∷ []) ≡ turns_in hs
turns-quiet [] = refl
turns-quiet (None ∷ hs) = turns-quiet hs
turns-quiet (Some u ∷ hs) = ap (λ l. u ∷ l) (turns-quiet hs)

events-behind : (hs gs : List (Option Turn)) → events_of (hs ++ gs) ≡ events_of hs ++ events_of gs
events-behind [] gs = refl
events-behind (None ∷ hs) gs = ap (λ l. NoneTaken ∷ l) (events-behind hs gs)
events-behind (Some t ∷ hs) gs =
    ap (λ l. input_event t.input ∷ (answers_of t.input.peer t.reply ++ l)) (events-behind hs gs)
    ∙ ap (λ l. input_event t.input ∷ l) (sym (append_assoc (answers_of t.input.peer t.reply) (events_of hs) (events_of gs)))

-- a silent turn
pub served_silent : (old new : Seen) (seen now later : Option (List PortsEvent)) (rs : List Record) (hs : List (Option Turn)) → IsServed old new seen now rs hs → later ≡ grown now (NoneTaken ∷ [])
    → (was : List Received) → IsServedMore old new seen later rs hs was was
served_silent old new seen now later rs hs served step was = record {
  last = None;
  listed = sym (append-nil was);
  served = record {
    run = subst (λ (ts : List Turn). Told old.told (λ c. IsServerRun [] (file_of c) ts)) (sym (turns-quiet hs)) served.run;
    entries = subst (λ (ts : List Turn). new.told ≡ with_entries old.told (entries_in ts)) (sym (turns-quiet hs)) served.entries;
    count = served.count;
    unbroken = subst (λ (ts : List Turn). NoneBroken ts ⊎ Rose old.faults new.faults) (sym (turns-quiet hs)) served.unbroken;
    events = step ∙ ap (λ (t : Option (List PortsEvent)). grown t (NoneTaken ∷ [])) served.events ∙ grown-append seen (events_of hs) (NoneTaken ∷ [])
        ∙ ap (grown seen) (sym (events-behind hs (None ∷ [])));
    stands = subst (λ (ts : List Turn). StandsFor rs (sessions_after [] ts)) (sym (turns-quiet hs)) served.stands;
  };
}

-- a turn more
module _ (old mid new : Option Contents) (hs : List (Option Turn)) (t : Turn)
    (run : Told old (λ c. IsServerRun [] (file_of c) (turns_in hs))) (entries : mid ≡ with_entries old (entries_in (turns_in hs)))
    (is : Told mid (λ c. IsTurn (sessions_after [] (turns_in hs)) (file_of c) t)) (adds : new ≡ with_entries mid t.entries) where
  more_run : Told old (λ c. IsServerRun [] (file_of c) (turns_in (hs ++ Some t ∷ [])))
  more_run = subst (λ (ts : List Turn). Told old (λ c. IsServerRun [] (file_of c) ts)) (sym (turns-behind hs t)) (run_behind old mid new (turns_in hs) t run entries is adds)

  more_entries : new ≡ with_entries old (entries_in (turns_in (hs ++ Some t ∷ [])))
  more_entries = subst (λ (ts : List Turn). new ≡ with_entries old (entries_in ts)) (sym (turns-behind hs t)) (added_behind old mid new (turns_in hs) t run entries is adds)

-- and whether it was broken off
unbroken_more : (old mid new : Seen) (rs : List Record) (hs : List (Option Turn)) (t : Turn) → StandsFor rs (sessions_after [] (turns_in hs)) → old.faults ≤ mid.faults → mid.faults ≤ new.faults
    → (t.reply ≡ Ignored skip.Broken → Rose mid.faults new.faults ⊎ IsBrokenAt rs t.input.slot) → IsUnbroken old.faults mid.faults hs → IsUnbroken old.faults new.faults (hs ++ Some t ∷ [])
unbroken_more old mid new rs hs t stands was more cause (inr rose) = inr (rose_later old.faults mid.faults new.faults rose more)
unbroken_more old mid new rs hs t stands was more cause (inl whole) =
    elim (whole_turn mid.faults new.faults rs (turns_in hs) t.input t.reply stands whole cause) [
      | inl this ↦ inl (subst NoneBroken (sym (turns-behind hs t)) (Each-behind (λ (u : Turn). u.reply ≡ Ignored skip.Broken → ⊥) (turns_in hs) (t ∷ []) whole (this, tt)))
      | inr rose ↦ inr (rose_before old.faults mid.faults new.faults was rose)
    ]

module _ (old mid new : Seen) (seen now : Option (List PortsEvent)) (rs : List Record) (hs : List (Option Turn)) (served : IsServed old mid seen now rs hs) (input : Input) (reply : Reply)
    (turn : (ss : List Session) → StandsFor rs ss → Adds (λ es. Told mid.told (λ c. IsTurn ss (file_of c) (TurnOf input reply es))) mid.told new.told)
    (count : mid.faults ≤ new.faults) (cause : reply ≡ Ignored skip.Broken → Rose mid.faults new.faults ⊎ IsBrokenAt rs input.slot) where
  adds : Adds (λ es. Told mid.told (λ c. IsTurn (sessions_after [] (turns_in hs)) (file_of c) (TurnOf input reply es))) mid.told new.told
  adds = turn (sessions_after [] (turns_in hs)) served.stands

  abbrev last : Turn
  last = TurnOf input reply adds.0

  last_events : (answered : List PortsEvent) → grown (grown now (input_event input ∷ [])) answered ≡ grown seen (events_of hs ++ (input_event input ∷ answered))
  last_events answered =
      grown-append now (input_event input ∷ []) answered
      ∙ ap (λ (t : Option (List PortsEvent)). grown t (input_event input ∷ answered)) served.events
      ∙ grown-append seen (events_of hs) (input_event input ∷ answered)

  pub served_turn : (now1 later : Option (List PortsEvent)) (rs1 : List Record) → ((ss : List Session) → StandsFor rs ss → StandsFor rs1 (after_reply ss input reply))
      → now1 ≡ grown now (input_event input ∷ []) → later ≡ grown now1 (answers_of input.peer reply)
      → (was list : List Received) → list ≡ was ++ finished_by reply → IsServedMore old new seen later rs1 hs was list
  served_turn now1 later rs1 stands taken answered was list noted = record {
    last = Some last;
    listed = noted ∙ ap (λ l. was ++ l) (sym (append-nil (finished_by reply)));
    served = record {
      run = more_run old.told mid.told new.told hs last served.run served.entries adds.1 adds.2;
      entries = more_entries old.told mid.told new.told hs last served.run served.entries adds.1 adds.2;
      count = omega (arith, served.count, count);
      unbroken = unbroken_more old mid new rs hs last served.stands served.count count cause served.unbroken;
      events = answered ∙ ap (λ (t : Option (List PortsEvent)). grown t (answers_of input.peer reply)) taken ∙ last_events (answers_of input.peer reply)
          ∙ ap (grown seen) (ap (λ l. events_of hs ++ (input_event input ∷ l)) (sym (append-nil (answers_of input.peer reply))) ∙ sym (events-behind hs (Some last ∷ [])));
      stands = subst (λ (ts : List Turn). StandsFor rs1 (sessions_after [] ts)) (sym (turns-behind hs last))
          (stands_behind rs1 (turns_in hs) last (stands (sessions_after [] (turns_in hs)) served.stands));
    };
  }

  pub broken_answers : (now1 later : Option (List PortsEvent)) (was list : List Received) → was ≡ finished_in hs → list ≡ was ++ finished_by reply
      → now1 ≡ grown now (input_event input ∷ []) → IsGrownInPart now1 later (answers_of input.peer reply) → IsServedTo (BreaksOff PortsFault hs) old new seen later list
  broken_answers now1 later was list listed noted taken answered = record {
    happened = hs ++ Some last ∷ [];
    events = events_of hs ++ (input_event input ∷ answered.given);
    run = more_run old.told mid.told new.told hs last served.run served.entries adds.1 adds.2;
    entries = more_entries old.told mid.told new.told hs last served.run served.entries adds.1 adds.2;
    unbroken = unbroken_more old mid new rs hs last served.stands served.count count cause served.unbroken;
    given = answered.grows ∙ ap (λ (t : Option (List PortsEvent)). grown t answered.given) taken ∙ last_events answered.given;
    listed = noted ∙ ap (λ l. l ++ finished_by reply) listed ∙ ap (λ l. finished_in hs ++ l) (sym (append-nil (finished_by reply))) ∙ sym (finished_in-append hs (Some last ∷ []));
    ended = inr (record { last = last; given = answered.given; is = refl; answers = answered.part; events_are = refl });
  }

-- want of memory came before the reply
pub broken_reply : (old was new : Seen) (seen now later : Option (List PortsEvent)) (rs : List Record) (hs : List (Option Turn)) (input : Input) → IsServed old was seen now rs hs → new ≡ was
    → (list : List Received) → list ≡ finished_in hs → later ≡ grown now (input_event input ∷ []) → IsServedTo (BreaksOff NoMemory hs) old new seen later list
broken_reply old was new seen now later rs hs input served same list listed taken = record {
  happened = hs;
  events = events_of hs ++ input_event input ∷ [];
  run = served.run;
  entries = ap (λ (s : Seen). s.told) same ∙ served.entries;
  unbroken = subst (λ (s : Seen). IsUnbroken old.faults s.faults hs) (sym same) served.unbroken;
  given = taken ∙ ap (λ (t : Option (List PortsEvent)). grown t (input_event input ∷ [])) served.events ∙ grown-append seen (events_of hs) (input_event input ∷ []);
  listed = listed;
  ended = record { input = input; is = refl; events_are = refl };
}

-- nothing was taken
pub broken_look : (old new : Seen) (seen now later : Option (List PortsEvent)) (rs : List Record) (hs : List (Option Turn)) →
    IsServed old new seen now rs hs → (list : List Received) → list ≡ finished_in hs → later ≡ now
    → IsServedTo (BreaksOff PortsFault hs) old new seen later list
broken_look old new seen now later rs hs served list listed same = record {
  happened = hs;
  events = events_of hs;
  run = served.run;
  entries = served.entries;
  unbroken = served.unbroken;
  given = same ∙ served.events;
  listed = listed;
  ended = inl (record { is = refl; events_are = refl });
}

-- the files of open sessions are there
pub served_there : (old new : Seen) (seen now : Option (List PortsEvent)) (rs : List Record) (hs : List (Option Turn)) → IsServed old new seen now rs hs → Told new.told (λ c. AreThere rs (file_of c))
served_there old new seen now rs hs served =
    run_there new.told rs (record { was = old.told; turns = turns_in hs; run = served.run; entries = served.entries; stands = served.stands })

pub served_new : (old : Seen) (seen : Option (List PortsEvent)) (rs : List Record) → rs ≡ [] → IsServed old old seen seen rs []
served_new old seen rs none = record {
  run = λ c is. tt;
  entries = with_entries-nil old.told;
  count = omega arith;
  unbroken = inl tt;
  events = grown-nil seen;
  stands = subst (λ (l : List Record). StandsFor l []) (sym none) tt;
}

-- the slot was opened, and the peer wasn't answered
pub opened_only : {T E : Type 0} (r : Result T E) (old mid new : Option (List PortsEvent)) (peer : Peer) (reply : Reply) (slot seqno number : ℕ) → reply ≡ Opened slot seqno number
    → mid ≡ grown old (SlotOpened slot ∷ []) → OnErr r (new ≡ mid) → OnErr r (IsGrownInPart old new (answers_of peer reply))
opened_only (Ok x) old mid new peer reply slot seqno number is step same = tt
opened_only (Err e) old mid new peer reply slot seqno number is step same =
    record { given = SlotOpened slot ∷ []; part = record { next = Answered slot peer (ack seqno); lacking = []; is = ap (answers_of peer) is }; grows = same ∙ step }

-- what an error that is handed on says
pub passed : {T : Type 0} (r : Result T ServeFault) (why : ServeFault) (P : ServeFault → Type 0) → IsErrAnd r (λ e. e ≡ why) → P why → IfErr r P
passed (Ok x) why P is p = tt
passed (Err e) why P is p = subst P (sym is) p

pub on_ok : {T E : Type 0} (r : Result T E) (P Q : Type 0) → OnOk r P → (P → Q) → OnOk r Q
on_ok (Ok x) P Q p f = f p
on_ok (Err e) P Q p f = tt

pub if_err : {T : Type 0} (r : Result T ServeFault) (P Q : ServeFault → Type 0) → IfErr r P → ((why : ServeFault) → P why → Q why) → IfErr r Q
if_err (Ok x) P Q p f = tt
if_err (Err why) P Q p f = f why p

-- an input that the ports gave
module _ (was new : Seen) (told later : Option (List PortsEvent)) (rs : List Record) (input : Input) (before : List Received) where
  module _ (reply : Reply) (turn : (ss : List Session) → StandsFor rs ss → Adds (λ es. Told was.told (λ c. IsTurn ss (file_of c) (TurnOf input reply es))) was.told new.told)
      (count : was.faults ≤ new.faults) (cause : reply ≡ Ignored skip.Broken → Rose was.faults new.faults ⊎ IsBrokenAt rs input.slot) where
    pub goes_on : (now : List Record) (list : List Received) → ((ss : List Session) → StandsFor rs ss → StandsFor now (after_reply ss input reply))
        → list ≡ before ++ finished_by reply → later ≡ grown told (answers_of input.peer reply) → GoesOn was new told later rs now input before list
    goes_on now list stands noted answered old seen had hs served taken =
        served_turn old was new seen had rs hs served input reply turn count cause told later now stands taken answered before list noted

    pub breaks_at_answer : (list : List Received) → list ≡ before ++ finished_by reply → IsGrownInPart told later (answers_of input.peer reply)
        → BreaksInput was new told later rs input before list PortsFault
    breaks_at_answer list noted answered old seen had hs served taken listed =
        broken_answers old was new seen had rs hs served input reply turn count cause told later before list listed noted taken answered

  pub breaks_at_reply : new ≡ was → later ≡ told → BreaksInput was new told later rs input before before NoMemory
  breaks_at_reply same silent old seen had hs served taken listed =
      broken_reply old was new seen had later rs hs input served same before listed (silent ∙ taken)

-- a look at the ports
module _ (was : Seen) (told later : Option (List PortsEvent)) (rs : List Record) (before : List Received) where
  pub turns_silent : later ≡ grown told (NoneTaken ∷ []) → TurnsOn was was told later rs rs before before
  turns_silent step old seen hs served = served_silent old was seen told later rs hs served step before

  pub breaks_at_look : later ≡ told → BreaksTurn was was told later rs before before PortsFault
  breaks_at_look same old seen hs served listed = broken_look old was seen told later rs hs served before listed same

module _ (was new : Seen) (told given later : Option (List PortsEvent)) (rs : List Record) (before : List Received) where
  pub turns_on : (now : List Record) (input : Input) (list : List Received) → given ≡ grown told (input_event input ∷ []) → GoesOn was new given later rs now input before list
      → TurnsOn was new told later rs now before list
  turns_on now input list taken more old seen hs served = more old seen told hs served taken

  pub breaks_on : (input : Input) (list : List Received) (why : ServeFault) → given ≡ grown told (input_event input ∷ []) → BreaksInput was new given later rs input before list why
      → BreaksTurn was new told later rs before list why
  breaks_on input list why taken broken old seen hs served listed = broken old seen told hs served taken listed

-- how a turn that is broken off ends serving
pub ends_broken : (limits : ServeLimits) (why : ServeFault) (old new : Seen) (seen now : Option (List PortsEvent)) (hs : List (Option Turn)) (list : List Received) → IsGoing limits hs
    → IsServedTo (BreaksOff why hs) old new seen now list → IsServedTo (EndsBy limits why) old new seen now list
ends_broken limits (TurnsSpent n) old new seen now hs list going broken = absurd broken.ended
ends_broken limits PortsFault old new seen now hs list going broken = record {
  happened = broken.happened;
  events = broken.events;
  run = broken.run;
  entries = broken.entries;
  unbroken = broken.unbroken;
  given = broken.given;
  listed = broken.listed;
  ended = record { before = hs; going = going; broken = broken.ended };
}
ends_broken limits NoMemory old new seen now hs list going broken = record {
  happened = broken.happened;
  events = broken.events;
  run = broken.run;
  entries = broken.entries;
  unbroken = broken.unbroken;
  given = broken.given;
  listed = broken.listed;
  ended = record { before = hs; going = going; broken = broken.ended };
}

pub served_end : (ends : List (Option Turn) → List PortsEvent → Type 0) (old new : Seen) (seen now : Option (List PortsEvent)) (rs : List Record) (hs : List (Option Turn)) (list : List Received)
    → IsServed old new seen now rs hs → list ≡ finished_in hs → ends hs (events_of hs) → IsServedTo ends old new seen now list
served_end ends old new seen now rs hs list served listed ended =
    record { happened = hs; events = events_of hs; run = served.run; entries = served.entries; unbroken = served.unbroken; given = served.events; listed = listed; ended = ended }
