-- Calls, by what a command's work came to: of any row.
use Rattle.std.proofs.Common.{◌≡◌, inl, inr, ℕ, ◌≤◌, Bool, true, false, ◌||◌, IsTrue, IsErrOf, List, [], take, Option, Some, None, Result, Ok, Err}
use Rattle.std.proofs.Common.{refl, sym, ◌∙◌, ap, subst, arith}
use Rattle.std.specs.Bool.{OnFalse}
use Rattle.std.specs.Result.{IsErrAnd}
use Rattle.fd_site.specs.Contents.{with_entries}
use Rattle.fd_site.specs.Fault.{Rose}
use Rattle.fd_site.specs.Journal.{Entry}
use Rattle.fd_site.specs.Seen.{Frame, Seen, Watched}
use Rattle.fd_site.specs.Trace.{LinkEvent, PortsEvent, grown}
use Rattle.fd_site.proofs.Told.{grown-nil, with_entries-nil}
use Rattle.fd_cli.specs.Ending.{Call}
use Rattle.fd_cli.specs.Reply.{IsReplyOf, Worked, Works, WorksOnSite, text_bytes, trouble_status}
use Rattle.fd_cli.specs.Row.{Added, Blamed, Grew, Kept, Outside, Reach, Row, nothing, only, reach}
use Rattle.fd_cli.specs.Rows.{no_command_row, row_of}
use Rattle.fd_cli.specs.declared.answer.Answer.TheVariants.{Refused}
use Rattle.fd_words.specs.declared.command.Command.{Command}
use Rattle.fd_words.specs.declared.command.Command.TheVariants as command
use Rattle.fd_cli.specs.declared.refusal.Refusal.TheVariants.{NotCommand}
use Rattle.fd_cli.specs.declared.reply.Reply.{Reply}
use Rattle.fd_cli.specs.declared.reply.Trouble.{Trouble}
use Rattle.fd_cli.specs.declared.reply.Trouble.TheVariants.{Fault, NoMemory}

-- a count that stays didn't fall
stays : (n : ℕ) → n ≤ n
stays n = omega arith

unasked : {P : Type 0} (b : Bool) → P → OnFalse b P
unasked true p = tt
unasked false p = p

asked : (b : Bool) (P : Type 0) → IsTrue b → OnFalse b P
asked true P is = tt
asked false P is = absurd (cc)

-- no fault of the site was spared
pub none_spared : {P : Type 0} → IsTrue false → P
none_spared is = absurd (cc)

-- nothing was touched
grew_nothing : (r : Reach) → Grew r r nothing
grew_nothing r = record { site = with_entries-nil r.site.told; link = grown-nil r.link.told; ports = grown-nil r.ports.told; spared = none_spared }

kept_all : (blamed : Blamed) (r : Reach) → Kept blamed r r
kept_all blamed r = record {
  site = record { size = refl; block = refl; count = stays r.site.faults };
  link = stays r.link.faults;
  ports = stays r.ports.faults;
  quiet_site = unasked (blamed.site || blamed.spares) refl;
  quiet_link = unasked blamed.link refl;
  quiet_ports = unasked blamed.ports refl;
}

-- what is done on the site alone
pub grew_on_site : (old new : Seen) (link : Watched LinkEvent) (ports : Watched PortsEvent) (entries : List Entry) → new.told ≡ with_entries old.told entries
    → Grew (reach old link ports) (reach new link ports) (only entries)
grew_on_site old new link ports entries told = record { site = told; link = grown-nil link.told; ports = grown-nil ports.told; spared = none_spared }

works_on_site : (row : Row) (old new : Seen) (link : Watched LinkEvent) (ports : Watched PortsEvent) (result : Result Reply Trouble)
    → WorksOnSite row old new result → Works row (reach old link ports) (reach new link ports) result
works_on_site row old new link ports (Ok reply) works = record {
  work = record { answer = works.answer; added = only works.entries };
  does = works.does;
  grew = grew_on_site old new link ports works.entries works.told;
  is = works.is;
}
works_on_site row old new link ports (Err Fault) works =
    record { added = only works.entries; leaves = works.leaves; grew = grew_on_site old new link ports works.entries works.told }
works_on_site row old new link ports (Err NoMemory) works =
    record { added = only works.entries; starves = works.starves; grew = grew_on_site old new link ports works.entries works.told }

-- the work of a row that blames the site, done there alone
pub worked_on_site : (row : Row) (old new : Seen) (link : Watched LinkEvent) (ports : Watched PortsEvent) (result : Result Reply Trouble)
    → WorksOnSite row old new result → Frame old new → (IsErrOf result Fault → Rose old.faults new.faults) → IsTrue row.blames.site
    → Worked row (reach old link ports) (reach new link ports) result
worked_on_site row old new link ports result works frame cause blamed = record {
  works = works_on_site row old new link ports result works;
  kept = record {
    site = frame;
    link = stays link.faults;
    ports = stays ports.faults;
    quiet_site = asked (row.blames.site || row.blames.spares) _ (ap (λ b. b || row.blames.spares) blamed);
    quiet_link = unasked row.blames.link refl;
    quiet_ports = unasked row.blames.ports refl;
  };
  cause = λ is. inl (blamed, cause is);
}

-- no memory was found for the words
starves_at_once : (command : Option Command) (found : Seen) → (row_of command).Starves found nothing
starves_at_once None found = refl
starves_at_once (Some (command.Image arch number file)) found = refl
starves_at_once (Some (command.Judge force)) found = refl
starves_at_once (Some (command.Clear force)) found = refl
starves_at_once (Some (command.Save options keep)) found = refl
starves_at_once (Some (command.Dump mark source)) found = refl
starves_at_once (Some (command.Netdump source server)) found = refl
starves_at_once (Some (command.Netdumpd dumps)) found = inl refl
starves_at_once (Some (command.Read name va count)) found = refl
starves_at_once (Some (command.Pages name)) found = refl
starves_at_once (Some (command.Drill source stop va count)) found = inr ([], inl (refl, refl))

pub starved_at_once : (command : Option Command) (r : Reach) (result : Result Reply Trouble) → IsErrAnd result (λ trouble. trouble ≡ NoMemory)
    → Worked (row_of command) r r result
starved_at_once command r (Ok reply) is = absurd is
starved_at_once command r (Err trouble) is = subst (λ t. Worked (row_of command) r r (Err t)) (sym is) (record {
  works = record { added = nothing; starves = starves_at_once command r.site; grew = grew_nothing r };
  kept = kept_all (row_of command).blames r;
  cause = λ fault. absurd (cc);
})

-- words that are no command
pub not_a_command : (r : Reach) (reply : Reply) → IsReplyOf (Refused NotCommand) reply → Worked no_command_row r r (Ok reply)
not_a_command r reply is = record {
  works = record { work = record { answer = Refused NotCommand; added = nothing }; does = refl; grew = grew_nothing r; is = is };
  kept = kept_all no_command_row.blames r;
  cause = λ fault. absurd (cc);
}

-- by the reply that was given
pub by_reply : (row : Row) (old new : Reach) (result this : Result Reply Trouble) → result ≡ this → Worked row old new result → Worked row old new this
by_reply row old new result this is worked = subst (λ r. Worked row old new r) is worked

-- a fault ended the work, before a word was printed
failed : (row : Row) (old : Outside) (new : Reach) → ((added : Added) → row.Says old.reach.site added []) → Worked row old.reach new (Err Fault)
    → Call row old (record { reach = new; sink = old.sink }) 74
failed row old new silent worked = record {
  ends = inr (inr (inl (record {
    added = worked.works.added;
    leaves = worked.works.leaves;
    grew = worked.works.grew;
    early = [];
    may_say = silent _;
    printed = grown-nil old.sink.told;
    status_is = refl;
    rose = worked.cause refl;
  })));
  kept = worked.kept;
  sink = stays old.sink.faults;
}

-- no memory was found, before a word was printed
pub starved : (row : Row) (old : Outside) (new : Reach) → ((added : Added) → row.Says old.reach.site added []) → Worked row old.reach new (Err NoMemory)
    → Call row old (record { reach = new; sink = old.sink }) 71
starved row old new silent worked = record {
  ends = inr (inr (inr (record {
    added = worked.works.added;
    starves = worked.works.starves;
    grew = worked.works.grew;
    early = [];
    may_say = silent _;
    printed = grown-nil old.sink.told;
    status_is = refl;
  })));
  kept = worked.kept;
  sink = stays old.sink.faults;
}

-- the work ended without a reply
ended : (row : Row) (old : Outside) (new : Reach) (trouble : Trouble) → ((added : Added) → row.Says old.reach.site added []) → Worked row old.reach new (Err trouble)
    → Call row old (record { reach = new; sink = old.sink }) (trouble_status trouble)
ended row old new Fault silent worked = failed row old new silent worked
ended row old new NoMemory silent worked = starved row old new silent worked

pub ended_so : (row : Row) (old : Outside) (new : Reach) (trouble : Trouble) (status : ℕ) → status ≡ trouble_status trouble → ((added : Added) → row.Says old.reach.site added [])
    → Worked row old.reach new (Err trouble) → Call row old (record { reach = new; sink = old.sink }) status
ended_so row old new trouble status is silent worked = subst (Call row old (record { reach = new; sink = old.sink })) (sym is) (ended row old new trouble silent worked)

-- the reply was printed
pub answered : (row : Row) (old new : Outside) (reply : Reply) → Worked row old.reach new.reach (Ok reply)
    → new.sink.told ≡ grown old.sink.told (text_bytes reply.text) → old.sink.faults ≤ new.sink.faults → Call row old new reply.status
answered row old new reply worked text count = record {
  ends = inl (record {
    work = worked.works.work;
    does = worked.works.does;
    grew = worked.works.grew;
    printed = text ∙ ap (grown old.sink.told) worked.works.is.text;
    status_is = worked.works.is.status;
  });
  kept = worked.kept;
  sink = count;
}

-- the sink failed
pub unprinted : (row : Row) (old new : Outside) (reply : Reply) → Worked row old.reach new.reach (Ok reply) → (bytes : List ℕ) → bytes ≡ text_bytes reply.text
    → ((n : ℕ) × (new.sink.told ≡ grown old.sink.told (take n bytes))) → old.sink.faults ≤ new.sink.faults → Rose old.sink.faults new.sink.faults
    → Call row old new 74
unprinted row old new reply worked bytes text_is text count rose = record {
  ends = inr (inl (record {
    work = worked.works.work;
    does = worked.works.does;
    grew = worked.works.grew;
    n = text.0;
    printed = text.1 ∙ ap (λ t. grown old.sink.told (take text.0 t)) (text_is ∙ worked.works.is.text);
    status_is = refl;
    rose = rose;
  }));
  kept = worked.kept;
  sink = count;
}

-- a call of this command is one of words that are it
pub called_by : (command this : Option Command) (old new : Outside) (status : ℕ) → command ≡ this → Call (row_of this) old new status
    → Call (row_of command) old new status
called_by command this old new status is call = subst (λ c. Call (row_of c) old new status) (sym is) call

-- the call of words that are this command
pub call_by : (command this : Option Command) (old new : Outside) (status : ℕ) → command ≡ this → Call (row_of command) old new status
    → Call (row_of this) old new status
call_by command this old new status is call = subst (λ c. Call (row_of c) old new status) is call
