-- What calls of `netdumpd` over one site have of a dump that was sent.
use Rattle.std.proofs.Common.{◌≡◌, inl, inr, ℕ, List, [], ◌∷◌, ◌++◌, Some, refl, sym, ◌∙◌, ap, subst, append_assoc}
use Rattle.std.proofs.lemmas.List.{append-nil}
use Rattle.fd_site.specs.Contents.{Contents, file_of}
use Rattle.fd_site.specs.Journal.{Entry}
use Rattle.fd_site.specs.Seen.{Seen}
use Rattle.fd_site.specs.Trace.{LinkEvent}
use Rattle.fd_site.proofs.Told.{file_after-append}
use Rattle.fd_image.specs.Image.{MachineImage}
use Rattle.fd_netserver.specs.Files.{files_after}
use Rattle.fd_netserver.specs.History.{AreServerRuns, all_turns, entries_in}
use Rattle.fd_netserver.specs.Serving.{turns_in}
use Rattle.fd_netserver.specs.Session.{Turn}
use Rattle.fd_netserver.specs.declared.limits.Received.{Received}
use Rattle.fd_cli.specs.Delivered.{AreCallsOver, IsKeptByCalls, IsKeptByServers, ServerCall, turns_of}
use Rattle.fd_cli.specs.Laws.{EachNetdumpIsReceived, HasTurnsAlways, MayHaveTurns}
use Rattle.fd_cli.specs.Row.{Added}
use Rattle.fd_cli.specs.Rows.Netdumpd.{Ending, MayHaveServed, Serves}
use Rattle.fd_cli.proofs.Delivering.{DeliveryLaw, each_netdump_is_delivered}

-- serving had its turns
has_turns : (ends : Ending) (found : Seen) (sessions : List Received) (added : Added) → Serves ends found sessions added → MayHaveTurns found added
has_turns ends found sessions added serves =
    inr (turns_in serves.happened, record { events = serves.events; spared = serves.spared; run = serves.run; is = serves.is })

may_have : (ends : Ending) (found : Seen) (added : Added) → MayHaveServed ends found added → MayHaveTurns found added
may_have ends found added (inl none) = inl none
may_have ends found added (inr served) = has_turns ends found served.0 added served.1

pub has_turns_always : (dumps : ℕ) → HasTurnsAlways dumps
has_turns_always dumps = record {
  whole = λ found w does. elim does [
    | inl all ↦ has_turns _ found all.sessions w.added all.serves
    | inr spent ↦ has_turns _ found spent.sessions w.added spent.serves
  ];
  left = λ found added left. may_have _ found added left;
  starved = λ found added starved. may_have _ found added starved;
}

entries_in-append : (ts us : List Turn) → entries_in (ts ++ us) ≡ entries_in ts ++ entries_in us
entries_in-append [] us = refl
entries_in-append (t ∷ ts) us = ap (λ es. t.entries ++ es) (entries_in-append ts us) ∙ sym (append_assoc t.entries (entries_in ts) (entries_in us))

-- what calls over one site make of it: runs of servers, whose entries the site has
pub record AreRuns (c : Contents) (calls : List ServerCall) (now : Contents) : Type 0 where
  pub runs : AreServerRuns (file_of c) (turns_of calls)
  pub base : now.base_file ≡ c.base_file
  pub journal : now.journal ≡ c.journal ++ entries_in (all_turns (turns_of calls))

with_more : Contents → List Entry → Contents
with_more c es = record c { journal = c.journal ++ es }

files_more : (c : Contents) (es : List Entry) → file_of (with_more c es) ≡ files_after (file_of c) es
unfolding with_more
files_more c es = λ i q. file_after-append q (c.base_file q) c.journal es i

one_more : (c : Contents) (call : ServerCall) (calls : List ServerCall) (now : Contents) → call.found.told ≡ Some c
    → AreRuns (with_more c call.added.entries) calls now → AreRuns c (call ∷ calls) now
unfolding with_more
one_more c call calls now told later =
    let entries : call.added.entries ≡ entries_in call.turns = ap (λ (a : Added). a.entries) call.has.is in
    record {
      runs = (
        call.has.run c told,
        subst (λ es. AreServerRuns (files_after (file_of c) es) (turns_of calls)) entries
            (subst (λ f. AreServerRuns f (turns_of calls)) (files_more c call.added.entries) later.runs),
      );
      base = later.base;
      journal = later.journal ∙ append_assoc c.journal call.added.entries (entries_in (all_turns (turns_of calls)))
          ∙ ap (λ es. c.journal ++ (es ++ entries_in (all_turns (turns_of calls)))) entries
          ∙ ap (λ es. c.journal ++ es) (sym (entries_in-append call.turns (all_turns (turns_of calls))));
    }

are_runs : (c : Contents) (calls : List ServerCall) (now : Contents) → AreCallsOver c calls now → AreRuns c calls now
unfolding with_more
are_runs c [] now is = record {
  runs = tt;
  base = ap (λ (d : Contents). d.base_file) is;
  journal = ap (λ (d : Contents). d.journal) is ∙ sym (append-nil c.journal);
}
are_runs c (call ∷ calls) now over = one_more c call calls now over.0 (are_runs (with_more c call.added.entries) calls now over.1)

-- servers that keep an image's dump do so as calls
by_calls : (m : MachineImage) (trace : List LinkEvent) → IsKeptByServers m trace → IsKeptByCalls m trace
by_calls m trace kept peer c now calls over carried =
    let runs = are_runs c calls now over in
    kept peer now c.journal (turns_of calls)
    (subst (λ base. AreServerRuns (files_after base c.journal) (turns_of calls)) (sym runs.base) runs.runs) runs.journal carried

pub each_netdump_is_received : (law : DeliveryLaw) → EachNetdumpIsReceived
each_netdump_is_received law source server found w does zero =
    let delivered = each_netdump_is_delivered law source server found w does zero in
    (delivered.0, delivered.1, λ c told. (let kept = delivered.2 c told in (kept.image, kept.names, by_calls kept.image delivered.0 kept.kept)))
