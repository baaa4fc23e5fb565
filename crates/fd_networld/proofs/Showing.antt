-- The world that the code has is that of a story, call by call.
use Rattle.std.proofs.Common.{◌≡◌, ◌⊎◌, inl, inr, ℕ, zero, suc, ◌-◌, ◌<◌, ◌≤◌, true, false, nat_le, List, [], ◌∷◌, ◌++◌, map, Option}
use Rattle.std.proofs.Common.{Some, None, IsSome, IfSome, slice_get, Result, Ok, Err, OnOk, refl, sym, ◌∙◌, ap, subst, arith}
use Rattle.std.proofs.lemmas.Bool.{cond_both}
use Rattle.std.proofs.lemmas.Bool.Decides.{nat_tests}
use Rattle.std.proofs.lemmas.List.{map-append}
use Rattle.fd_fake.specs.Disk.{contents_of}
use Rattle.fd_fake.specs.MemSite.{SiteInMemory, seen_of}
use Rattle.fd_kdh.specs.declared.header.Header.{Header}
use Rattle.fd_netclient.specs.Machine.{Standing, port_of, want_of}
use Rattle.fd_netclient.specs.declared.client.Want.{Want}
use Rattle.fd_netclient.specs.declared.client.Want.TheVariants as want
use Rattle.fd_netmsg.specs.Message.{ack}
use Rattle.fd_netserver.specs.History.{IsTurn}
use Rattle.fd_netserver.specs.Session.{Input, Session, Turn, nth, same_peer, sessions_after}
use Rattle.fd_netserver.specs.Stands.{StandsFor, TurnOf}
use Rattle.fd_netserver.specs.declared.phase.Phase.TheVariants.{Broken}
use Rattle.fd_netserver.specs.declared.record.Record.{Record}
use Rattle.fd_netserver.specs.declared.reply.Reply.TheVariants.{Ignored}
use Rattle.fd_netserver.specs.declared.reply.Skip.TheVariants as skip
use Rattle.fd_netserver.proofs.More.{sessions_after-append}
use Rattle.fd_site.specs.Contents.{Adds, Told, file_of, with_entries}
use Rattle.fd_site.specs.Trace.{LinkEvent, Got}
use Rattle.fd_site.specs.declared.ports.Peer.{Peer}
use Rattle.fd_networld.specs.Sent.{Exchange, AllRuns, all_answers, client_peer, port_of_slot}
use Rattle.fd_networld.specs.Steps.{HasTaken, IsNow, gone}
use Rattle.fd_networld.specs.World.{Shows, Stays, Goes, Takes, WillFail, Begins, Story, WasBroken, answering, arriving, client_after, exchange_of, exchanges_of, failing, hearing, sending, served_in}
use Rattle.fd_networld.specs.Watched.{HasFailed}
use Rattle.fd_networld.specs.declared.answer.Answer.{Answer}
use Rattle.fd_networld.specs.declared.world.World.{World}

-- the session of a broken record is broken
broken_at : (rs : List Record) (ss : List Session) (k : ℕ) → StandsFor rs ss → IfSome (slice_get rs k) (λ (r : Record). r.phase ≡ Broken) → IsSome (slice_get rs k)
    → (s : Session) × (nth ss k ≡ Some s) × (s.phase ≡ Broken)
broken_at [] ss k stands broken some = absurd (cc)
broken_at (r ∷ rs) [] k stands broken some = absurd stands
broken_at (r ∷ rs) (s ∷ ss) zero stands broken some = (s, refl, sym stands.0.phase ∙ broken)
broken_at (r ∷ rs) (s ∷ ss) (suc k) stands broken some = broken_at rs ss k stands.1 broken some

module _ (story : Story) (was : World) (shows : Shows story was) where
  pub stays_now : (now : World) → now ≡ was → IsNow Stays story now
  stays_now now is = record { next = story; does = refl; shows = subst (Shows story) (sym is) shows; fed = λ fed. fed }

  goes_now : (e : LinkEvent) (now : World) → now ≡ gone (Goes e) was → IsNow (Goes e) story now
  goes_now e now is = record {
    next = record story { client = client_after e story.client; trace = story.trace ++ e ∷ [] };
    does = refl;
    shows = subst (Shows (record story { client = client_after e story.client; trace = story.trace ++ e ∷ [] })) (sym is) (record {
      client = ap (client_after e) shows.client;
      site = shows.site;
      waiting = shows.waiting;
      trace = ap (λ l. l ++ e ∷ []) shows.trace;
      runs = shows.runs;
      server = shows.server;
    });
    fed = λ fed. fed;
  }

  -- the client sends, or hears
  sends_by : (dump : List ℕ) (h : Header) (port : ℕ) (w : Want) (now : World) → now ≡ gone (sending dump h port w) was → IsNow (sending dump h port w) story now
  sends_by dump h port (want.Send s) now is = goes_now _ now is
  sends_by dump h port want.Poll now is = stays_now now is
  sends_by dump h port want.Done now is = stays_now now is
  sends_by dump h port (want.TimedOut s) now is = stays_now now is

  hears_by : (e : LinkEvent) (w : Want) (now : World) → now ≡ gone (hearing e w) was → IsNow (hearing e w) story now
  hears_by e want.Poll now is = goes_now e now is
  hears_by e (want.Send s) now is = stays_now now is
  hears_by e want.Done now is = stays_now now is
  hears_by e (want.TimedOut s) now is = stays_now now is

  answers_by : (o : Option Answer) (w : Want) (now : World) → now ≡ gone (answering o w) was → IsNow (answering o w) story now
  answers_by None w now is = stays_now now is
  answers_by (Some a) w now is =
      cond_both (same_peer a.peer client_peer) (hearing (Got (port_of_slot a.slot) (ack a.seqno)) w) Stays (λ step. now ≡ gone step was → IsNow step story now)
      (λ same. hears_by (Got (port_of_slot a.slot) (ack a.seqno)) w now)
      (λ other. stays_now now)
      is

  pub sends_now : (dump : List ℕ) (h : Header) (now : World) → now ≡ gone (sending dump h (port_of was.client.state) (want_of was.client.state)) was
      → IsNow (sending dump h (port_of story.client.state) (want_of story.client.state)) story now
  sends_now dump h now is =
      subst (λ (c : Standing). IsNow (sending dump h (port_of c.state) (want_of c.state)) story now) shows.client (sends_by dump h (port_of was.client.state) (want_of was.client.state) now is)

  pub hears_now : (e : LinkEvent) (now : World) → now ≡ gone (hearing e (want_of was.client.state)) was → IsNow (hearing e (want_of story.client.state)) story now
  hears_now e now is =
      subst (λ (c : Standing). IsNow (hearing e (want_of c.state)) story now) shows.client (hears_by e (want_of was.client.state) now is)

  pub answers_now : (n : ℕ) (now : World) → now ≡ gone (answering (slice_get (all_answers was.runs) n) (want_of was.client.state)) was
      → IsNow (answering (slice_get (all_answers (served_in story)) n) (want_of story.client.state)) story now
  answers_now n now is =
      subst (λ (c : Standing). IsNow (answering (slice_get (all_answers (served_in story)) n) (want_of c.state)) story now) shows.client
      (subst (λ (r : AllRuns). IsNow (answering (slice_get (all_answers r) n) (want_of was.client.state)) story now) shows.runs
      (answers_by (slice_get (all_answers was.runs) n) (want_of was.client.state) now is))

  -- the server takes an input
  module _ (input : Input) (now : World) (taken : HasTaken input was now) where
    abbrev sessions : List Session
    sessions = sessions_after [] story.run

    adds : Adds (λ es. Told (seen_of was.site).told (λ c. IsTurn sessions (file_of c) (TurnOf input taken.reply es))) (seen_of was.site).told (seen_of now.site).told
    adds = taken.turn sessions shows.server

    abbrev last : Turn
    last = TurnOf input taken.reply adds.0

    abbrev next_story : Story
    next_story = record story { site = now.site; waiting = now.waiting; run = story.run ++ last ∷ [] }

    is_turn : IsTurn sessions (file_of (contents_of story.site.disk)) last
    is_turn = subst (λ (m : SiteInMemory). IsTurn sessions (file_of (contents_of m.disk)) last) shows.site (adds.1 (contents_of was.site.disk) refl)

    journal : Some (contents_of now.site.disk) ≡ with_entries (Some (contents_of story.site.disk)) last.entries
    journal = subst (λ (m : SiteInMemory). Some (contents_of now.site.disk) ≡ with_entries (Some (contents_of m.disk)) last.entries) shows.site adds.2

    cause : last.reply ≡ Ignored skip.Broken → HasFailed story.waiting now.waiting ⊎ WasBroken sessions input.slot
    cause is = elim (taken.cause is) [
      | inl failed ↦ inl (record { waited = sym shows.waiting ∙ failed.waited; over = failed.over })
      | inr broken ↦
          let it = broken_at was.server sessions (input.slot - 1) shows.server broken.broken broken.there in
          inr (record { session = it.0; there = it.1; broken = it.2 })
    ]

    pub takes_now : IsNow (Takes input) story now
    takes_now = record {
      next = next_story;
      does = record {
        turn = last;
        site = now.site;
        waiting = now.waiting;
        is = refl;
        input_is = refl;
        is_turn = is_turn;
        journal = journal;
        block = taken.block ∙ ap (λ (m : SiteInMemory). m.block) shows.site;
        calm = taken.calm;
        still = λ e. sym shows.waiting ∙ taken.still e;
        cause = cause;
      };
      shows = record {
        client = taken.client ∙ shows.client;
        site = refl;
        waiting = refl;
        trace = taken.trace ∙ shows.trace;
        runs = taken.runs ∙ ap (λ (r : AllRuns). record r { run = r.run ++ exchange_of last ∷ [] }) shows.runs
            ∙ ap (λ (l : List Exchange). record { earlier = map exchanges_of story.earlier; run = l }) (sym (map-append exchange_of story.run (last ∷ [])));
        server = subst (StandsFor now.server) (sym (sessions_after-append [] story.run (last ∷ []))) (taken.stands sessions shows.server);
      };
      fed = λ fed. taken.fed;
    }

  pub delivers_now : (slot : ℕ) (peer : Peer) (bytes : List ℕ) (now : World) → slot ≤ 16 →
      HasTaken (record { slot = slot; peer = peer; bytes = bytes }) was now → IsNow (arriving slot peer (Some bytes)) story now
  delivers_now slot peer bytes now low taken =
      cond_both (nat_le slot 16) (Takes (record { slot = slot; peer = peer; bytes = bytes })) Stays (λ step. IsNow step story now)
      (λ is. takes_now (record { slot = slot; peer = peer; bytes = bytes }) now taken)
      (λ isnt. absurd (no_more slot low isnt))
    where
      no_more : (n : ℕ) → n ≤ 16 → nat_le n 16 ≡ false → ⊥
      no_more n low isnt = grind (arith, nat_tests)

  pub drops_now : (slot : ℕ) (peer : Peer) (bytes : List ℕ) (now : World) → 16 < slot → now ≡ was → IsNow (arriving slot peer (Some bytes)) story now
  drops_now slot peer bytes now high same =
      cond_both (nat_le slot 16) (Takes (record { slot = slot; peer = peer; bytes = bytes })) Stays (λ step. IsNow step story now)
      (λ is. absurd (no_more slot high is))
      (λ isnt. stays_now now same)
    where
      no_more : (n : ℕ) → 16 < n → nat_le n 16 ≡ true → ⊥
      no_more n high is = grind (arith, nat_tests)

  -- a server begins, and the site's next call will fail
  pub begins_now : (now : World) → now ≡ record was { server = []; runs = record { earlier = was.runs.earlier ++ was.runs.run ∷ []; run = [] } } → IsNow Begins story now
  begins_now now is = record {
    next = record story { earlier = story.earlier ++ story.run ∷ []; run = [] };
    does = refl;
    shows = subst (Shows (record story { earlier = story.earlier ++ story.run ∷ []; run = [] })) (sym is) (record {
      client = shows.client;
      site = shows.site;
      waiting = shows.waiting;
      trace = shows.trace;
      runs = ap (λ (r : AllRuns). record { earlier = r.earlier ++ r.run ∷ []; run = [] }) shows.runs
          ∙ ap (λ (l : List (List Exchange)). record { earlier = l; run = [] }) (sym (map-append exchanges_of story.earlier (story.run ∷ [])));
      server = tt;
    });
    fed = λ fed. fed;
  }

  pub fails_now : (now : World) → now ≡ record was { site = failing was.site; waiting = true } → IsNow WillFail story now
  fails_now now is = record {
    next = record story { site = failing story.site; waiting = true };
    does = refl;
    shows = subst (Shows (record story { site = failing story.site; waiting = true })) (sym is)
        (record { client = shows.client; site = ap failing shows.site; waiting = refl; trace = shows.trace; runs = shows.runs; server = shows.server });
    fed = λ fed. fed;
  }

pub on_ok : {T E : Type 0} (r : Result T E) (P Q : Type 0) → OnOk r P → (P → Q) → OnOk r Q
on_ok (Ok x) P Q p f = f p
on_ok (Err e) P Q p f = tt
