-- What was sent stays sent, whatever comes behind it; so nothing is forged in a world that goes on.
use Rattle.std.proofs.Common.{◌≡◌, ◌==◌, true, inl, inr, ℕ, zero, suc, List, [], ◌∷◌, ◌++◌, map, Some, slice_get, refl, sym, ◌∙◌, ap, append_assoc}
use Rattle.std.proofs.lemmas.Bool.{and_parts, eqb-true}
use Rattle.std.specs.List.{filter_map, flat_map}
use Rattle.std.proofs.lemmas.List.{append-nil, map-append}
use Rattle.fd_netmsg.specs.Each.{Each, OneOf}
use Rattle.fd_netmsg.specs.Message.{ack}
use Rattle.fd_netserver.specs.History.{all_turns, answer}
use Rattle.fd_netserver.specs.Session.{Turn, same_peer}
use Rattle.fd_netserver.specs.declared.reply.Reply.{Reply}
use Rattle.fd_netserver.specs.declared.reply.Reply.TheVariants.{Opened, Ack, Finished, Ignored}
use Rattle.fd_netserver.proofs.Lists.{Each-behind}
use Rattle.fd_site.specs.Trace.{LinkEvent, Opening, Sent, Got, Silent}
use Rattle.fd_site.specs.declared.ports.Peer.{Peer}
use Rattle.fd_networld.specs.Delivery.{IsAnswer, IsCarried, IsSending, WasAnswered}
use Rattle.fd_networld.specs.Sent.{Exchange, all_answers, answer_to, answers_in, sent_in}
use Rattle.fd_networld.specs.World.{Story, exchange_of, exchanges_of, runs_of, served_in}
use Rattle.fd_networld.specs.declared.answer.Answer.{Answer}

pub same_peer-true : (a b : Peer) → same_peer a b ≡ true → a ≡ b
same_peer-true a b is =
    let parts = and_parts (a.address == b.address) (a.port == b.port) is in
    let address = eqb-true a.address b.address parts.0 in
    let port = eqb-true a.port b.port parts.1 in
    λ i. record { address = address i; port = port i }

one_before : {X : Type 0} (P : X → Type 0) (xs ys : List X) → OneOf P xs → OneOf P (xs ++ ys)
one_before P [] ys one = absurd one
one_before P (x ∷ xs) ys one = elim one [ inl here ↦ inl here | inr later ↦ inr (one_before P xs ys later) ]

-- a datagram that is found among those that were sent was sent
pub was_sent : (trace : List LinkEvent) (n : ℕ) (bytes : List ℕ) → slice_get (sent_in trace) n ≡ Some bytes → OneOf (IsSending bytes) trace
was_sent [] n bytes is = absurd (cc)
was_sent (Sent port sent ∷ trace) zero bytes is = inl (by_some bytes sent is)
  where
    by_some : (a b : List ℕ) → Some b ≡ Some a → a ≡ b
    by_some a b e = cc
was_sent (Sent port sent ∷ trace) (suc n) bytes is = inr (was_sent trace n bytes is)
was_sent (Got port got ∷ trace) n bytes is = inr (was_sent trace n bytes is)
was_sent (Opening server ∷ trace) n bytes is = inr (was_sent trace n bytes is)
was_sent (Silent ∷ trace) n bytes is = inr (was_sent trace n bytes is)

-- an answer that is found among those that were sent is one of a turn
module _ (peer : Peer) (a : Answer) (to : a.peer ≡ peer) where
  abbrev IsIts : Turn → Type 0
  IsIts t = IsAnswer peer (ack a.seqno) t

  its : (t : Turn) (slot seqno : ℕ) → Some (record { peer = t.input.peer; slot = slot; seqno = seqno }) ≡ Some a → (a.peer ≡ t.input.peer) × (a.seqno ≡ seqno)
  its t slot seqno e = (by_some _ _ e (λ (x : Answer). x.peer), by_some _ _ e (λ (x : Answer). x.seqno))
    where
      by_some : {B : Type 0} (x y : Answer) → Some x ≡ Some y → (f : Answer → B) → f y ≡ f x
      by_some x y e f = let same : y ≡ x = cc in ap f same

  abbrev Later : List Turn → Type 0
  Later ts = (m : ℕ) → slice_get (answers_in (exchanges_of ts)) m ≡ Some a → OneOf IsIts ts

  by_place : (t : Turn) (ts : List Turn) (slot seqno : ℕ) → answer t.reply ≡ Some (ack seqno) → Later ts
      → (n : ℕ) → slice_get (record { peer = t.input.peer; slot = slot; seqno = seqno } ∷ answers_in (exchanges_of ts)) n ≡ Some a → OneOf IsIts (t ∷ ts)
  by_place t ts slot seqno answered later zero e =
      let same = its t slot seqno e in
      inl (record { peer_is = sym same.0 ∙ to; is = answered ∙ ap (λ m. Some (ack m)) (sym same.1) })
  by_place t ts slot seqno answered later (suc n) e = inr (later n e)

  by_reply : (t : Turn) (ts : List Turn) (r : Reply) → t.reply ≡ r → Later ts
      → (n : ℕ) → slice_get (filter_map (λ (x : Exchange). answer_to x.input.peer x.reply) (record { input = t.input; reply = r } ∷ exchanges_of ts)) n ≡ Some a → OneOf IsIts (t ∷ ts)
  by_reply t ts (Opened slot seqno number) is later n e = by_place t ts slot seqno (ap answer is) later n e
  by_reply t ts (Ack slot seqno) is later n e = by_place t ts slot seqno (ap answer is) later n e
  by_reply t ts (Finished seqno slot number size) is later n e = by_place t ts slot seqno (ap answer is) later n e
  by_reply t ts (Ignored why) is later n e = inr (later n e)

  pub was_answered : (ts : List Turn) (n : ℕ) → slice_get (answers_in (exchanges_of ts)) n ≡ Some a → OneOf IsIts ts
  was_answered [] n is = absurd (cc)
  was_answered (t ∷ ts) n is = by_reply t ts t.reply refl (was_answered ts) n is

-- the answers of all servers are those of all their turns
all_exchanges : (earlier : List (List Turn)) (run : List Turn) → flat_map (λ (r : List Exchange). r) (map exchanges_of earlier) ++ exchanges_of run ≡ exchanges_of (all_turns (earlier ++ run ∷ []))
all_exchanges [] run = ap exchanges_of (sym (append-nil run))
all_exchanges (r ∷ rs) run =
    append_assoc (exchanges_of r) (flat_map (λ (x : List Exchange). x) (map exchanges_of rs)) (exchanges_of run)
    ∙ ap (λ l. exchanges_of r ++ l) (all_exchanges rs run)
    ∙ sym (map-append exchange_of r (all_turns (rs ++ run ∷ [])))

pub answers_all : (story : Story) → all_answers (served_in story) ≡ answers_in (exchanges_of (all_turns (runs_of story)))
answers_all story = ap answers_in (all_exchanges story.earlier story.run)

-- nothing is forged after one turn more, and after one event more
still_answered : (peer : Peer) (turns more : List Turn) (e : LinkEvent) → WasAnswered peer turns e → WasAnswered peer (turns ++ more) e
still_answered peer turns more (Got port bytes) was = λ size. one_before (IsAnswer peer bytes) turns more (was size)
still_answered peer turns more (Opening server) was = tt
still_answered peer turns more (Sent port bytes) was = tt
still_answered peer turns more Silent was = tt

all_answered : (peer : Peer) (turns more : List Turn) (trace : List LinkEvent) → Each (WasAnswered peer turns) trace → Each (WasAnswered peer (turns ++ more)) trace
all_answered peer turns more [] was = tt
all_answered peer turns more (e ∷ trace) was = (still_answered peer turns more e was.0, all_answered peer turns more trace was.1)

abbrev WasSent : Peer → List LinkEvent → Turn → Type 0
WasSent peer trace t = t.input.peer ≡ peer → OneOf (IsSending t.input.bytes) trace

all_sent : (peer : Peer) (trace more : List LinkEvent) (turns : List Turn) → Each (WasSent peer trace) turns → Each (WasSent peer (trace ++ more)) turns
all_sent peer trace more [] was = tt
all_sent peer trace more (t ∷ ts) was = ((λ of. one_before (IsSending t.input.bytes) trace more (was.0 of)), all_sent peer trace more ts was.1)

pub carried_turn : (peer : Peer) (trace : List LinkEvent) (turns : List Turn) (t : Turn) → IsCarried peer trace turns → (t.input.peer ≡ peer → OneOf (IsSending t.input.bytes) trace)
    → IsCarried peer trace (turns ++ t ∷ [])
carried_turn peer trace turns t carried sent = record {
  answers = all_answered peer turns (t ∷ []) trace carried.answers;
  inputs = Each-behind (WasSent peer trace) turns (t ∷ []) carried.inputs (sent, tt);
}

pub carried_event : (peer : Peer) (trace : List LinkEvent) (turns : List Turn) (e : LinkEvent) → IsCarried peer trace turns → WasAnswered peer turns e → IsCarried peer (trace ++ e ∷ []) turns
carried_event peer trace turns e carried answered = record {
  answers = Each-behind (WasAnswered peer turns) trace (e ∷ []) carried.answers (answered, tt);
  inputs = all_sent peer trace (e ∷ []) turns carried.inputs;
}
