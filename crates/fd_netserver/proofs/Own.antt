-- Each answer acknowledges the number of its own datagram.
use Rattle.std.proofs.Common.{◌≡◌, inl, inr, ℕ, List, [], ◌∷◌, Some, None, sym, ◌∙◌, ap}
use Rattle.fd_netmsg.specs.Each.{Each}
use Rattle.fd_netmsg.specs.Message.{Message, message_of, ack}
use Rattle.fd_netserver.specs.Files.{Files, files_after}
use Rattle.fd_netserver.specs.Session.{Input, Session, Turn, after_reply}
use Rattle.fd_netserver.specs.Table.{Row, Skips, Repeats, Opens, Writes, Keeps, Ends, reply_of, row_of}
use Rattle.fd_netserver.specs.History.{IsTurn, IsServerRun, AreServerRuns, answer, entries_in, all_turns}
use Rattle.fd_netserver.proofs.Lists.{Each-behind}
use Rattle.fd_netserver.proofs.Rows.{FactsOf, facts_of}

pub record IsOwn (input : Input) (bytes : List ℕ) : Type 0 where
  pub m : Message
  pub is_read : message_of input.bytes ≡ Some m
  pub is : bytes ≡ ack m.seqno

abbrev pub AnswersOwn : Turn → Type 0
AnswersOwn t = (bytes : List ℕ) → answer t.reply ≡ Some bytes → IsOwn t.input bytes

its : (input : Input) (m : Message) (seqno : ℕ) (bytes : List ℕ) → message_of input.bytes ≡ Some m → seqno ≡ m.seqno → Some (ack seqno) ≡ Some bytes → IsOwn input bytes
its input m seqno bytes is_read seq is =
    let same : ack seqno ≡ bytes = by_some (ack seqno) bytes is in
    record { m = m; is_read = is_read; is = sym same ∙ ap ack seq }
  where
    by_some : (a b : List ℕ) → Some a ≡ Some b → a ≡ b
    by_some a b e = cc

own_row : (sessions : List Session) (files : Files) (input : Input) (row : Row) → FactsOf sessions files input row → (bytes : List ℕ) → answer (reply_of row) ≡ Some bytes → IsOwn input bytes
own_row sessions files input (Skips why) facts bytes is = absurd (cc)
own_row sessions files input (Repeats slot seqno) facts bytes is = its input facts.m seqno bytes facts.is_read facts.number is
own_row sessions files input (Opens slot seqno number) facts bytes is = its input facts.m seqno bytes facts.is_read facts.seq is
own_row sessions files input (Writes slot seqno number piece) facts bytes is = its input facts.m seqno bytes facts.is_read facts.seq is
own_row sessions files input (Keeps slot seqno) facts bytes is = its input facts.m seqno bytes facts.is_read facts.seq is
own_row sessions files input (Ends slot seqno number header parity) facts bytes is = its input facts.m seqno bytes facts.is_read facts.seq is

own_turn : (sessions : List Session) (files : Files) (t : Turn) → IsTurn sessions files t → AnswersOwn t
own_turn sessions files t is bytes answers =
    elim is [
      | inl done ↦ own_row sessions files t.input (row_of sessions files t.input) (facts_of sessions files t.input) bytes (ap answer (sym done.reply) ∙ answers)
      | inr broken ↦ let e : None ≡ Some bytes = ap answer (sym broken.reply) ∙ answers in absurd (cc)
    ]

own_run : (sessions : List Session) (files : Files) (ts : List Turn) → IsServerRun sessions files ts → Each AnswersOwn ts
own_run sessions files [] is = tt
own_run sessions files (t ∷ ts) is = (own_turn sessions files t is.0, own_run (after_reply sessions t.input t.reply) (files_after files t.entries) ts is.1)

pub own_runs : (files : Files) (runs : List (List Turn)) → AreServerRuns files runs → Each AnswersOwn (all_turns runs)
own_runs files [] are = tt
own_runs files (run ∷ runs) are = Each-behind AnswersOwn run (all_turns runs) (own_run [] files run are.0) (own_runs (files_after files (entries_in run)) runs are.1)
