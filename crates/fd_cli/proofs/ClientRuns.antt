-- What a `netdump` added, however it ended.
use Rattle.std.proofs.Common.{inl, inr, ℕ, List, [], Result, Ok, Err, sym, ap, subst}
use Rattle.std.proofs.lemmas.List.{append-nil}
use Rattle.fd_site.specs.Seen.{Seen}
use Rattle.fd_site.specs.Trace.{LinkEvent}
use Rattle.fd_image.specs.Image.{MachineImage}
use Rattle.fd_imgfile.specs.declared.fault.ImageFault.{ImageFault}
use Rattle.fd_imgfile.specs.declared.fault.ImageFault.TheVariants as image
use Rattle.fd_kdh.specs.declared.header.Header.{Header}
use Rattle.fd_netclient.specs.Trace.{IsClientRun, IsComplete, Outcome, Patience}
use Rattle.fd_cli.specs.Laws.{IsRunAlways, MayHaveRun}
use Rattle.fd_cli.specs.Row.{Added, Work}
use Rattle.fd_cli.specs.Rows.Dump.{IsGiven, OnImage}
use Rattle.fd_cli.specs.Rows.Netdump.{MayHaveBegunToSend, Sends}
use Rattle.fd_words.specs.declared.source.Source.{Source}

-- a whole trace is a run
whole_run : (dump : List ℕ) (h : Header) (patience : Patience) (trace : List LinkEvent) (outcome : Outcome) → IsComplete dump h patience trace outcome
    → IsClientRun dump h patience trace
whole_run dump h patience trace outcome whole = record {
  rest = [];
  outcome = outcome;
  complete = subst (λ t. IsComplete dump h patience t outcome) (sym (append-nil trace)) whole;
}

by_sending : (source : Source) (server : ℕ) (found : Seen) (m : MachineImage) (w : Work) → IsGiven source found (Ok m) → Sends server m w
    → MayHaveRun source server found w.added
by_sending source server found m w given (inl sent) =
    inr (m, given, (sent.trace, whole_run _ _ _ sent.trace _ sent.whole, ap (λ x. x.added) sent.is))
by_sending source server found m w given (inr unanswered) =
    inr (m, given, (unanswered.trace, whole_run _ _ _ unanswered.trace _ unanswered.whole, ap (λ x. x.added) unanswered.is))

by_given : (source : Source) (server : ℕ) (found : Seen) (w : Work) (given : Result MachineImage ImageFault) → IsGiven source found given
    → OnImage (Sends server) given w → MayHaveRun source server found w.added
by_given source server found w (Ok m) given does = by_sending source server found m w given does
by_given source server found w (Err image.NoFile) given does = inl (ap (λ x. x.added) does)
by_given source server found w (Err (image.NotImage place)) given does = inl (ap (λ x. x.added) does)
by_given source server found w (Err (image.BadImage bad)) given does = inl (ap (λ x. x.added) does)
by_given source server found w (Err image.SiteFault) given does = absurd does
by_given source server found w (Err image.NoMemory) given does = absurd does

by_left : (source : Source) (server : ℕ) (found : Seen) (added : Added) → MayHaveBegunToSend source server found added → MayHaveRun source server found added
by_left source server found added (inl none) = inl none
by_left source server found added (inr begun) = inr (begun.0, begun.1, (begun.2.trace, begun.2.unfinished.run, begun.2.is))

pub is_run_always : (source : Source) (server : ℕ) → IsRunAlways source server
is_run_always source server = record {
  whole = λ found w does. by_given source server found w does.0 does.1 does.2;
  left = λ found added left. by_left source server found added left;
  starved = λ found added none. inl none;
}
