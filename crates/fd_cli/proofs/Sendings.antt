-- The work of `netdump`, by its functions' outcomes.
use Rattle.std.proofs.Common.{◌≡◌, inl, inr, ℕ, ◌+◌, ◌≤◌, false, List, [], ◌∷◌, length, Option, Result, Ok, Err, IsErr, IsErrOf}
use Rattle.std.proofs.Common.{refl, sym, ◌∙◌, ap, subst, arith}
use Rattle.std.specs.Result.{IsErrAnd}
use Rattle.fd_site.specs.Fault.{Rose}
use Rattle.fd_site.specs.Seen.{Seen, Untouched, Watched}
use Rattle.fd_site.specs.Trace.{LinkEvent, Opening, PortsEvent, grown}
use Rattle.fd_site.specs.declared.fault.Failed.{Failed}
use Rattle.fd_site.proofs.Told.{grown-append, grown-nil, with_entries-nil}
use Rattle.fd_image.specs.Image.{MachineImage}
use Rattle.fd_imgfile.specs.declared.fault.ImageFault.{ImageFault}
use Rattle.fd_imgfile.specs.declared.fault.ImageFault.TheVariants as image
use Rattle.fd_dump.specs.Header.{header_of}
use Rattle.fd_dump.specs.Minidump.{minidump_of}
use Rattle.fd_netclient.specs.Client.{patience_of}
use Rattle.fd_netclient.specs.Datagram.{chunks}
use Rattle.fd_netclient.specs.Sending.{Grows, IsSending, IsUnfinished}
use Rattle.fd_netclient.specs.Trace.{IsComplete, TimedOut}
use Rattle.fd_netclient.specs.declared.fault.ClientFault.{ClientFault}
use Rattle.fd_netclient.specs.declared.fault.ClientFault.TheVariants as client
use Rattle.fd_netclient.specs.declared.limits.Limits.{Limits}
use Rattle.fd_cli.specs.Ending.{answer_status, answer_text}
use Rattle.fd_cli.specs.Reply.{IsReplyOf, Worked, text_bytes}
use Rattle.fd_cli.specs.Row.{Kept, Work, nothing, on_link, reach}
use Rattle.fd_cli.specs.Rows.Dump.{ByImage, IsGiven, OnImage, RefusesImage}
use Rattle.fd_cli.specs.Rows.Netdump.{LinkLeaves, LinkReplies, Sends, SendsOnLink, netdump_row, the_site_and_link}
use Rattle.fd_cli.specs.declared.answer.Answer.{Answer}
use Rattle.fd_cli.specs.declared.answer.Answer.TheVariants.{Refused, Sent}
use Rattle.fd_cli.specs.declared.refusal.Refusal.TheVariants.{NoAnswer}
use Rattle.fd_cli.specs.declared.reply.Reply.{Reply}
use Rattle.fd_cli.specs.declared.reply.Trouble.{Trouble}
use Rattle.fd_cli.specs.declared.reply.Trouble.TheVariants.{Fault, NoMemory}
use Rattle.fd_words.specs.declared.source.Source.{Source}
use Rattle.fd_cli.proofs.Calls.{none_spared}

-- a reply by a line
replied : (answer : Answer) (reply : Reply) (bytes : List ℕ) → reply.status ≡ answer_status answer → text_bytes reply.text ≡ bytes → bytes ≡ answer_text answer
    → IsReplyOf answer reply
replied answer reply bytes status text is = record { status = status; text = text ∙ is }

-- what a link has that was opened
opened_and : (old opened new : Option (List LinkEvent)) (server : ℕ) (trace : List LinkEvent) → opened ≡ grown old (Opening server ∷ [])
    → new ≡ grown opened trace → new ≡ grown old (Opening server ∷ trace)
opened_and old opened new server trace first then = then ∙ ap (λ t. grown t trace) first ∙ grown-append old (Opening server ∷ []) trace

-- all was acknowledged
pub all_sent : (server : ℕ) (m : MachineImage) (limits : Limits) (old opened new : Option (List LinkEvent)) (len last : ℕ) (reply : Reply) (bytes : List ℕ)
    → limits ≡ record { retries = 10; polls = 2000 } → opened ≡ grown old (Opening server ∷ [])
    → Grows (IsSending (minidump_of m) (header_of m 512) (patience_of limits) (Ok last)) opened new → len ≡ length (minidump_of m)
    → reply.status ≡ 0 → text_bytes reply.text ≡ bytes → bytes ≡ answer_text (Sent len last) → LinkReplies server m old new reply
all_sent server m limits old opened new len last reply bytes limits_are opened_is grows len_is status text is =
    let sending = subst (λ (l : Limits). IsSending (minidump_of m) (header_of m 512) (patience_of l) (Ok last) grows.0) limits_are grows.1 in
    record {
      answer = Sent (length (minidump_of m)) (chunks (minidump_of m) + 3);
      events = Opening server ∷ grows.0;
      sends = inl (record { trace = grows.0; whole = sending.1; is = refl });
      told = opened_and old opened new server grows.0 opened_is grows.2;
      is = subst (λ n. IsReplyOf (Sent n (chunks (minidump_of m) + 3)) reply) len_is
          (subst (λ n. IsReplyOf (Sent len n) reply) sending.0 (replied (Sent len last) reply bytes status text is));
    }

-- a number wasn't
pub none_answered : (server : ℕ) (m : MachineImage) (limits : Limits) (old opened new : Option (List LinkEvent)) (fault : ClientFault) (number : ℕ)
    (reply : Reply) (bytes : List ℕ) → fault ≡ client.TimedOut number → limits ≡ record { retries = 10; polls = 2000 } → opened ≡ grown old (Opening server ∷ [])
    → Grows (IsSending (minidump_of m) (header_of m 512) (patience_of limits) (Err fault)) opened new
    → reply.status ≡ 1 → text_bytes reply.text ≡ bytes → bytes ≡ answer_text (Refused (NoAnswer number)) → LinkReplies server m old new reply
none_answered server m limits old opened new fault number reply bytes fault_is limits_are opened_is grows status text is = record {
  answer = Refused (NoAnswer number);
  events = Opening server ∷ grows.0;
  sends = inr (record {
    trace = grows.0;
    number = number;
    whole = subst (λ (l : Limits). IsComplete (minidump_of m) (header_of m 512) (patience_of l) grows.0 (TimedOut number)) limits_are
        (subst (λ f. IsSending (minidump_of m) (header_of m 512) (patience_of limits) (Err f) grows.0) fault_is grows.1);
    is = refl;
  });
  told = opened_and old opened new server grows.0 opened_is grows.2;
  is = replied (Refused (NoAnswer number)) reply bytes status text is;
}

-- the link wasn't opened, or failed later
pub not_opened : (server : ℕ) (m : MachineImage) (old new : Option (List LinkEvent)) (result : Result Reply Failed) → IsErr result → new ≡ old
    → SendsOnLink server m old new result
not_opened server m old new (Ok reply) is same = absurd (cc)
not_opened server m old new (Err failed) is same = record { events = []; left = inl refl; told = same ∙ grown-nil old }

pub broken_off : (server : ℕ) (m : MachineImage) (limits : Limits) (old opened new : Option (List LinkEvent)) (fault : ClientFault)
    → fault ≡ client.LinkFault → limits ≡ record { retries = 10; polls = 2000 } → opened ≡ grown old (Opening server ∷ [])
    → Grows (IsSending (minidump_of m) (header_of m 512) (patience_of limits) (Err fault)) opened new → LinkLeaves server m old new
broken_off server m limits old opened new fault fault_is limits_are opened_is grows = record {
  events = Opening server ∷ grows.0;
  left = inr (record {
    trace = grows.0;
    unfinished = subst (λ (l : Limits). IsUnfinished (minidump_of m) (header_of m 512) (patience_of l) grows.0) limits_are
        (subst (λ f. IsSending (minidump_of m) (header_of m 512) (patience_of limits) (Err f) grows.0) fault_is grows.1);
    is = refl;
  });
  told = opened_and old opened new server grows.0 opened_is grows.2;
}

-- what an image's reading refuses, whatever would be done with an image
pub refuses_all : (P : MachineImage → Work → Type 0) (found : Seen) (fault : ImageFault) (w : Work) → ByImage false found (Err fault) w → OnImage P (Err fault) w
refuses_all P found image.NoFile w is = is
refuses_all P found (image.NotImage place) w is = is
refuses_all P found (image.BadImage bad) w is = is
refuses_all P found image.SiteFault w is = absurd is
refuses_all P found image.NoMemory w is = absurd is

stays : (n : ℕ) → n ≤ n
stays n = omega arith

-- what is kept where the site was only read
kept : (old new : Seen) (link after : Watched LinkEvent) (ports : Watched PortsEvent) → Untouched old new → link.faults ≤ after.faults
    → Kept the_site_and_link (reach old link ports) (reach new after ports)
kept old new link after ports same count = record {
  site = record { size = same.size; block = same.block; count = same.count };
  link = count;
  ports = stays ports.faults;
  quiet_site = tt;
  quiet_link = tt;
  quiet_ports = refl;
}

-- no image was given
pub image_not_sent : (old new : Seen) (link : Watched LinkEvent) (ports : Watched PortsEvent) (source : Source) (server : ℕ) (fault : ImageFault)
    (result : Result Reply Trouble) → IsGiven source old (Err fault) → RefusesImage fault result → Untouched old new
    → (IsErrOf result Fault → fault ≡ image.SiteFault) → (IsErrOf {T = MachineImage} {E = ImageFault} (Err fault) image.SiteFault → Rose old.faults new.faults)
    → Worked (netdump_row source server) (reach old link ports) (reach new link ports) result
image_not_sent old new link ports source server fault (Ok reply) given is same cause rose = record {
  works = record {
    work = record { answer = is.0; added = nothing };
    does = (Err fault, given, refuses_all (Sends server) old fault _ (is.1 old));
    grew = record { site = same.told ∙ with_entries-nil old.told; link = grown-nil link.told; ports = grown-nil ports.told; spared = none_spared };
    is = is.2;
  };
  kept = kept old new link link ports same (stays link.faults);
  cause = λ fault_is. inl (refl, rose (ap (λ f. Err f) (cause fault_is)));
}
image_not_sent old new link ports source server fault (Err Fault) given is same cause rose = record {
  works = record {
    added = nothing;
    leaves = inl refl;
    grew = record { site = same.told ∙ with_entries-nil old.told; link = grown-nil link.told; ports = grown-nil ports.told; spared = none_spared };
  };
  kept = kept old new link link ports same (stays link.faults);
  cause = λ fault_is. inl (refl, rose (ap (λ f. Err f) (cause fault_is)));
}
image_not_sent old new link ports source server fault (Err NoMemory) given is same cause rose = record {
  works = record {
    added = nothing;
    starves = refl;
    grew = record { site = same.told ∙ with_entries-nil old.told; link = grown-nil link.told; ports = grown-nil ports.told; spared = none_spared };
  };
  kept = kept old new link link ports same (stays link.faults);
  cause = λ fault_is. inl (refl, rose (ap (λ f. Err f) (cause fault_is)));
}

-- an image was sent, or wasn't answered
pub image_sent : (old new : Seen) (link after : Watched LinkEvent) (ports : Watched PortsEvent) (source : Source) (server : ℕ) (m : MachineImage) (reply : Reply)
    → IsGiven source old (Ok m) → Untouched old new → LinkReplies server m link.told after.told reply → link.faults ≤ after.faults
    → Worked (netdump_row source server) (reach old link ports) (reach new after ports) (Ok reply)
image_sent old new link after ports source server m reply given same replies count = record {
  works = record {
    work = record { answer = replies.answer; added = on_link replies.events };
    does = (Ok m, given, replies.sends);
    grew = record { site = same.told ∙ with_entries-nil old.told; link = replies.told; ports = grown-nil ports.told; spared = none_spared };
    is = replies.is;
  };
  kept = kept old new link after ports same count;
  cause = λ fault_is. absurd (cc);
}

-- the link failed
pub image_unsent : (old new : Seen) (link after : Watched LinkEvent) (ports : Watched PortsEvent) (source : Source) (server : ℕ) (m : MachineImage)
    → IsGiven source old (Ok m) → Untouched old new → LinkLeaves server m link.told after.told → link.faults ≤ after.faults → Rose link.faults after.faults
    → Worked (netdump_row source server) (reach old link ports) (reach new after ports) (Err Fault)
image_unsent old new link after ports source server m given same leaves count rose = record {
  works = record {
    added = on_link leaves.events;
    leaves = elim leaves.left [ inl none ↦ inl (ap on_link none) | inr begun ↦ inr (m, given, begun) ];
    grew = record { site = same.told ∙ with_entries-nil old.told; link = leaves.told; ports = grown-nil ports.told; spared = none_spared };
  };
  kept = kept old new link after ports same count;
  cause = λ fault_is. inr (inl (refl, rose));
}

-- no memory was found for its plan
pub plan_starved : (old new : Seen) (link : Watched LinkEvent) (ports : Watched PortsEvent) (source : Source) (server : ℕ) (result : Result Reply Trouble)
    → IsErrAnd result (λ trouble. trouble ≡ NoMemory) → Untouched old new → Worked (netdump_row source server) (reach old link ports) (reach new link ports) result
plan_starved old new link ports source server (Ok reply) is same = absurd is
plan_starved old new link ports source server (Err trouble) is same =
    subst (λ t. Worked (netdump_row source server) (reach old link ports) (reach new link ports) (Err t)) (sym is) (record {
      works = record {
        added = nothing;
        starves = refl;
        grew = record { site = same.told ∙ with_entries-nil old.told; link = grown-nil link.told; ports = grown-nil ports.told; spared = none_spared };
      };
      kept = kept old new link link ports same (stays link.faults);
      cause = λ fault_is. absurd (cc);
    })
