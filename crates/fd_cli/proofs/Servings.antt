-- The work of `netdumpd`, by its functions' outcomes.
use Rattle.std.proofs.Common.{◌≡◌, ◌⊎◌, inl, inr, ℕ, ◌≤◌, Bool, true, false, IsTrue, List, [], ◌∷◌, Option, Some, None, Ok, Err}
use Rattle.std.proofs.Common.{refl, ◌∙◌, ap, subst, arith}
use Rattle.fd_site.specs.Fault.{Rose}
use Rattle.fd_site.specs.Seen.{Frame, Seen, Watched}
use Rattle.fd_site.specs.Trace.{LinkEvent, Listening, PortsEvent, grown}
use Rattle.fd_site.proofs.Told.{grown-append, grown-nil, with_entries-nil}
use Rattle.fd_netserver.specs.History.{NoneBroken, entries_in}
use Rattle.fd_netserver.specs.Serving.{EndsBy, EndsDone, IsServedTo, IsUnbroken, turns_in}
use Rattle.fd_netserver.specs.Session.{Turn}
use Rattle.fd_netserver.specs.declared.limits.Received.{Received}
use Rattle.fd_netserver.specs.declared.limits.ServeFault.{ServeFault}
use Rattle.fd_netserver.specs.declared.limits.ServeFault.TheVariants as serve
use Rattle.fd_cli.specs.Reply.{IsReplyOf, Worked}
use Rattle.fd_cli.specs.Row.{Added, Grew, Kept, nothing, reach}
use Rattle.fd_cli.specs.Rows.Netdumpd.{Ending, Serves, limits_of, netdumpd_row, the_ports}
use Rattle.fd_cli.specs.declared.answer.Answer.TheVariants as answers
use Rattle.fd_cli.specs.declared.reply.Reply.{Reply}
use Rattle.fd_cli.specs.declared.reply.Trouble.TheVariants.{Fault, NoMemory}
use Rattle.fd_cli.proofs.Calls.{none_spared}

stays : (n : ℕ) → n ≤ n
stays n = omega arith

-- what ports have that listened
listened_and : (old listening new : Option (List PortsEvent)) (events : List PortsEvent) → listening ≡ grown old (Listening ∷ [])
    → new ≡ grown listening events → new ≡ grown old (Listening ∷ events)
listened_and old listening new events first then = then ∙ ap (λ t. grown t events) first ∙ grown-append old (Listening ∷ []) events

-- whether a fault of the site was spared
was_spared : (was now : ℕ) (happened : List (Option Turn)) → IsUnbroken was now happened
    → (spared : Bool) × (NoneBroken (turns_in happened) ⊎ IsTrue spared) × (IsTrue spared → Rose was now)
was_spared was now happened (inl none) = (false, inl none, none_spared)
was_spared was now happened (inr rose) = (true, inr refl, λ is. rose)

-- what serving added
pub record Served (ends : Ending) (old new : Seen) (link : Watched LinkEvent) (ports after : Watched PortsEvent) (sessions : List Received) : Type 0 where
  pub added : Added
  pub serves : Serves ends old sessions added
  pub grew : Grew (reach old link ports) (reach new link after) added

pub served : (ends : Ending) (old new : Seen) (link : Watched LinkEvent) (ports listening after : Watched PortsEvent) (sessions : List Received)
    → listening.told ≡ grown ports.told (Listening ∷ []) → IsServedTo ends old new listening.told after.told sessions
    → Served ends old new link ports after sessions
served ends old new link ports listening after sessions first done =
    let spared = was_spared old.faults new.faults done.happened done.unbroken in
    record {
      added = record { entries = entries_in (turns_in done.happened); trace = []; served = Listening ∷ done.events; spared = spared.0 };
      serves = record {
        happened = done.happened;
        events = done.events;
        spared = spared.0;
        run = done.run;
        unbroken = spared.1;
        finished = done.listed;
        ended = done.ended;
        is = refl;
      };
      grew = record {
        site = done.entries;
        link = grown-nil link.told;
        ports = listened_and ports.told listening.told after.told done.events first done.given;
        spared = spared.2;
      };
    }

-- what is kept
kept : (old new : Seen) (link : Watched LinkEvent) (ports after : Watched PortsEvent) → Frame old new → ports.faults ≤ after.faults
    → Kept the_ports (reach old link ports) (reach new link after)
kept old new link ports after frame count = record {
  site = frame;
  link = stays link.faults;
  ports = count;
  quiet_site = tt;
  quiet_link = refl;
  quiet_ports = tt;
}

same_frame : (old : Seen) → Frame old old
same_frame old = record { size = refl; block = refl; count = stays old.faults }

counts : (a b c : ℕ) → a ≤ b → b ≤ c → a ≤ c
counts a b c low high = omega (arith, low, high)

-- a rise stays one
rises : (a b c : ℕ) → a ≤ b → Rose b c → Rose a c
rises a b c low rose = omega (arith, low, rose)

-- all dumps were received
pub all_received : (dumps : ℕ) (old new : Seen) (link : Watched LinkEvent) (ports listening after : Watched PortsEvent) (sessions : List Received) (reply : Reply)
    → listening.told ≡ grown ports.told (Listening ∷ []) → ports.faults ≤ listening.faults
    → IsServedTo (EndsDone (limits_of dumps)) old new listening.told after.told sessions → Frame old new → listening.faults ≤ after.faults
    → IsReplyOf (answers.Received sessions None) reply
    → Worked (netdumpd_row dumps) (reach old link ports) (reach new link after) (Ok reply)
all_received dumps old new link ports listening after sessions reply first low done frame high is =
    let s = served (EndsDone (limits_of dumps)) old new link ports listening after sessions first done in
    record {
      works = record {
        work = record { answer = answers.Received sessions None; added = s.added };
        does = inl (record { sessions = sessions; serves = s.serves; answer = refl });
        grew = s.grew;
        is = is;
      };
      kept = kept old new link ports after frame (counts _ _ _ low high);
      cause = λ fault. absurd (cc);
    }

-- the turns were spent
pub turns_spent : (dumps : ℕ) (old new : Seen) (link : Watched LinkEvent) (ports listening after : Watched PortsEvent) (sessions : List Received)
    (fault : ServeFault) (turns : ℕ) (reply : Reply) → fault ≡ serve.TurnsSpent turns → listening.told ≡ grown ports.told (Listening ∷ []) → ports.faults ≤ listening.faults
    → IsServedTo (EndsBy (limits_of dumps) fault) old new listening.told after.told sessions → Frame old new
    → listening.faults ≤ after.faults → IsReplyOf (answers.Received sessions (Some turns)) reply
    → Worked (netdumpd_row dumps) (reach old link ports) (reach new link after) (Ok reply)
turns_spent dumps old new link ports listening after sessions fault turns reply fault_is first low done frame high is =
    let s = served (EndsBy (limits_of dumps) (serve.TurnsSpent turns)) old new link ports listening after sessions first
    (subst (λ f. IsServedTo (EndsBy (limits_of dumps) f) old new listening.told after.told sessions) fault_is done) in
    record {
      works = record {
        work = record { answer = answers.Received sessions (Some turns); added = s.added };
        does = inr (record { sessions = sessions; turns = turns; serves = s.serves; answer = refl });
        grew = s.grew;
        is = is;
      };
      kept = kept old new link ports after frame (counts _ _ _ low high);
      cause = λ fault. absurd (cc);
    }

-- the ports didn't listen, or failed later
pub not_listening : (dumps : ℕ) (old : Seen) (link : Watched LinkEvent) (ports after : Watched PortsEvent) → after.told ≡ ports.told
    → ports.faults ≤ after.faults → Rose ports.faults after.faults → Worked (netdumpd_row dumps) (reach old link ports) (reach old link after) (Err Fault)
not_listening dumps old link ports after same count rose = record {
  works = record {
    added = nothing;
    leaves = inl refl;
    grew = record { site = with_entries-nil old.told; link = grown-nil link.told; ports = same ∙ grown-nil ports.told; spared = none_spared };
  };
  kept = kept old old link ports after (same_frame old) count;
  cause = λ fault. inr (inr (refl, rose));
}

pub ports_failed : (dumps : ℕ) (old new : Seen) (link : Watched LinkEvent) (ports listening after : Watched PortsEvent) (sessions : List Received)
    (fault : ServeFault) → fault ≡ serve.PortsFault → listening.told ≡ grown ports.told (Listening ∷ []) → ports.faults ≤ listening.faults
    → IsServedTo (EndsBy (limits_of dumps) fault) old new listening.told after.told sessions → Frame old new → listening.faults ≤ after.faults
    → Rose listening.faults after.faults → Worked (netdumpd_row dumps) (reach old link ports) (reach new link after) (Err Fault)
ports_failed dumps old new link ports listening after sessions fault fault_is first low done frame high rose =
    let s = served (EndsBy (limits_of dumps) serve.PortsFault) old new link ports listening after sessions first
    (subst (λ f. IsServedTo (EndsBy (limits_of dumps) f) old new listening.told after.told sessions) fault_is done) in
    record {
      works = record { added = s.added; leaves = inr (sessions, s.serves); grew = s.grew };
      kept = kept old new link ports after frame (counts _ _ _ low high);
      cause = λ fault. inr (inr (refl, rises _ _ _ low rose));
    }

-- no memory was found
pub serving_starved : (dumps : ℕ) (old new : Seen) (link : Watched LinkEvent) (ports listening after : Watched PortsEvent) (sessions : List Received)
    (fault : ServeFault) → fault ≡ serve.NoMemory → listening.told ≡ grown ports.told (Listening ∷ []) → ports.faults ≤ listening.faults
    → IsServedTo (EndsBy (limits_of dumps) fault) old new listening.told after.told sessions → Frame old new → listening.faults ≤ after.faults
    → Worked (netdumpd_row dumps) (reach old link ports) (reach new link after) (Err NoMemory)
serving_starved dumps old new link ports listening after sessions fault fault_is first low done frame high =
    let s = served (EndsBy (limits_of dumps) serve.NoMemory) old new link ports listening after sessions first
    (subst (λ f. IsServedTo (EndsBy (limits_of dumps) f) old new listening.told after.told sessions) fault_is done) in
    record {
      works = record { added = s.added; starves = inr (sessions, s.serves); grew = s.grew };
      kept = kept old new link ports after frame (counts _ _ _ low high);
      cause = λ fault. absurd (cc);
    }
