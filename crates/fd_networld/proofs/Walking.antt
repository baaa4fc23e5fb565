-- The world of events is walked event by event.
use Rattle.std.proofs.Common.{◌≡◌, ℕ, zero, suc, ◌<◌, ◌≤◌, ◌^◌, List, [], ◌∷◌, ◌++◌, length, get_or, refl, subst, arith}
use Rattle.fd_kdh.specs.Header.{IsWithinFields}
use Rattle.fd_kdh.specs.declared.header.Header.{Header}
use Rattle.fd_netclient.specs.Datagram.{chunks}
use Rattle.fd_netclient.specs.Trace.{Patience}
use Rattle.fd_netmsg.specs.Each.{Each}
use Rattle.fd_networld.specs.Delivery.{IsSendable}
use Rattle.fd_networld.specs.Lawful.{IsWorldOf}
use Rattle.fd_networld.specs.Steps.{IsChunked}
use Rattle.fd_networld.specs.World.{Does, Follows, Shows, Story, beginning, step_of}
use Rattle.fd_networld.specs.declared.event.Event.{Event}
use Rattle.fd_networld.specs.declared.world.World.{World}
use Rattle.fd_networld.proofs.Lawful.{Holds, is_lawful, was_delivered}

module _ (dump : List ℕ) (h : Header) where
  pub follows_more : (was : Story) (events : List Event) (now : Story) (event : Event) (next : Story) → Follows dump h was events now → Does (step_of dump h now event) now next
      → Follows dump h was (events ++ event ∷ []) next
  follows_more was [] now event next follows does = (next, subst (λ (s : Story). Does (step_of dump h s event) s next) follows does, refl)
  follows_more was (e ∷ events) now event next follows does = (follows.0, follows.1, follows_more follows.0 events now event next follows.2 does)

pub each_at : {X : Type 0} (P : X → Type 0) (xs : List X) (i : ℕ) (d : X) → Each P xs → i < length xs → P (get_or xs i d)
each_at P [] i d all within = absurd (omega arith)
each_at P (x ∷ xs) zero d all within = all.0
each_at P (x ∷ xs) (suc i) d all within = each_at P xs i d all.1 (omega arith)

pub sendable : (dump : List ℕ) (h : Header) → IsWithinFields h → h.dumplength ≡ length dump → IsChunked dump → IsSendable dump h
sendable dump h within is chunked = record { within = within; dumplength = is; most = fits (length dump) chunked.most }
  where
    fits : (n : ℕ) → n ≤ 2 ^ 32 → n ≤ 2 ^ 42
    fits n le = omega arith

pub is_world : (dump : List ℕ) (h : Header) (patience : Patience) (events : List Event) (w : World) (story : Story) → IsSendable dump h → 1 ≤ patience.polls
    → Follows dump h (beginning (chunks dump) patience) events story → Holds dump h patience story → Shows story w → IsWorldOf dump h patience events w
is_world dump h patience events w story can some follows holds shows = record {
  story = story;
  follows = follows;
  shows = shows;
  lawful = is_lawful dump h patience some story holds;
  delivered = was_delivered dump h patience some story holds can;
}
