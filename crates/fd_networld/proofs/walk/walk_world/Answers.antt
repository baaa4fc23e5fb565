-- Each event makes one step more; and where all came, the world is theirs.
use Rattle.std.proofs.Common.{◌≡◌, ◌+◌, ◌<◌, ◌++◌, ◌∷◌, [], List, length, take, sym, ◌∙◌, ap, subst, arith}
use Rattle.std.proofs.lemmas.List.{take_more, take_all}
use Rattle.fd_netclient.specs.Client.{patience_of}
use Rattle.fd_netclient.specs.Datagram.{chunks}
use Rattle.fd_networld.specs.World.{Follows, IsForeign, beginning}
use Rattle.fd_networld.specs.declared.event.Event.{Event}
use Rattle.fd_networld.proofs.Lawful.{holds_next}
use Rattle.fd_networld.proofs.There.{files_there}
use Rattle.fd_networld.proofs.Walking.{each_at, follows_more, is_world, sendable}
use Rattle.fd_networld.proofs.walk.walk_world.Goals as goal

pub step-requires-clause-there : goal.step-requires-clause-there
step-requires-clause-there c =
    let i = c.loop-event.invariant in
    files_there i.story c.loop-event.world i.holds.runs i.holds.contents i.shows

pub loop-event-preserved : goal.loop-event-preserved
loop-event-preserved c =
    let i = c.loop-event.invariant in
    let e : Event = c.event-item.result in
    let index = c.loop-event.event-index in
    let within : index < length c.args.events.now = c.loop-event-test.true in
    let now = c.in_ok-step.ensures.now i.story i.shows in
    let foreign : IsForeign e = subst IsForeign (sym c.event-item.is) (each_at IsForeign c.args.events.now index e c.requires.foreign within) in
    let more : take (index + 1) c.args.events.now ≡ take index c.args.events.now ++ e ∷ [] =
    take_more c.args.events.now index e within ∙ ap (λ (x : Event). take index c.args.events.now ++ x ∷ []) (sym c.event-item.is) in
    record {
      story = now.next;
      follows = subst (λ (l : List Event). Follows c.args.dump.now c.args.header.now (beginning (chunks c.args.dump.now) (patience_of c.args.limits)) l now.next) (sym more)
          (follows_more c.args.dump.now c.args.header.now (beginning (chunks c.args.dump.now) (patience_of c.args.limits)) (take index c.args.events.now) i.story e now.next i.follows now.does);
      holds = holds_next c.args.dump.now c.args.header.now (patience_of c.args.limits) i.story i.holds e foreign now.next now.does;
      shows = now.shows;
      fed = now.fed i.fed;
    }

pub returns-clause-world : goal.returns-clause-world
returns-clause-world c =
    let i = c.loop-event.invariant in
    let all : take c.loop-event.event-index c.args.events.now ≡ c.args.events.now = take_all _ _ (omega arith) in
    is_world c.args.dump.now c.args.header.now (patience_of c.args.limits) c.args.events.now c.loop-event.world i.story
    (sendable c.args.dump.now c.args.header.now c.is_within.ensures c.requires.dumplength c.requires.dump) c.requires.patient.some
    (subst (λ (l : List Event). Follows c.args.dump.now c.args.header.now (beginning (chunks c.args.dump.now) (patience_of c.args.limits)) l i.story) all i.follows)
    i.holds i.shows
