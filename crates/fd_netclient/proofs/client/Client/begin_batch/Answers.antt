use Rattle.std.proofs.Common.{ℕ, ◌+◌, List, drop, sym, ◌∙◌, ap, subst, arith}
use Rattle.fd_netclient.specs.Datagram.{batches}
use Rattle.fd_netclient.specs.Client.{HasAll, patience_of, settled, state_by}
use Rattle.fd_netclient.specs.Machine.{State, Standing}
use Rattle.fd_netclient.proofs.Batches.{batch_within}
use Rattle.fd_netclient.proofs.Running.{all_done, batch_begun, drop_none, drop_some, standing}
use Rattle.fd_netclient.proofs.client.Client.begin_batch.Goals as goal

pub invariant_of-self-in-Some : goal.invariant_of-self-in-Some
invariant_of-self-in-Some c =
    let i = c.self.inside in
    let within = batch_within i.chunks (i.batch + 1) c.in-Some.next (sym c.batch_at.ensures ∙ c.in-Some.is) in
    (c.self.invariant.0, omega (arith, within))

pub returns-in-None : goal.returns-in-None
returns-in-None c =
    let i = c.self.inside in
    let later = drop (i.batch + 1) (batches i.chunks) in
    let all = subst (λ (v : Standing). HasAll v.state) (sym c.self.view_is) c.requires in
    let none = drop_none (batches i.chunks) (i.batch + 1) (sym c.batch_at.ensures ∙ c.in-None.is) in
    ap (λ (s : State). standing i.chunks (patience_of i.limits) s) (all_done (patience_of i.limits) i.session i.unsent i.unacknowledged i.ending i.polls i.rounds later all none)
    ∙ ap (λ (v : Standing). standing v.count v.patience (settled v.patience v.state)) c.self.view_is

pub returns-in-Some : goal.returns-in-Some
returns-in-Some c =
    let i = c.self.inside in
    let next = c.in-Some.next in
    let later = drop (i.batch + 1) (batches i.chunks) in
    let further = drop (i.batch + 1 + 1) (batches i.chunks) in
    let all = subst (λ (v : Standing). HasAll v.state) (sym c.self.view_is) c.requires in
    let some = drop_some (batches i.chunks) (i.batch + 1) next (sym c.batch_at.ensures ∙ c.in-Some.is) in
    ap (λ (unsent : List ℕ). standing i.chunks (patience_of i.limits) (state_by i.ending i.session unsent next i.limits.polls i.limits.retries further)) c.copied-self-inside.ensures
    ∙ ap (λ (s : State). standing i.chunks (patience_of i.limits) s)
    (batch_begun (patience_of i.limits) i.session i.unsent i.unacknowledged i.ending i.polls i.rounds later further next all some)
    ∙ ap (λ (v : Standing). standing v.count v.patience (settled v.patience v.state)) c.self.view_is
