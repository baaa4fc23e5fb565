use Rattle.std.proofs.Common.{◌++◌, [], ◌∷◌, length, refl, sym, ◌∙◌, ap, arith}
use Rattle.fd_netserver.specs.Serving.{EndsBy, EndsDone, IsServedTo, finished_in}
use Rattle.fd_netserver.specs.Stands.{dones}
use Rattle.fd_netserver.specs.declared.limits.ServeFault.TheVariants.{TurnsSpent}
use Rattle.fd_netserver.proofs.Going.{ends_broken, passed, served_end, served_new, served_there}
use Rattle.fd_netserver.proofs.Pacing.{finished_in-append, going_paced, over_paced, spent_paced}
use Rattle.fd_netserver.proofs.serving.serve.Goals as goal

pub take_turn-requires-clause-there : goal.take_turn-requires-clause-there
take_turn-requires-clause-there g c = served_there _ _ _ _ _ c.loop-pace.invariant.happened c.loop-pace.invariant.served

pub loop-pace-init : goal.loop-pace-init
loop-pace-init g c = record {
  happened = [];
  served = served_new _ _ _ c.new-server.ensures;
  noted = ap length c.requires.empty ∙ sym (ap dones c.new-server.ensures);
  listed = c.requires.empty;
  paced = c.start-pace.ensures;
  frame = record { size = refl; block = refl; count = omega arith };
  count = omega arith;
}

pub loop-pace-preserved : goal.loop-pace-preserved
loop-pace-preserved g c =
    let i = c.loop-pace.invariant in
    let more = c.in_ok-take_turn.ensures.ok _ _ i.happened i.served in
    let listed = more.listed ∙ ap (λ l. l ++ finished_in (more.last ∷ [])) i.listed ∙ sym (finished_in-append i.happened (more.last ∷ [])) in
    record {
      happened = i.happened ++ more.last ∷ [];
      served = more.served;
      noted = c.in_ok-take_turn.ensures.noted;
      listed = listed;
      paced = c.next-pace.ensures.paced i.happened more.last i.paced (c.len.ensures.value ∙ ap length listed);
      frame = record {
        size = c.in_ok-take_turn.ensures.frame.size ∙ i.frame.size;
        block = c.in_ok-take_turn.ensures.frame.block ∙ i.frame.block;
        count = omega (arith, c.in_ok-take_turn.ensures.frame.count, i.frame.count);
      };
      count = omega (arith, c.in_ok-take_turn.ensures.count, i.count);
    }

pub returns-in_err-take_turn-clause-err : goal.returns-in_err-take_turn-clause-err
returns-in_err-take_turn-clause-err g c =
    let i = c.loop-pace.invariant in
    let why = c.in_err-take_turn.field-0.0 in
    passed c.from_residual.result why
    (λ e. IsServedTo (EndsBy c.args.limits e) (g.S.Site.seen c.args.site.now) (g.S.Site.seen c.take_turn.new.site)
    (g.P.Ports.seen c.args.ports.now).told (g.P.Ports.seen c.take_turn.new.ports).told c.take_turn.new.list.items)
    c.from_residual.ensures.1
    (ends_broken c.args.limits why _ _ _ _ i.happened _ (going_paced c.args.limits c.loop-pace.pace i.happened c.loop-pace-test.true i.paced)
    (c.in_err-take_turn.ensures.err _ _ i.happened i.served i.listed))

pub returns-then-pace-clause-err : goal.returns-then-pace-clause-err
returns-then-pace-clause-err g c =
    let i = c.loop-pace.invariant in
    let spent = spent_paced c.args.limits c.loop-pace.pace i.happened (omega arith) c.if-pace.true i.paced in
    served_end (EndsBy c.args.limits (TurnsSpent c.args.limits.turns)) _ _ _ _ _ i.happened _ i.served i.listed (refl, refl, spent)

pub returns-clause-ok : goal.returns-clause-ok
returns-clause-ok g c =
    let i = c.loop-pace.invariant in
    served_end (EndsDone c.args.limits) _ _ _ _ _ i.happened _ i.served i.listed (refl, over_paced c.args.limits c.loop-pace.pace i.happened (omega arith) c.if-pace.false i.paced)
