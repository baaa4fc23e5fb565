use Rattle.std.proofs.Common.{true, sym, ap, subst}
use Rattle.fd_fake.specs.MemSite.{SiteInMemory}
use Rattle.fd_site.specs.Trace.{Silent}
use Rattle.fd_networld.specs.Steps.{IsNow}
use Rattle.fd_networld.specs.World.{step_of}
use Rattle.fd_networld.specs.declared.event.Event.{Event}
use Rattle.fd_networld.specs.declared.world.World.{World}
use Rattle.fd_networld.proofs.Showing.{answers_now, fails_now, hears_now, on_ok, sends_now}
use Rattle.fd_networld.proofs.world.World.step.Goals as goal

pub returns-in-Send : goal.returns-in-Send
returns-in-Send c = record {
  now = λ story shows. on_ok c.send.result _ _ c.send.ensures
      (λ is. subst (λ (e : Event). IsNow (step_of c.args.dump.now c.args.header.now story e) story c.send.new.self) (sym c.in-Send.is)
      (sends_now story c.args.self.now shows c.args.dump.now c.args.header.now c.send.new.self is));
}

pub returns-in-ToClient : goal.returns-in-ToClient
returns-in-ToClient c = record {
  now = λ story shows. on_ok c.hear.result _ _ c.hear.ensures
      (λ is. subst (λ (e : Event). IsNow (step_of c.args.dump.now c.args.header.now story e) story c.hear.new.self) (sym c.in-ToClient.is)
      (answers_now story c.args.self.now shows c.in-ToClient.nth c.hear.new.self is));
}

pub returns-in-ClientSilent : goal.returns-in-ClientSilent
returns-in-ClientSilent c = record {
  now = λ story shows. on_ok c.hear_nothing.result _ _ c.hear_nothing.ensures
      (λ is. subst (λ (e : Event). IsNow (step_of c.args.dump.now c.args.header.now story e) story c.hear_nothing.new.self) (sym c.in-ClientSilent.is)
      (hears_now story c.args.self.now shows Silent c.hear_nothing.new.self is));
}

pub returns-in-SiteFails : goal.returns-in-SiteFails
returns-in-SiteFails c =
    let now : World = record c.args.self.now { site = c.fail_next.new.self; waiting = true } in
    record {
      now = λ story shows. subst (λ (e : Event). IsNow (step_of c.args.dump.now c.args.header.now story e) story now) (sym c.in-SiteFails.is)
          (fails_now story c.args.self.now shows now (ap (λ (m : SiteInMemory). record c.args.self.now { site = m; waiting = true }) c.fail_next.ensures));
    }
