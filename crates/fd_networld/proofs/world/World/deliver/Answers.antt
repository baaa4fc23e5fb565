use Rattle.fd_networld.proofs.Showing.{delivers_now, on_ok}
use Rattle.fd_networld.proofs.world.World.deliver.Goals as goal

pub returns : goal.returns
returns c = record {
  now = λ story shows. on_ok c.take.result _ _ c.take.ensures.taken (delivers_now story c.args.self.now shows c.args.slot c.args.peer c.args.bytes.items c.take.new.self c.if-slot-gt-LAST_SLOT.false);
}
