use Rattle.std.proofs.Common.{Err, ap}
use Rattle.fd_cli.proofs.Servings.{all_received, not_listening, ports_failed, serving_starved, turns_spent}
use Rattle.fd_cli.proofs.netdumpd.serve_dumps.Goals as goal

pub returns-in-Err : goal.returns-in-Err
returns-in-Err g c link = not_listening c.args.dumps _ link _ _ c.in-Err.ensures.err c.listen.ensures.count c.in-Err.ensures.cause

pub returns-in-Ok-serve : goal.returns-in-Ok-serve
returns-in-Ok-serve g c link =
    all_received c.args.dumps _ _ link _ _ _ c.serve.new.served.list.items _ c.in-Ok.ensures.ok c.listen.ensures.count c.in-Ok-serve.ensures.ok
    c.serve.ensures.frame c.serve.ensures.count c.reply_of.ensures

pub returns-in-Err-TurnsSpent : goal.returns-in-Err-TurnsSpent
returns-in-Err-TurnsSpent g c link =
    turns_spent c.args.dumps _ _ link _ _ _ c.serve.new.served.list.items c.in-Err-TurnsSpent.field-0 c.in-Err-TurnsSpent.turns _
    c.in-Err-TurnsSpent.field-0-is c.in-Ok.ensures.ok c.listen.ensures.count c.in-Err-TurnsSpent.ensures.err c.serve.ensures.frame c.serve.ensures.count
    c.reply_of-in-Err-TurnsSpent.ensures

pub returns-in-Err-PortsFault : goal.returns-in-Err-PortsFault
returns-in-Err-PortsFault g c link =
    ports_failed c.args.dumps _ _ link _ _ _ c.serve.new.served.list.items c.in-Err-PortsFault.field-0 c.in-Err-PortsFault.field-0-is c.in-Ok.ensures.ok
    c.listen.ensures.count c.in-Err-PortsFault.ensures.err c.serve.ensures.frame c.serve.ensures.count
    (c.in-Err-PortsFault.ensures.cause (ap (λ f. Err f) c.in-Err-PortsFault.field-0-is))

pub returns-in-Err-NoMemory : goal.returns-in-Err-NoMemory
returns-in-Err-NoMemory g c link =
    serving_starved c.args.dumps _ _ link _ _ _ c.serve.new.served.list.items c.in-Err-NoMemory.field-0 c.in-Err-NoMemory.field-0-is c.in-Ok.ensures.ok
    c.listen.ensures.count c.in-Err-NoMemory.ensures.err c.serve.ensures.frame c.serve.ensures.count
