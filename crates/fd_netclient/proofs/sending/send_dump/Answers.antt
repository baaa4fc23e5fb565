-- Each step goes on along the client's run, and takes weight; each ending is one of the run.
use Rattle.std.proofs.Common.{◌≡◌, ◌+◌, List, Option, ◌∙◌, ap, subst, arith}
use Rattle.fd_site.specs.Trace.{LinkEvent}
use Rattle.fd_dump.specs.Header.{header_of}
use Rattle.fd_dump.specs.Minidump.{minidump_of}
use Rattle.fd_image.specs.Image.{MachineImage}
use Rattle.fd_netclient.specs.Datagram.{chunks}
use Rattle.fd_netclient.specs.Machine.{Standing}
use Rattle.fd_netclient.specs.Sending.{IsStep}
use Rattle.fd_netclient.proofs.UnderWay.{ends, goes_on, is_broken, is_done, is_out}
use Rattle.fd_netclient.proofs.sending.send_dump.Goals as goal

-- a step over datagrams of the same image
same_step : (m n : MachineImage) (old new : Option (List LinkEvent)) (was now : Standing) → m ≡ n → IsStep (minidump_of m) (header_of m 512) old new was now
    → IsStep (minidump_of n) (header_of n 512) old new was now
same_step m n old new was now same step = subst (λ (i : MachineImage). IsStep (minidump_of i) (header_of i 512) old new was now) same step

pub loop-number-preserved-in-Continue-1 : goal.loop-number-preserved-in-Continue-1
loop-number-preserved-in-Continue-1 g c =
    let i = c.loop-number.invariant in
    record {
      way = goes_on _ _ _ _ _ _ _ _ i.way (same_step _ _ _ _ _ _ i.image c.in_ok-send_next-in-Send.ensures.ok);
      image = i.image;
      count = omega (arith, i.count, c.send_next.ensures.count);
    }

pub loop-number-preserved : goal.loop-number-preserved
loop-number-preserved g c =
    let i = c.loop-number.invariant in
    record {
      way = goes_on _ _ _ _ _ _ _ _ i.way (c.in_ok-hear-in-Poll.ensures.ok (minidump_of c.args.image.now) (header_of c.args.image.now 512));
      image = i.image;
      count = omega (arith, i.count, c.hear.ensures.count);
    }

pub loop-number-smaller : goal.loop-number-smaller
loop-number-smaller g c =
    ends _ _ _ c.requires.patient.some _ _ _ _ _ c.loop-number.invariant.way (c.in_ok-hear-in-Poll.ensures.ok (minidump_of c.args.image.now) (header_of c.args.image.now 512))

pub returns-in_err-send_next-in-Send-clause-sends : goal.returns-in_err-send_next-in-Send-clause-sends
returns-in_err-send_next-in-Send-clause-sends g c =
    is_broken _ _ _ c.requires.patient.some _ _ _ _ _ c.loop-number.invariant.way c.in-Send.ensures tt c.in_err-send_next-in-Send.ensures.err c.from_residual.result c.from_residual.ensures.1

pub returns-in_err-hear-in-Poll-clause-sends : goal.returns-in_err-hear-in-Poll-clause-sends
returns-in_err-hear-in-Poll-clause-sends g c =
    is_broken _ _ _ c.requires.patient.some _ _ _ _ _ c.loop-number.invariant.way c.in-Poll.ensures tt
    c.in_err-hear-in-Poll.ensures.err c.from_residual-in_err-hear-in-Poll.result
    c.from_residual-in_err-hear-in-Poll.ensures.1

pub returns-in-Done-clause-sends : goal.returns-in-Done-clause-sends
returns-in-Done-clause-sends g c =
    let i = c.loop-number.invariant in
    is_done _ _ _ c.requires.patient.some _ _ _ i.way c.in-Done.ensures (c.chunks-chunks.result + 3)
    (ap (λ n. n + 3) c.chunks-chunks.ensures.value ∙ ap (λ (m : MachineImage). chunks (minidump_of m) + 3) i.image)

pub returns-in-TimedOut-clause-sends : goal.returns-in-TimedOut-clause-sends
returns-in-TimedOut-clause-sends g c = is_out _ _ _ c.requires.patient.some _ _ _ c.in-TimedOut.number c.loop-number.invariant.way c.in-TimedOut.ensures
