use Rattle.fd_netclient.specs.Datagram.{chunks}
use Rattle.fd_netclient.specs.Machine.{start}
use Rattle.fd_netclient.proofs.Wants.{sent_step, polled_step}
use Rattle.fd_netclient.proofs.laws.each_call_is_a_step.Goals as goal

pub returns-clause-sent : goal.returns-clause-sent
returns-clause-sent c dump h patience trace = sent_step dump h patience (start patience (chunks dump)) trace

pub returns-clause-polled : goal.returns-clause-polled
returns-clause-polled c dump h patience trace = polled_step dump h patience (start patience (chunks dump)) trace
