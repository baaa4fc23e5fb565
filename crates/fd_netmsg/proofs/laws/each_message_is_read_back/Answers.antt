use Rattle.fd_netmsg.proofs.Messages.{message_of-spelled}
use Rattle.fd_netmsg.proofs.laws.each_message_is_read_back.Goals as goal

pub returns : goal.returns
returns c = message_of-spelled
