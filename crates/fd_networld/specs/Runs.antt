-- What a run of a server means.
use Rattle.std.specs.Prelude.{List, map}
use Rattle.fd_networld.specs.Sent.{Exchange}
use Rattle.fd_networld.specs.declared.runs.Exchange.{Exchange as Noted}

abbrev pub exchange : Noted → Exchange
exchange x = record { input = record { slot = x.slot; peer = x.peer; bytes = x.bytes.items }; reply = x.reply }

abbrev pub all_noted : List Noted → List Exchange
all_noted xs = map exchange xs
