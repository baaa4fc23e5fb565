-- What `remove` says of each name.
use Rattle.std.proofs.Common.{arith}
use Rattle.std.proofs.lemmas.Map.Text.{text_keys}
use Rattle.fd_fake.proofs.directory.remove_file.Goals as goal

pub returns : goal.returns
returns c = λ q. grind (arith, text_keys)
