use Rattle.std.proofs.Common.{None, refl}
use Rattle.fd_save.proofs.Safe.{no_entry}
use Rattle.fd_save.proofs.laws.no_saved_file_is_touched.Goals as goal

pub returns : goal.returns
returns c force block was h at sector body number planned added name file saves begun named there =
    no_entry force None block was h at sector body number planned added saves begun name file refl named there
