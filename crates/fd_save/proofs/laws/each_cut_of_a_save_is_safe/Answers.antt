use Rattle.fd_save.proofs.Safe.{safe}
use Rattle.fd_save.proofs.laws.each_cut_of_a_save_is_safe.Goals as goal

pub returns : goal.returns
returns c force max block was h at sector body number planned added k these disk saves begun behind cut =
    safe force max block was h at sector body number planned added saves begun k these disk behind cut
