-- The law is a lemma of ClearWays.
use Rattle.fd_way.proofs.ClearWays.{ends_over_clear}
use Rattle.fd_way.proofs.laws.each_drill_over_a_clear_partition_is_the_images.Goals as goal

pub returns : goal.returns
returns c d found was outcome added told sized good valid clear does =
    ends_over_clear c.each_read_of_a_minidump_is_the_images.ensures c.each_save_is_saved.ensures d found was told sized good valid clear outcome added does
