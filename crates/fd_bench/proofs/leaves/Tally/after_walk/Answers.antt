-- A valid image's topmost table stands at a multiple of 4096.
use Rattle.std.proofs.Common.{◌%◌, ap, ◌∙◌, lit<, lit≤}
use Rattle.fd_image.proofs.Valid.{root_is_aligned}
use Rattle.fd_bench.proofs.leaves.Tally.after_walk.Goals as goal

pub leaves-leaf-items-requires : goal.leaves-leaf-items-requires
leaves-leaf-items-requires c =
    let aligned = ap (λ root. root % 4096) c.root.ensures.value ∙ root_is_aligned c.args.image.now c.root.ensures.valid in
    (lit< tt, (aligned, (lit≤ tt, (lit≤ tt, c.requires))))
