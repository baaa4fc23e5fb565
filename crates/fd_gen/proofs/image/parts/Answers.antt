-- No segment reaches past 2^64.
use Rattle.std.proofs.Common.{◌^◌, ◌<◌, ◌∙◌}
use Rattle.std.proofs.lemmas.List.Elements.{All-same}
use Rattle.fd_image.specs.Image.{end_of}
use Rattle.fd_image.specs.declared.parts.Seg.{Seg}
use Rattle.fd_gen.specs.Generated.{segments}
use Rattle.fd_gen.proofs.Rules.{segments-low}
use Rattle.fd_gen.proofs.image.parts.Goals as goal

pub extents-requires : goal.extents-requires
extents-requires c =
    All-same (λ (seg : Seg). end_of seg < 2 ^ 64) c.deref.result.now (segments c.args.arch c.args.number)
    (c.deref.ensures.value ∙ c.in_ok-segs.ensures) (segments-low c.args.arch c.args.number)
