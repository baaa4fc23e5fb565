-- The segments so far are within their types.
use Rattle.std.proofs.Common.{ℕ, ◌<◌, ◌^◌, get_or}
use Rattle.fd_image.specs.Image.{AreBytes}
use Rattle.fd_image.specs.declared.parts.Seg.{Seg}
use Rattle.fd_image.proofs.typed.segs_are_typed.Given as goal

abbrev pub invariant-loop-seg : goal.invariant-loop-seg
invariant-loop-seg l = (k : ℕ) → k < l.seg-index → (d : Seg) → ((get_or l.segs k d).start < 2 ^ 64) × AreBytes (get_or l.segs k d).bytes
