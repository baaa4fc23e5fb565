-- A view of all the bytes is the bytes.
use Rattle.std.proofs.Common.{◌∙◌, ◌+◌, subst, arith}
use Rattle.fd_image.specs.Image.{AreBytes}
use Rattle.fd_image.proofs.Slices.{slice-all}
use Rattle.fd_image.proofs.typed.region_is_typed.Goals as goal

pub returns : goal.returns
returns c = subst AreBytes (c.view.ensures ∙ slice-all c.args.bytes.now (0 + c.len.result) (omega (arith, c.len.ensures.value))) c.are_bytes.ensures
