-- The pages' numbers are below 2^52.
use Rattle.std.proofs.Common.{subst}
use Rattle.fd_vmcore.specs.Kept.{AreBelow}
use Rattle.fd_vmcore.specs.Sections.{Sections}
use Rattle.fd_vmcore.proofs.Below.{no_page}
use Rattle.fd_vmcore.proofs.sections.Core.no_page_is_past_the_top.Goals as goal

pub returns : goal.returns
returns c pa high = no_page c.args.self.now pa (subst (λ (s : Sections). AreBelow s.pages) c.self.view_is c.self.invariant.below) high
