use Rattle.std.proofs.Common.{sym, ◌∙◌, refl, arith}
use Rattle.fd_site.specs.Contents.{file_of}
use Rattle.fd_netserver.proofs.Numbers.{left-start, left-found, left-next, left-end}
use Rattle.fd_netserver.proofs.number.free_number.Goals as goal

pub loop-number-init : goal.loop-number-init
loop-number-init g c = record { untouched = record { told = refl; size = refl; block = refl; count = omega arith }; number = λ d is. left-start (file_of d) }

pub returns-then-branch-clause-number : goal.returns-then-branch-clause-number
returns-then-branch-clause-number g c = λ d is.
    sym (c.loop-number.invariant.number d is
    ∙ left-found (file_of d) c.loop-number.number c.loop-number-test.true
    (sym (c.in_ok-is_free.ensures.free d (c.loop-number.invariant.untouched.told ∙ is)) ∙ c.if-branch.true))

pub loop-number-preserved : goal.loop-number-preserved
loop-number-preserved g c =
    let was = c.loop-number.invariant.untouched in
    let now = c.in_ok-is_free.ensures.untouched in
    record {
      untouched = record { told = now.told ∙ was.told; size = now.size ∙ was.size; block = now.block ∙ was.block; count = omega (arith, now.count, was.count) };
      number = λ d is. c.loop-number.invariant.number d is
          ∙ left-next (file_of d) c.loop-number.number c.loop-number-test.true
          (sym (c.in_ok-is_free.ensures.free d (was.told ∙ is)) ∙ c.if-branch.false);
    }

pub returns-clause-number : goal.returns-clause-number
returns-clause-number g c = λ d is. sym (c.loop-number.invariant.number d is ∙ left-end (file_of d) c.loop-number.number (omega arith))
