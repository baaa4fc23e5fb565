-- Page by page it is wanted or not.
use Rattle.std.proofs.Common.{sym, ap, ◌∙◌, ◌≡◌, arith}
use Rattle.fd_gen.specs.Generated.{wanted_pages}
use Rattle.fd_gen.proofs.Wanted.{wanted_among, wanted_among-taken, wanted_among-passed}
use Rattle.fd_gen.proofs.ranges.wanted_pages.Goals as goal
use Rattle.fd_gen.proofs.ranges.wanted_pages.Goals.{then-page-eq2+in_ok-push, else-page-eq2}

pub loop-page-preserved : goal.loop-page-preserved
loop-page-preserved c =
    let pages = c.args.pages in
    let page = c.loop-page.page in
    let now = c.loop-page.wanted.items in
    elim c.if-page-eq2.branch [
      | then-page-eq2+in_ok-push w ↦
          wanted_among-taken pages page w.data_address.result now c.if-page-eq2.wanted.items c.loop-page.invariant w.if-page-eq2.true w.data_address.ensures.value
          (ap (λ v. v.items) w.wanted-is ∙ w.in_ok-push.ensures.items)
      | else-page-eq2 w ↦ ap (λ v. v.items) w.wanted-is ∙ wanted_among-passed pages page now c.loop-page.invariant w.if-page-eq2.false
    ]

pub returns : goal.returns
unfolding wanted_pages
returns c =
    let last : c.loop-page.page ≡ c.args.pages = omega arith in
    c.loop-page.invariant ∙ ap (wanted_among c.args.pages) last
