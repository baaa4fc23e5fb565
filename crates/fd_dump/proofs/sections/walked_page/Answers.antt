-- The root is aligned, the window begins with a whole page, and the page's addresses end within the window.
use Rattle.std.proofs.Common.{◌∙◌, ◌%◌, ap}
use Rattle.fd_image.proofs.Valid.{root_is_aligned}
use Rattle.fd_dump.proofs.Directory.{page_begins, page_within}
use Rattle.fd_dump.proofs.sections.walked_page.Goals as goal

pub directory_page-requires-clause-aligned : goal.directory_page-requires-clause-aligned
directory_page-requires-clause-aligned g c = ap (λ root. root % 4096) c.root.ensures.value ∙ root_is_aligned c.args.image.now c.root.ensures.valid

pub directory_page-requires-clause-end : goal.directory_page-requires-clause-end
directory_page-requires-clause-end g c =
    page_within c.args.image.now c.windows.result.kernbase _ c.args.index c.root.ensures.valid (ap (λ w. w.kernbase) c.windows.ensures.value) c.requires.serves.heights c.requires.within

pub directory_page-requires-clause-window : goal.directory_page-requires-clause-window
directory_page-requires-clause-window g c =
    page_begins c.args.image.now c.windows.result.kernbase _ c.root.ensures.valid (ap (λ w. w.kernbase) c.windows.ensures.value) c.requires.serves.heights
