-- Page by page the region is written.
use Rattle.std.proofs.Common.{◌≡◌, ℕ, ◌*◌, ◌+◌, ◌-◌, ◌<◌, ◌≤◌, List, ◌++◌, length, replicate, refl, sym, ap, ◌∙◌, arith, length-append}
use Rattle.std.proofs.lemmas.List.{length-replicate}
use Rattle.fd_raw.proofs.Written.{part-long}
use Rattle.fd_gen.specs.Spelled.{pages_of}
use Rattle.fd_gen.proofs.Spelled.{pages_of-none, length-pages_of, pages_of-written}
use Rattle.fd_gen.proofs.segment.filled_pages.Goals as goal

-- the next page lies in the region
room : (word : ℕ → ℕ → ℕ) (page pages : ℕ) (region : List ℕ) → region ≡ pages_of word page ++ replicate (4096 * (pages - page)) 0 → page < pages → 4096 * page + 4096 ≤ length region
room word page pages region is below =
    omega (arith, ap length is, length-append (pages_of word page) (replicate (4096 * (pages - page)) 0), length-pages_of word page, length-replicate {A = ℕ} (4096 * (pages - page)) 0)

pub loop-page-init : goal.loop-page-init
loop-page-init g c =
    let word = g.W.Words.word_at c.args.words.now in
    let left : 4096 * c.args.pages ≡ 4096 * (c.args.pages - 0) = omega arith in
    c.in_ok-region.ensures ∙ (ap (λ (n : ℕ). replicate n 0) left ∙ ap (λ l. l ++ replicate (4096 * (c.args.pages - 0)) 0) (sym (pages_of-none word)))

pub view_mut-requires : goal.view_mut-requires
view_mut-requires g c = room (g.W.Words.word_at c.args.words.now) c.loop-page.page c.args.pages c.loop-page.region c.loop-page.invariant (omega arith)

pub fill_page-requires-clause-whole : goal.fill_page-requires-clause-whole
fill_page-requires-clause-whole g c =
    ap length c.view_mut.ensures.value
    ∙ part-long c.loop-page.region (4096 * c.loop-page.page) 4096
    (room (g.W.Words.word_at c.args.words.now) c.loop-page.page c.args.pages c.loop-page.region c.loop-page.invariant (omega arith))

pub loop-page-preserved : goal.loop-page-preserved
loop-page-preserved g c =
    let word = g.W.Words.word_at c.args.words.now in
    let page = c.loop-page.page in
    let zeros = 4096 * (c.args.pages - page) in
    let left : zeros - 4096 ≡ 4096 * (c.args.pages - (page + 1)) = omega arith in
    pages_of-written word page 4096 zeros c.loop-page.region c.fill_page.new.bytes refl (omega arith) c.loop-page.invariant c.fill_page.ensures
    ∙ ap (λ (n : ℕ). pages_of word (page + 1) ++ replicate n 0) left
