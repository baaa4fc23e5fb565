-- Word by word the page is written.
use Rattle.std.proofs.Common.{◌*◌, ◌+◌, ◌++◌, take, drop, refl, sym, ap, ◌∙◌}
use Rattle.std.specs.Int.{w64, to_le_bytes}
use Rattle.fd_gen.proofs.Spelled.{words_of-none, words_of-put}
use Rattle.fd_gen.proofs.segment.fill_page.Goals as goal

pub loop-index-init : goal.loop-index-init
loop-index-init g c = ap (λ l. l ++ c.args.bytes.now) (sym (words_of-none (g.W.Words.word_at c.args.words.now c.args.page)))

pub loop-index-preserved : goal.loop-index-preserved
loop-index-preserved g c =
    let word = g.W.Words.word_at c.args.words.now c.args.page in
    let at = 8 * c.loop-index.index in
    let now = c.loop-index.bytes in
    c.put_u64_le.ensures
    ∙ (ap (λ n. take at now ++ (to_le_bytes w64 n ++ drop (at + 8) now)) c.word.ensures
    ∙ words_of-put word c.loop-index.index at now c.args.bytes.now refl c.loop-index.invariant)
