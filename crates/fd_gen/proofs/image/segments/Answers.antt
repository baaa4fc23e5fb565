-- The three segments that are made are those of the image.
use Rattle.std.proofs.Common.{◌≡◌, ℕ, ◌+◌, ◌-◌, ◌*◌, List, [], ◌∷◌, ◌++◌, sym, ap, ◌∙◌}
use Rattle.fd_image.specs.declared.parts.Seg.{Seg}
use Rattle.fd_gen.specs.Entries.{entry_at}
use Rattle.fd_gen.specs.Generated.{segments, table_segment, data_segment, data_word}
use Rattle.fd_gen.specs.Layout.{data_pages, first_pages, upper_tables, last_tables}
use Rattle.fd_gen.specs.Spelled.{pages_of}
use Rattle.fd_gen.proofs.image.segments.Goals as goal

made : (seg : Seg) (first : ℕ) (bytes : List ℕ) → seg.start ≡ first → seg.bytes ≡ bytes → seg ≡ record { start = first; bytes = bytes }
made seg first bytes starts has = λ i. record { start = starts i; bytes = has i }

data_made : (seg : Seg) (number first count pages : ℕ) → seg.start ≡ first → seg.bytes ≡ pages_of (λ page index. data_word number (first + 4096 * page + 8 * index)) count → count ≡ pages
    → seg ≡ data_segment number first pages
data_made seg number first count pages starts has same =
    made seg first (pages_of (λ page index. data_word number (first + 4096 * page + 8 * index)) pages) starts
    (has ∙ ap (λ n. pages_of (λ page index. data_word number (first + 4096 * page + 8 * index)) n) same)

pub returns : goal.returns
unfolding segments
returns c =
    let arch = c.args.arch in
    let number = c.args.number in
    let all : c.data_pages-pages.result ≡ data_pages number = c.data_pages-pages.ensures.value in
    let front : c.first_pages-first.result ≡ first_pages (data_pages number) = c.first_pages-first.ensures.value ∙ ap first_pages all in
    let last : c.last_tables.result ≡ last_tables (data_pages number) = c.last_tables.ensures.value ∙ ap last_tables all in
    let tables = c.in_ok-segment.field-0 in
    let first = c.in_ok-segment-2.field-0 in
    let second = c.in_ok-segment-3.field-0 in
    let tables-made : tables ≡ table_segment arch (data_pages number) =
    made tables 0x8000_0000 (pages_of (entry_at arch (data_pages number)) (upper_tables arch + last_tables (data_pages number))) c.in_ok-segment.ensures.first
    (c.in_ok-segment.ensures.words ∙ (λ i. pages_of (entry_at arch (all i)) (c.upper_tables.ensures.value i + last i))) in
    let first-made : first ≡ data_segment number 0x9000_0000 (first_pages (data_pages number)) =
    data_made first number 0x9000_0000 c.first_pages-first.result (first_pages (data_pages number)) c.in_ok-segment-2.ensures.first c.in_ok-segment-2.ensures.words front in
    let second-made : second ≡ data_segment number 0xa000_0000 (data_pages number - first_pages (data_pages number)) =
    data_made second number 0xa000_0000 (c.data_pages-pages.result - c.first_pages-first.result)
    (data_pages number - first_pages (data_pages number)) c.in_ok-segment-3.ensures.first c.in_ok-segment-3.ensures.words
    (λ i. all i - front i) in
    let pushed = c.in_ok-push.ensures.items ∙ ap (λ l. l ++ tables ∷ []) c.in_ok-segs.ensures.items in
    let pushed-2 = c.in_ok-push-2.ensures.items ∙ ap (λ l. l ++ first ∷ []) pushed in
    c.in_ok-push-3.ensures.items ∙ (ap (λ l. l ++ second ∷ []) pushed-2 ∙ (λ i. tables-made i ∷ first-made i ∷ second-made i ∷ []))
