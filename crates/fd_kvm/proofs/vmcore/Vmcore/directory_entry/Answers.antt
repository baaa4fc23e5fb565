-- The entry stands in the block that was read, just now or for an entry before.
use Rattle.std.proofs.Common.{◌≡◌, ◌+◌, ◌*◌, ◌/◌, ◌%◌, length, slice_range, sym, ap, subst, ◌∙◌, arith}
use Rattle.fd_site.specs.Contents.{file_of}
use Rattle.fd_bytes.specs.Field.{u64_le_at}
use Rattle.fd_mini.specs.Places.{places_of}
use Rattle.fd_kvm.specs.OpenFile.{HasBlock}
use Rattle.fd_kvm.proofs.Pieces.{word_read}
use Rattle.fd_kvm.proofs.Standing.{entry_block, of_file}
use Rattle.fd_kvm.proofs.vmcore.Vmcore.directory_entry.Goals as goal

pub read_block-requires-clause-inside : goal.read_block-requires-clause-inside
read_block-requires-clause-inside g c told is =
    let s = c.args.self.now.sections in
    let index = c.args.index in
    of_file (HasBlock (c.directory.result + 8 * index)) (file_of told c.args.self.now.name) s c.args.pages.now (c.requires.stands told is)
    (λ f there opened. subst (λ n. HasBlock (n + 8 * index) f) (sym c.directory.ensures.place) (entry_block f s index opened c.requires.inside))

pub returns-then-index-eq0-clause-entry : goal.returns-then-index-eq0-clause-entry
returns-then-index-eq0-clause-entry g c told is f there =
    let s = c.args.self.now.sections in
    let index = c.args.index in
    let size : c.directory.result + 8 * index + length c.args.block.now ≡ c.directory.result + 8 * index + 4096 = omega (arith, c.told-block) in
    let block : c.read_block.new.out ≡ slice_range f (c.directory.result + 8 * index) (c.directory.result + 8 * index + 4096) =
    c.in_ok-read_block.ensures.bytes told is f there ∙ ap (slice_range f (c.directory.result + 8 * index)) size in
    let place : c.directory.result + 8 * index + 0 ≡ (places_of s.header).directory + 8 * index = omega (arith, c.directory.ensures.place) in
    c.get_u64_le.ensures.value ∙ word_read f c.read_block.new.out (c.directory.result + 8 * index) 0 block (omega arith) ∙ ap (λ n. u64_le_at f n) place

pub returns-clause-entry : goal.returns-clause-entry
returns-clause-entry g c told is f there =
    let s = c.args.self.now.sections in
    let index = c.args.index in
    let place : (places_of s.header).directory + 4096 * (index / 512) + 8 * (index % 512) ≡ (places_of s.header).directory + 8 * index = omega arith in
    c.get_u64_le-2.ensures.value
    ∙ word_read f c.args.block.now ((places_of s.header).directory + 4096 * (index / 512)) (8 * (index % 512)) (c.requires.kept c.if-index-eq0.false told is f there) (omega arith)
    ∙ ap (λ n. u64_le_at f n) place
