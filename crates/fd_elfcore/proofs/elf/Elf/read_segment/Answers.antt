-- What is read of the file is the front of what the addresses have.
use Rattle.std.proofs.Common.{◌≡◌, ℕ, ◌+◌, ◌-◌, ◌<◌, ◌≤◌, List, length, take, slice_range, true, Some, IfSome, IsSomeAnd, sym, ap, subst, ◌∙◌, arith}
use Rattle.std.proofs.lemmas.List.{length-take}
use Rattle.fd_site.specs.Contents.{file_of}
use Rattle.fd_elfcore.specs.Elf.{ElfFile, rise_from}
use Rattle.fd_elfcore.specs.ElfAnswer.{segment_with}
use Rattle.fd_elfcore.specs.declared.segment.Segment.{Segment}
use Rattle.fd_elfcore.proofs.Found.{found_on}
use Rattle.fd_elfcore.proofs.Fronts.{front_read}
use Rattle.fd_elfcore.proofs.Standing.{of_file, piece_inside, segment_inside}
use Rattle.fd_elfcore.proofs.elf.Elf.read_segment.Goals as goal

short_take : (n : ℕ) (l : List ℕ) → length (take n l) ≤ n
short_take n l = omega (arith, length-take n l)

pub overflow_sub-within : goal.overflow_sub-within
overflow_sub-within g c = c.in-Some.ensures.inside.from

pub overflow_sub-segment : goal.overflow_sub-segment
overflow_sub-segment g c = omega (arith, c.in-Some.ensures.inside.from, c.in-Some.ensures.inside.below)

pub overflow_add-segment : goal.overflow_add-segment
overflow_add-segment g c = omega (arith, c.in-Some.ensures.inside.from, c.in-Some.ensures.inside.below, c.in-Some.ensures.inside.low)

pub read_file-requires-clause-inside : goal.read_file-requires-clause-inside
read_file-requires-clause-inside g c told is =
    let elf : ElfFile = c.args.self.now in
    let segment : Segment = c.in-Some.segment in
    let name : c.as_str-name.result.now ≡ elf.name = c.as_str-name.ensures.value ∙ ap (λ (e : ElfFile). e.name) c.self.view_is in
    let list : c.as_slice.result.now ≡ elf.segments = c.as_slice.ensures.value ∙ ap (λ (e : ElfFile). e.segments) c.self.view_is in
    let found : Some segment ≡ segment_with elf.segments c.args.va = c.in-Some.ensures.segment ∙ ap (λ (l : List Segment). segment_with l c.args.va) list in
    let count : ℕ = length (take c.min-count.result c.args.out.now) in
    subst (λ n. IsSomeAnd (file_of told n) (λ f. segment.offset + (c.args.va - segment.address) + count ≤ length f)) (sym name)
    (piece_inside (file_of told elf.name) elf.segments segment c.args.va count (c.requires.stands told is) found c.in-Some.ensures.inside
    (omega (arith, c.min-count.ensures, short_take c.min-count.result c.args.out.now)))

pub returns-clause-step : goal.returns-clause-step
returns-clause-step g c told is f there =
    let elf : ElfFile = c.args.self.now in
    let segment : Segment = c.in-Some.segment in
    let va : ℕ = c.args.va in
    let name : c.as_str-name.result.now ≡ elf.name = c.as_str-name.ensures.value ∙ ap (λ (e : ElfFile). e.name) c.self.view_is in
    let list : c.as_slice.result.now ≡ elf.segments = c.as_slice.ensures.value ∙ ap (λ (e : ElfFile). e.segments) c.self.view_is in
    let found : Some segment ≡ segment_with elf.segments va = c.in-Some.ensures.segment ∙ ap (λ (l : List Segment). segment_with l va) list in
    let rise : rise_from 0 elf.segments ≡ true = ap (λ (e : ElfFile). rise_from 0 e.segments) (sym c.self.view_is) ∙ c.self.invariant.rise in
    let has = c.in-Some.ensures.inside in
    let from : segment.address ≤ va = has.from in
    let below : va < segment.address + segment.size = has.below in
    let count : ℕ = c.min-count.result in
    let few : count ≤ segment.size - (va - segment.address) = omega (arith, c.min-count.ensures) in
    let place : ℕ = segment.offset + (va - segment.address) in
    let size : ℕ = length (take count c.args.out.now) in
    front_read f c.args.out.now c.read_file.new.out elf.segments segment va count found has few (omega (arith, c.min-count.ensures))
    (segment_inside (file_of told elf.name) f elf.segments segment va (c.requires.stands told is) there found)
    (λ i less. found_on va i elf.segments segment rise found (omega arith))
    (of_file (λ (l : List ℕ). c.read_file.new.out ≡ slice_range l place (place + size)) (file_of told elf.name) f there
    (subst (λ n. IfSome (file_of told n) (λ l. c.read_file.new.out ≡ slice_range l place (place + size))) name (c.in_ok-read_file.ensures.bytes told is)))

pub returns-clause-some : goal.returns-clause-some
returns-clause-some g c = omega (arith, c.min-count.ensures, c.in-Some.ensures.inside.from, c.in-Some.ensures.inside.below, c.requires.some)
