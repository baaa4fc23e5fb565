-- One more segment is read, or its program header isn't taken.
use Rattle.std.proofs.Common.{◌≡◌, ℕ, ◌+◌, ◌-◌, List, [], ◌∷◌, ◌++◌, Result, Err, sym, ap, ◌∙◌, arith}
use Rattle.fd_site.specs.Contents.{file_of}
use Rattle.fd_elfcore.specs.Elf.{rise_from}
use Rattle.fd_elfcore.specs.Layout.{headers_end}
use Rattle.fd_elfcore.specs.Opening.{end_of, segments_from}
use Rattle.fd_elfcore.specs.declared.elf_fault.ElfOpenFault.{ElfOpenFault}
use Rattle.fd_elfcore.specs.declared.elf_fault.ElfOpenFault.TheVariants.{BadSegment}
use Rattle.fd_elfcore.specs.declared.program_header.ProgramHeader.{ProgramHeader}
use Rattle.fd_elfcore.specs.declared.segment.Segment.{Segment}
use Rattle.fd_elfcore.proofs.Headers.{last_end, last_pushed, more_refused, more_taken, none_left, rise_taken, segments_then, then_ends, then_fails, then_push}
use Rattle.fd_elfcore.proofs.Opened.{less_room}
use Rattle.fd_elfcore.proofs.elf.read_segments.Goals as goal

pub read_program_header-requires-clause-inside : goal.read_program_header-requires-clause-inside
read_program_header-requires-clause-inside g c told is =
    less_room (file_of told c.args.name.now) (headers_end c.args.count) (headers_end c.loop-index.index + 56)
    (c.requires.inside told (sym c.loop-index.invariant.untouched.told ∙ is)) (omega arith)

pub returns-in-None-clause-segments : goal.returns-in-None-clause-segments
returns-in-None-clause-segments g c told is f there =
    let inv = c.loop-index.invariant in
    let items : List Segment = c.loop-index.segments.items in
    let index : ℕ = c.loop-index.index in
    inv.read told is f there
    ∙ ap (segments_then items) (more_refused f index c.args.count c.loop-index.least c.in_ok-header.header c.loop-index-test.true
    (c.in_ok-header.ensures.header told (inv.untouched.told ∙ is) f there) c.in-None.ensures)
    ∙ then_fails items (BadSegment index) ∙ ap (λ n. Err (BadSegment n)) (sym c.from.ensures)

pub loop-index-preserved : goal.loop-index-preserved
loop-index-preserved g c =
    let inv = c.loop-index.invariant in
    let items : List Segment = c.loop-index.segments.items in
    let index : ℕ = c.loop-index.index in
    let count : ℕ = c.args.count in
    let segment : Segment = c.in-Some.segment in
    let header : ProgramHeader = c.in_ok-header.header in
    let pushed : c.push.new.self.items ≡ items ++ segment ∷ [] = c.in-Ok.ensures.items in
    let read = c.in_ok-header.ensures.untouched in
    record {
      read = λ told is f there.
          let rest : Result (List Segment) ElfOpenFault = segments_from f (index + 1) (count - (index + 1)) (end_of segment) in
          inv.read told is f there
          ∙ ap (segments_then items) (more_taken f index count c.loop-index.least header segment c.loop-index-test.true
          (c.in_ok-header.ensures.header told (inv.untouched.told ∙ is) f there) c.in-Some.ensures)
          ∙ sym (then_push items segment rest)
          ∙ ap (λ (l : List Segment). segments_then l rest) (sym pushed)
          ∙ ap (λ n. segments_then c.push.new.self.items (segments_from f (index + 1) (count - (index + 1)) n)) (sym c.end-least.ensures);
      rise = ap (rise_from 0) pushed ∙ rise_taken c.loop-index.least items header segment inv.rise inv.least c.in-Some.ensures;
      least = c.end-least.ensures ∙ sym (ap (last_end 0) pushed ∙ last_pushed 0 items segment);
      untouched = record {
        told = read.told ∙ inv.untouched.told;
        size = read.size ∙ inv.untouched.size;
        block = read.block ∙ inv.untouched.block;
        count = omega (arith, read.count, inv.untouched.count);
      };
    }

pub returns-clause-segments : goal.returns-clause-segments
returns-clause-segments g c told is f there =
    let items : List Segment = c.loop-index.segments.items in
    c.loop-index.invariant.read told is f there
    ∙ ap (segments_then items) (none_left f c.loop-index.index c.args.count c.loop-index.least c.loop-index-test.false) ∙ then_ends items
