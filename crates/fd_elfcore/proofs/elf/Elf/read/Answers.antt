-- The read goes on from segment to segment, or ends at the first address that no segment has.
use Rattle.std.proofs.Common.{◌≡◌, ℕ, ◌+◌, ◌-◌, List, length, take, Err, refl, sym, ap, subst, ◌∙◌, arith}
use borrow.Rule.Slice.PartMut.{put_mid}
use Rattle.std.proofs.lemmas.List.{length-append, length-take-le, take_rest}
use Rattle.std.proofs.lemmas.Result.{err_from_is_err_and}
use Rattle.fd_elfcore.specs.Elf.{IsElfRead}
use Rattle.fd_elfcore.specs.ElfAnswer.{elf_byte, elf_bytes}
use Rattle.fd_elfcore.specs.ElfParts.{IsElfFront, IsElfStep}
use Rattle.fd_elfcore.proofs.Fronts.{ended_read, front_more, front_none, rest_written}
use Rattle.fd_elfcore.proofs.elf.Elf.read.Goals as goal

pub loop-at-init : goal.loop-at-init
loop-at-init g c = record {
  inside = omega arith;
  front = λ told is f there. front_none (elf_byte f c.args.self.now.segments) c.args.va c.args.out.now;
  stands = c.requires;
  untouched = record { told = refl; size = refl; block = refl; count = omega arith };
}

pub returns-in_err-at-clause-read : goal.returns-in_err-at-clause-read
returns-in_err-at-clause-read g c told is f there =
    let segments = c.args.self.now.segments in
    let old = c.args.out.now in
    let out = c.loop-at.out in
    let at = c.loop-at.at in
    let rest = c.read_segment.new.out in
    let inv = c.loop-at.invariant in
    let step = subst (λ l. IsElfStep (elf_byte f segments) (c.args.va + at) l rest (Err c.in_err-at.field-0.0)) (take_rest out at) (c.in_err-at.ensures.step told (inv.untouched.told ∙ is) f there) in
    let p = err_from_is_err_and c.from_residual.result c.from_residual.ensures.1 in
    rw (p.1, p.2) (subst (λ l. IsElfRead (elf_bytes f segments c.args.va (length old)) old l (Err c.in_err-at.field-0.0)) (sym (rest_written out rest at))
    (ended_read (elf_byte f segments) c.args.va at old out rest c.in_err-at.field-0.0 (inv.front told is f there) c.loop-at.auto.out c.loop-at-test.true (omega (arith, c.from.ensures)) step))

pub loop-at-preserved : goal.loop-at-preserved
loop-at-preserved g c =
    let segments = c.args.self.now.segments in
    let out = c.loop-at.out in
    let at = c.loop-at.at in
    let rest = c.read_segment.new.out in
    let count = c.in_ok-at.field-0 in
    let inv = c.loop-at.invariant in
    let written = rest_written out rest at in
    let read = c.in_ok-at.ensures.untouched in
    record {
      inside =
          let size : length (put_mid at (length out - at) out rest) ≡ at + length rest = ap (λ (l : List ℕ). length l) written
          ∙ length-append (take at out) rest ∙ ap (λ n. n + length rest) (length-take-le at out inv.inside) in
          omega (arith, c.in_ok-at.ensures.inside, c.read_segment.auto.out);
      front = λ told is f there.
          let step = subst (λ l. IsElfFront (elf_byte f segments) (c.args.va + at) l rest count) (take_rest out at) (c.in_ok-at.ensures.step told (inv.untouched.told ∙ is) f there) in
          subst (λ l. IsElfFront (elf_byte f segments) c.args.va c.args.out.now l (at + count)) (sym written)
          (front_more (elf_byte f segments) c.args.va at count c.args.out.now out rest (inv.front told is f there) inv.inside step);
      stands = λ told is. inv.stands told (sym read.told ∙ is);
      untouched =
          let before = inv.untouched in
          record {
            told = read.told ∙ before.told;
            size = read.size ∙ before.size;
            block = read.block ∙ before.block;
            count = omega (arith, read.count, before.count);
          };
    }
