-- One more part is read.
use Rattle.std.proofs.Common.{◌≡◌, ◌+◌, ◌++◌, ℕ, List, Option, length, replicate, slice_range, subst, ap, ◌∙◌, arith, length-append}
use Rattle.std.proofs.lemmas.List.{length-replicate}
use Rattle.fd_raw.proofs.Written.{part-long, written-behind}
use Rattle.fd_raw.specs.Written.{written}
use Rattle.fd_site.specs.Contents.{Contents}
use Rattle.fd_image.proofs.Slices.{slice-join}
use Rattle.fd_imgfile.specs.File.{OfFile}
use Rattle.fd_imgfile.proofs.Files.{OfFile-both}
use Rattle.fd_imgfile.proofs.read.read_region.Goals as goal

pub loop-filling-preserved : goal.loop-filling-preserved
loop-filling-preserved g c =
    let i = c.loop-filling.invariant in
    let name : List ℕ = c.args.name.now in
    let at : ℕ = c.args.at in
    let done : ℕ = c.len-done.result in
    let xs : List ℕ = c.loop-filling.filling.bytes in
    let n : ℕ = c.min-count.result in
    let ws : List ℕ = c.read_file.new.out in
    let grown = c.grow_by_zeros.ensures in
    let place = c.len-done.ensures.value in
    let all : length c.grow_by_zeros.new.self.bytes ≡ length xs + n =
    ap (λ f. length f.bytes) grown ∙ length-append xs (replicate n 0) ∙ ap (λ k. length xs + k) (length-replicate {A = ℕ} n 0) in
    let part : length c.view_mut.result.now ≡ n = ap length c.view_mut.ensures.value ∙ part-long c.grow_by_zeros.new.self.bytes done n (omega (arith, all, place)) in
    let size : length ws ≡ n = c.read_file.auto.out ∙ part in
    let now : List ℕ = written c.grow_by_zeros.new.self.bytes done n ws in
    let more : now ≡ xs ++ ws = (λ k. written (grown k).bytes (place k) n ws) ∙ written-behind xs n ws size in
    let long : length now ≡ length xs + length ws = ap length more ∙ length-append xs ws in
    let read : OfFile (g.S.Site.seen c.args.site.now).told name (λ file. ws ≡ slice_range file (at + done) (at + done + length c.view_mut.result.now)) =
    subst (λ (t : Option Contents). OfFile t name (λ file. ws ≡ slice_range file (at + done) (at + done + length c.view_mut.result.now))) i.untouched.told c.in_ok-read_file.ensures.bytes in
    record {
      room = ap (λ f. f.room) grown ∙ i.room;
      within = omega (arith, long, size, c.min-count.ensures, c.room-in-loop-filling.ensures.value, i.room, place, i.within);
      bytes =
          OfFile-both _ name (λ file. xs ≡ slice_range file at (at + length xs)) (λ file. ws ≡ slice_range file (at + done) (at + done + length c.view_mut.result.now))
          (λ file. now ≡ slice_range file at (at + length now)) i.bytes read
          (λ f before next. more ∙ (ap (λ (l : List ℕ). l ++ ws) before
          ∙ (ap (λ (l : List ℕ). slice_range f at (at + length xs) ++ l) (next ∙ ap (λ m. slice_range f m (at + done + length c.view_mut.result.now)) (omega (arith, place))
          ∙ ap (λ m. slice_range f (at + length xs) m) (omega (arith, place, part, size, long)))
          ∙ slice-join f at (at + length xs) (at + length now) (omega arith) (omega (arith, long)))));
      untouched = record {
        told = c.in_ok-read_file.ensures.untouched.told ∙ i.untouched.told;
        size = c.in_ok-read_file.ensures.untouched.size ∙ i.untouched.size;
        block = c.in_ok-read_file.ensures.untouched.block ∙ i.untouched.block;
        count = omega (arith, c.in_ok-read_file.ensures.untouched.count, i.untouched.count);
      };
    }
