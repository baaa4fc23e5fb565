-- The bytes get the run of bits, which ends before the bitmap does.
use Rattle.std.proofs.Common.{◌≡◌, ℕ, ◌+◌, ◌-◌, ◌≤◌, List, Bool, length, take, ap, ◌∙◌, arith}
use Rattle.std.proofs.lemmas.List.{with_items_is}
use Rattle.fd_bitmap.specs.Bits.{bits_of, with_run}
use Rattle.fd_bitmap.proofs.KeptBits.{length-kept}
use Rattle.fd_bitmap.proofs.BitRuns.{IsKept-run, run-kept, length-with_run}
use Rattle.fd_bitmap.proofs.bitmap.Bitmap.set_range.Goals as goal

pub invariant_of-self : goal.invariant_of-self
invariant_of-self c =
    let bytes : List ℕ = c.self.inside.bytes.items in
    let within : c.args.from + c.args.count ≤ c.self.inside.bits = omega (arith, c.requires, ap length c.self.view_is, length-kept bytes c.self.inside.bits c.self.invariant) in
    let size : c.min-end.result - c.args.from ≡ c.args.count = omega (arith, c.min-end.ensures, c.saturating_add.ensures, within) in
    let same : length c.set_run.new.bytes ≡ length bytes = c.set_run.ensures.len ∙ ap length c.as_mut_slice.ensures.value in
    let is : bits_of c.set_run.new.bytes ≡ with_run (bits_of bytes) c.args.from c.args.count =
    c.set_run.ensures.bits ∙ ap (λ (l : List ℕ). with_run (bits_of l) c.args.from (c.min-end.result - c.args.from)) c.as_mut_slice.ensures.value ∙ ap (with_run (bits_of bytes) c.args.from) size in
    rw (with_items_is c.self.inside.bytes c.set_run.new.bytes (omega (arith, same, c.self.inside.bytes.ok)))
    (IsKept-run bytes c.set_run.new.bytes c.self.inside.bits c.args.from c.args.count c.self.invariant within same is)

pub returns : goal.returns
returns c =
    let bytes : List ℕ = c.self.inside.bytes.items in
    let within : c.args.from + c.args.count ≤ c.self.inside.bits = omega (arith, c.requires, ap length c.self.view_is, length-kept bytes c.self.inside.bits c.self.invariant) in
    let size : c.min-end.result - c.args.from ≡ c.args.count = omega (arith, c.min-end.ensures, c.saturating_add.ensures, within) in
    let same : length c.set_run.new.bytes ≡ length bytes = c.set_run.ensures.len ∙ ap length c.as_mut_slice.ensures.value in
    let is : bits_of c.set_run.new.bytes ≡ with_run (bits_of bytes) c.args.from c.args.count =
    c.set_run.ensures.bits ∙ ap (λ (l : List ℕ). with_run (bits_of l) c.args.from (c.min-end.result - c.args.from)) c.as_mut_slice.ensures.value ∙ ap (with_run (bits_of bytes) c.args.from) size in
    let bits =
    ap (λ (l : List ℕ). take c.self.inside.bits (bits_of l)) (with_items_is c.self.inside.bytes c.set_run.new.bytes (omega (arith, same, c.self.inside.bytes.ok)))
    ∙ run-kept bytes c.set_run.new.bytes c.self.inside.bits c.args.from c.args.count c.self.invariant within is
    ∙ ap (λ (l : List Bool). with_run l c.args.from c.args.count) c.self.view_is in
    record { bits = bits; len = ap length bits ∙ length-with_run c.args.self.now c.args.from c.args.count c.requires }
