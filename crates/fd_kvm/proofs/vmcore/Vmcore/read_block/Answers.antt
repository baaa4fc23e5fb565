-- A part of a block of the file, and of pages that are the file's.
use Rattle.std.proofs.Common.{◌≡◌, ◌+◌, ◌-◌, ◌%◌, length, slice_range, IfSome, IsSomeAnd, sym, subst, ◌∙◌}
use Rattle.fd_site.specs.Contents.{file_of}
use Rattle.fd_cache.specs.Pages.{HoldsPagesOf}
use Rattle.fd_kvm.specs.OpenFile.{HasBlock}
use Rattle.fd_kvm.proofs.Standing.{holds_of, part_read, read_of, still_stands}
use Rattle.fd_kvm.proofs.vmcore.Vmcore.read_block.Goals as goal

pub read-requires-clause-inside : goal.read-requires-clause-inside
read-requires-clause-inside g c told is = subst (λ n. IsSomeAnd (file_of told n) (HasBlock c.args.place)) (sym c.name.ensures.text) (c.requires.inside told is)

pub read-requires-clause-held : goal.read-requires-clause-held
read-requires-clause-held g c told is =
    let file = file_of told c.args.self.now.name in
    subst (λ n. IfSome (file_of told n) (HoldsPagesOf c.args.pages.now)) (sym c.name.ensures.text)
    (holds_of file c.args.self.now.sections c.args.pages.now (c.requires.stands told is))

pub returns-in_err-read-clause-stands : goal.returns-in_err-read-clause-stands
returns-in_err-read-clause-stands g c told is =
    still_stands (file_of told c.args.self.now.name) c.args.self.now.sections c.args.pages.now c.read.new.self
    (c.requires.stands told (sym c.read.ensures.untouched.told ∙ is))
    (subst (λ n. IfSome (file_of told n) (HoldsPagesOf c.read.new.self)) c.name.ensures.text (c.read.ensures.held told is))

pub returns-clause-stands : goal.returns-clause-stands
returns-clause-stands g c told is =
    still_stands (file_of told c.args.self.now.name) c.args.self.now.sections c.args.pages.now c.read.new.self
    (c.requires.stands told (sym c.read.ensures.untouched.told ∙ is))
    (subst (λ n. IfSome (file_of told n) (HoldsPagesOf c.read.new.self)) c.name.ensures.text (c.read.ensures.held told is))

pub returns-clause-bytes : goal.returns-clause-bytes
returns-clause-bytes g c told is f there =
    let start = c.args.place - c.args.place % 4096 in
    let block = c.read.new.out in
    let read : block ≡ slice_range f start (start + 4096) =
    read_of (λ l. block ≡ slice_range l start (start + 4096)) (file_of told c.args.self.now.name) f there
    (subst (λ n. IfSome (file_of told n) (λ l. block ≡ slice_range l start (start + 4096))) c.name.ensures.text (c.in_ok-read.ensures.bytes told is)) in
    part_read f block c.copy_from_slice.new.self c.args.place (length c.args.out.now) read c.requires.one c.copy_from_slice.ensures.after
