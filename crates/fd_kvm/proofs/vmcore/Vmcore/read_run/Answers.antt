-- What is read of the file is the front of what the addresses have.
use Rattle.std.proofs.Common.{◌∙◌, sym, arith}
use Rattle.fd_site.specs.Contents.{file_of}
use Rattle.fd_kvm.specs.Answer.{byte_in}
use Rattle.fd_kvm.specs.OpenFile.{HasBlock}
use Rattle.fd_kvm.proofs.Fronts.{front_read}
use Rattle.fd_kvm.proofs.Standing.{of_file}
use Rattle.fd_kvm.proofs.vmcore.Vmcore.read_run.Goals as goal

pub read_block-requires-clause-inside : goal.read_block-requires-clause-inside
read_block-requires-clause-inside g c told is =
    let run = c.in_ok-run.run' in
    let file = c.args.self.now in
    of_file (HasBlock run.place) (file_of told file.name) file.sections c.locate.new.pages (c.in_ok-run.ensures.stands told is)
    (λ f there opened. (c.in_ok-run.ensures.located told (sym c.in_ok-run.ensures.untouched.told ∙ is) f there).inside)

pub returns-clause-step : goal.returns-clause-step
returns-clause-step g c told is f there =
    let run = c.in_ok-run.run' in
    let count = c.min-count.result in
    front_read f c.args.out.now c.read_block.new.out (byte_in f c.args.self.now.sections) c.args.va count run (c.in_ok-run.ensures.located told is f there)
    c.in_ok-run.ensures.one (omega (arith, c.min-count.ensures)) (omega (arith, c.min-count.ensures))
    (c.in_ok-read_block.ensures.bytes told (c.in_ok-run.ensures.untouched.told ∙ is) f there)
