-- The header's bytes are those of the file.
use Rattle.std.proofs.Common.{◌≡◌, ℕ, ◌+◌, ◌*◌, List, slice_range, ap, ◌∙◌}
use Rattle.fd_site.specs.Contents.{file_of}
use Rattle.fd_elfcore.specs.Opening.{program_header}
use Rattle.fd_elfcore.proofs.Headers.{header_read}
use Rattle.fd_elfcore.proofs.Standing.{of_file}
use Rattle.fd_elfcore.proofs.elf.read_program_header.Goals as goal

pub returns-clause-header : goal.returns-clause-header
returns-clause-header g c told is f there =
    let place : ℕ = 64 + 56 * c.from.result in
    let bytes : List ℕ = c.read_file.new.out in
    let read : bytes ≡ slice_range f place (place + 56) =
    of_file (λ (l : List ℕ). bytes ≡ slice_range l place (place + 56)) (file_of told c.args.name.now) f there (c.in_ok-read_file.ensures.bytes told is) in
    c.of.ensures ∙ header_read f bytes place read ∙ ap (λ n. program_header f n) c.from.ensures
