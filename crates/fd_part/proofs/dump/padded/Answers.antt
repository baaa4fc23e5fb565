use Rattle.std.proofs.Common.{ℕ, ◌++◌, List, take, drop, replicate, ◌∙◌, ap}
use Rattle.fd_kdh.specs.Header.{dump_header}
use Rattle.fd_kdh.proofs.Headers.{length-dump_header}
use Rattle.fd_part.proofs.HeaderBlocks.{front_of_zeros}
use Rattle.fd_part.proofs.dump.padded.Goals as goal

pub returns : goal.returns
returns c block low high =
    let h = c.args.header.now in
    ap (λ (l : List ℕ). take block (l ++ drop 512 (replicate 4096 0))) (c.copy_from_slice.ensures.after ∙ c.encode.ensures.bytes)
    ∙ front_of_zeros (dump_header h) 4096 block (length-dump_header h c.requires) low high
