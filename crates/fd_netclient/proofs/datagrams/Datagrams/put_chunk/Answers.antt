use Rattle.std.proofs.Common.{◌≡◌, ℕ, ◌-◌, ◌*◌, List, sym, ◌∙◌, ap, arith}
use Rattle.fd_dump.specs.Header.{header_of}
use Rattle.fd_dump.specs.Minidump.{minidump_of}
use Rattle.fd_netmsg.specs.Message.{Message, plain_message, spelled, vmcore}
use Rattle.fd_netclient.specs.Datagram.{chunk_at}
use Rattle.fd_netclient.proofs.Chunks.{chunks_some}
use Rattle.fd_netclient.proofs.Contents.{content-chunk, page-chunk}
use Rattle.fd_netclient.proofs.datagrams.Datagrams.put_chunk.Goals as goal

pub page_at-requires-clause-within : goal.page_at-requires-clause-within
page_at-requires-clause-within c =
    omega (arith, c.from-index.ensures, c.saturating_sub.ensures, c.requires, chunks_some c.args.self.now.image.now c.args.self.now.made.valid)

pub returns-clause-bytes : goal.returns-clause-bytes
returns-clause-bytes c = λ other.
    let s : ℕ = c.args.number in
    let dump : List ℕ = minidump_of c.args.self.now.image.now in
    let i : ℕ = c.from-index.result in
    let index : i ≡ s - 2 = omega (arith, c.from-index.ensures, c.saturating_sub.ensures) in
    c.put_message.ensures.bytes
    ∙ ap (λ (m : Message). spelled m)
    (ap (λ (body : List ℕ). plain_message vmcore s (4096 * i) body) (c.page_at.ensures ∙ page-chunk dump i)
    ∙ ap (λ n. plain_message vmcore s (4096 * n) (chunk_at dump (4096 * n))) index
    ∙ sym (content-chunk dump (header_of c.args.self.now.image.now 512) s other c.requires))
