use Rattle.std.proofs.Common.{◌≡◌, ℕ, ◌-◌, ◌*◌, List, sym, ◌∙◌, ap, arith}
use Rattle.fd_netmsg.specs.Message.{Message, plain_message, spelled, vmcore}
use Rattle.fd_netclient.specs.Datagram.{chunk_at}
use Rattle.fd_networld.proofs.Chunks.{content-chunk, range-chunk}
use Rattle.fd_networld.proofs.datagram.put_chunk.Goals as goal

pub returns-clause-bytes : goal.returns-clause-bytes
returns-clause-bytes c = λ header other.
    let s : ℕ = c.args.number in
    let dump : List ℕ = c.args.dump.now in
    let at : 4096 * c.from-at.result ≡ 4096 * (s - 2) = omega (arith, c.from-at.ensures, c.saturating_sub.ensures) in
    c.put_message.ensures.bytes
    ∙ ap (λ (m : Message). spelled m)
    (ap (λ (body : List ℕ). plain_message vmcore s (4096 * c.from-at.result) body) (range-chunk dump (4096 * c.from-at.result))
    ∙ ap (λ n. plain_message vmcore s n (chunk_at dump n)) at
    ∙ sym (content-chunk dump header s other c.requires.chunk))
