use Rattle.std.proofs.Common.{◌≡◌, ℕ, ◌+◌, ◌-◌, ◌*◌, ◌/◌, ◌≤◌, ◌<◌, Some, sym, ◌∙◌, ap, arith}
use Rattle.fd_netclient.specs.Datagram.{numbers}
use Rattle.fd_netclient.proofs.Batches.{batch_of_data, batch_of_header, batch_of_finished, batch_past}
use Rattle.fd_netclient.proofs.batch.batch_at.Goals as goal

pub returns-then-batch-data : goal.returns-then-batch-data
returns-then-batch-data c =
    ap (λ l. Some l) (c.all-then-batch-data.ensures ∙ ap (numbers (2 + (c.args.batch - 1) * 64)) c.min.ensures)
    ∙ sym (batch_of_data c.args.chunks c.args.batch (some c.args.batch c.if-batch-eq0.false) (omega arith))
  where
    some : (n : ℕ) → (n ≡ 0 → ⊥) → 1 ≤ n
    some n isnt = omega arith

pub returns-then-batch-data-2 : goal.returns-then-batch-data-2
returns-then-batch-data-2 c = ap (λ l. Some l) c.all-then-batch-data-2.ensures ∙ sym (batch_of_header c.args.chunks c.args.batch (omega arith))

pub returns-then-batch-data-3 : goal.returns-then-batch-data-3
returns-then-batch-data-3 c = ap (λ l. Some l) c.all-then-batch-data-3.ensures ∙ sym (batch_of_finished c.args.chunks c.args.batch (omega arith))

pub returns : goal.returns
returns c =
    sym (batch_past c.args.chunks c.args.batch (past ((c.args.chunks + 63) / 64) c.args.batch c.if-batch-data.false c.if-batch-data-2.false c.if-batch-data-3.false))
  where
    past : (data_ batch : ℕ) → data_ < batch → (batch ≡ data_ + 1 → ⊥) → (batch ≡ data_ + 2 → ⊥) → data_ + 3 ≤ batch
    past data_ batch behind not_header not_finished = omega arith
