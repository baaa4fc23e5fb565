use Rattle.std.proofs.Common.{◌≡◌, refl, ◌∙◌, arith}
use Rattle.fd_save.proofs.Copying.{copied_more, copied_nothing, copied_there, copies_begun_at_create, copies_begun_at_sync, copies_begun_at_write, copies_synced, map_err, map_ok, on_err}
use Rattle.fd_save.proofs.files.copy_part.Goals as goal

pub returns-in_err-create-clause-err : goal.returns-in_err-create-clause-err
returns-in_err-create-clause-err g c = on_err c.from_residual.result (copies_begun_at_create c.args.name.now c.args.at c.args.len _ _ c.in_err-create.ensures.err)

pub copy_piece-requires-clause-there : goal.copy_piece-requires-clause-there
copy_piece-requires-clause-there g c = copied_there c.args.name.now c.args.at c.loop-done.done _ _ c.loop-done.invariant.copied

pub loop-done-init : goal.loop-done-init
loop-done-init g c = record {
  copied = copied_nothing c.args.name.now c.args.at _ _ c.in_ok-create.ensures.ok;
  frame = c.in_ok-create.ensures.frame;
  sectors = refl;
  inside = omega arith;
}

pub loop-done-preserved : goal.loop-done-preserved
loop-done-preserved g c = record {
  copied = copied_more c.args.name.now c.args.at c.loop-done.done c.min-count.result _ _ _ c.loop-done.invariant.copied c.in_ok-copy_piece.ensures.ok;
  frame = record {
    size = c.in_ok-copy_piece.ensures.frame.size ∙ c.loop-done.invariant.frame.size;
    block = c.in_ok-copy_piece.ensures.frame.block ∙ c.loop-done.invariant.frame.block;
    count = omega (arith, c.in_ok-copy_piece.ensures.frame.count, c.loop-done.invariant.frame.count);
  };
  sectors = omega arith;
  inside = omega arith;
}

pub returns-in_err-copy_piece-clause-err : goal.returns-in_err-copy_piece-clause-err
returns-in_err-copy_piece-clause-err g c =
    on_err c.from_residual-in_err-copy_piece.result
    (copies_begun_at_write c.args.name.now c.args.at c.loop-done.done c.args.len _ _ _ c.loop-done.invariant.copied (omega arith) c.in_err-copy_piece.ensures.err)

pub sync_file-requires-clause-there : goal.sync_file-requires-clause-there
sync_file-requires-clause-there g c = copied_there c.args.name.now c.args.at c.loop-done.done _ _ c.loop-done.invariant.copied

pub returns-clause-ok : goal.returns-clause-ok
returns-clause-ok g c =
    let all : c.loop-done.done ≡ c.args.len = omega arith in
    map_ok c.sync_file.result (copies_synced c.args.name.now c.args.at c.loop-done.done c.args.len _ _ _ all c.loop-done.invariant.copied) c.sync_file.ensures.ok

pub returns-clause-err : goal.returns-clause-err
returns-clause-err g c =
    let all : c.loop-done.done ≡ c.args.len = omega arith in
    map_err c.sync_file.result (copies_begun_at_sync c.args.name.now c.args.at c.loop-done.done c.args.len _ _ _ all c.loop-done.invariant.copied) c.sync_file.ensures.err
