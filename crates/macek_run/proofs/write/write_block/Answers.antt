use Rattle.macek_run.proofs.Writes.{next_written, next_failed}
use Rattle.macek_run.proofs.write.write_block.Goals as goal

pub returns-in_default-clause-err : goal.returns-in_default-clause-err
returns-in_default-clause-err g c =
    next_failed (λ piece. piece.now) c.args.pieces.now c.loop-piece.piece-index _ c.loop-piece-test.true
    _ _ _ c.loop-piece.invariant.written c.in_default.ensures.err

pub loop-piece-preserved : goal.loop-piece-preserved
loop-piece-preserved g c = record {
  written = next_written (λ piece. piece.now) c.args.pieces.now c.loop-piece.piece-index _ c.loop-piece-test.true
      _ _ _ c.loop-piece.invariant.written c.in-Ok.ensures.ok;
  kept = cc (c.in-Ok.ensures.cause.kept);
}
