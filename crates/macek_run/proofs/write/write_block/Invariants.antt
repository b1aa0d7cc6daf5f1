use Rattle.std.proofs.Common.{◌≡◌, drop, map}
use Rattle.std.specs.List.{concat}
use Rattle.outside.proofs.Known.{IsPartWritten}
use Rattle.macek_run.proofs.write.write_block.Given as goal

-- what was written so far, with the pieces that are left, is all of the pieces
abbrev pub invariant-loop-piece : goal.invariant-loop-piece
invariant-loop-piece g l = record {
  written : IsPartWritten (g.K.Sink.held l.initial.sink) (g.K.Sink.held l.sink) (concat (map (λ piece. piece.now) l.pieces))
      (concat (map (λ piece. piece.now) (drop l.piece-index l.pieces)));
  kept : g.K.Sink.faults l.sink ≡ g.K.Sink.faults l.initial.sink;
}
