use Rattle.std.proofs.Common.{◌≡◌}
use Rattle.orderly.proofs.KeptColumns.{HasKept}
use Rattle.orderly.proofs.level.keep_children.Given as goal

-- the columns up to the last one were tried
abbrev pub invariant-loop-column : goal.invariant-loop-column
invariant-loop-column l = record {
  same : l.column-iterator.parent ≡ l.parent;
  refusal : l.refusal ≡ record { parent = l.parent; mode = l.fn.mode };
  so_far : HasKept l.fn.mode l.forbidden l.fn.forms l.column-iterator l.tried l.forms;
}
