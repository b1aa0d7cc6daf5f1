use Rattle.std.proofs.Common.{◌≡◌}
use Rattle.workers.specs.Offered.{AreGathered, IsSamePass}
use Rattle.workers.proofs.ChildKeys.{HasOffered}
use Rattle.workers.proofs.children.offer_children.Given as goal

-- the keys for the columns up to the last one were offered or are gathered
abbrev pub invariant-loop-column : goal.invariant-loop-column
invariant-loop-column g l = record {
  parent : l.column-iterator.parent ≡ l.parent;
  children : l.children ≡ record { parent = l.parent; mode = l.fn.mode; forbidden = l.forbidden };
  same : IsSamePass l.fn.pass l.pass;
  gathered : AreGathered l.batches;
  so_far : HasOffered l.fn.mode l.forbidden l.fn.pass l.column-iterator l.tried l.pass l.batches;
}
