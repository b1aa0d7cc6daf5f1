use Rattle.std.proofs.Common.{◌-◌, ◌<◌, ◌≤◌, ◌^◌, ℕ, length}
use Rattle.minor_test.specs.Searches.{AgreeBelow}
use Rattle.minor_test.proofs.Embeddings.{IsDone}
use Rattle.minor_test.proofs.search.Search.+complete.Given as goal

abbrev pub decreases-complete : goal.decreases-complete
decreases-complete l = l.self.now.sought.now.size - length l.images.now.list.items

abbrev pub invariant-loop-image : goal.invariant-loop-image
invariant-loop-image l =
    record {
      done : (j : ℕ) → j < l.image → l.first ≤ j → IsDone l.self l.images.list.items j;
      kept : AgreeBelow (2 ^ length l.images.list.items) l.initial.sets l.sets;
    }
