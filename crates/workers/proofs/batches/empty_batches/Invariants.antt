use Rattle.std.proofs.Common.{◌≡◌, [], replicate}
use Rattle.workers.proofs.batches.empty_batches.Given as goal

abbrev pub invariant-loop : goal.invariant-loop
invariant-loop l = l.batches.items ≡ replicate l.counter []
