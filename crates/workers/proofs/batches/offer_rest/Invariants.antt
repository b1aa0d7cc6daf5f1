use Rattle.workers.proofs.Calls.{IsRest}
use Rattle.workers.proofs.batches.offer_rest.Given as goal

abbrev pub invariant-loop-stripe : goal.invariant-loop-stripe
invariant-loop-stripe g l = IsRest l.fn.pass l.fn.batches l.stripe l.pass l.batches
