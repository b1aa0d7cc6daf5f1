use Rattle.std.proofs.Common.{◌≡◌, take}
use Rattle.std.specs.List.{flat_map}
use Rattle.class_store.specs.declared.closed.ClosedStripe.{ClosedStripe}
use Rattle.class_store.proofs.rising.gathered.Given as goal

abbrev pub invariant-loop-stripe : goal.invariant-loop-stripe
invariant-loop-stripe l = l.keys.items ≡ flat_map (λ (c : ClosedStripe). c.set.keys) (take l.stripe-index l.stripes)
