use Rattle.canonical_form.proofs.Others.{AreOthersBelow}
use Rattle.canonical_form.proofs.coordinates.other_coordinates.Given as goal

abbrev pub invariant-loop-k : goal.invariant-loop-k
invariant-loop-k l = AreOthersBelow l.rep l.basis l.k l.list
