use Rattle.canonical_form.proofs.Leads.{AreZerosBefore}
use Rattle.canonical_form.proofs.scalars.scale.Given as goal

abbrev pub invariant-loop-i : goal.invariant-loop-i
invariant-loop-i l = AreZerosBefore l.rep l.column.items l.factor l.i
