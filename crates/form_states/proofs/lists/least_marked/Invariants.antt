use Rattle.form_states.specs.States.{IsLeastMarked}
use Rattle.form_states.proofs.lists.least_marked.Given as goal

abbrev pub invariant-loop-e : goal.invariant-loop-e
invariant-loop-e l = IsLeastMarked l.marks l.numbers l.e l.least
