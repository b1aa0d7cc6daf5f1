use Rattle.std.proofs.Common.{slice_index}
use Rattle.form_search.specs.Start.{IsStarted, zero_test}
use Rattle.fast_form.proofs.form.zero_numbers.Given as goal

abbrev pub invariant-loop-e : goal.invariant-loop-e
invariant-loop-e l = IsStarted l.rep (slice_index l.groups) (zero_test l.marks) l.e l.settled
