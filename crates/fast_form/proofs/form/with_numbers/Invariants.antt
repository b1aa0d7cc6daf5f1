use Rattle.fast_form.proofs.Decoded.{IsPart}
use Rattle.fast_form.proofs.form.with_numbers.Given as goal

abbrev pub invariant-loop-j : goal.invariant-loop-j
invariant-loop-j l = IsPart l.rep l.numbers l.j l.form
