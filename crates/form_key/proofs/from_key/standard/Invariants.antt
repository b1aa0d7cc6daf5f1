use Rattle.form_key.proofs.Built.{IsBuilt}
use Rattle.form_key.proofs.from_key.standard.Given as goal

abbrev pub invariant-loop-j : goal.invariant-loop-j
invariant-loop-j l = IsBuilt l.fn.factors l.rank l.codes l.j l.rep
