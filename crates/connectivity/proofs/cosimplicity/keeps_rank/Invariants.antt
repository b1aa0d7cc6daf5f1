use Rattle.connectivity.proofs.LeftOut.{AreLacking}
use Rattle.connectivity.proofs.cosimplicity.keeps_rank.Given as goal

-- the columns before this one but for the two are not of full rank
abbrev pub invariant-loop-k : goal.invariant-loop-k
invariant-loop-k l = AreLacking l.rep l.i l.j l.k l.rest.set l.rest.basis
