use Rattle.std.proofs.Common.{◌≡◌, ◌-◌, take, drop}
use Rattle.std.specs.List.{concat}
use Rattle.form_key.proofs.to_key.codes_of.Given as goal

abbrev pub invariant-loop-j : goal.invariant-loop-j
invariant-loop-j l = l.codes.items ≡ concat (take (l.j - l.rep.rank) (drop l.rep.rank l.rep.columns))
