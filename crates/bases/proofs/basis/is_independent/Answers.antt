use Rattle.matroid_theory.specs.Matroid.{members}
use Rattle.bases.proofs.Factors.{independent_same}
use Rattle.bases.proofs.basis.is_independent.Goals as goal

pub returns : goal.returns
returns c =
    let s = independent_same c.args.rep.now c.laws.ensures c.args.factor c.of.result.field c.of.result.columns.items c.of.ensures (members c.args.set) in
    (λ t. s.0 (c.is_independent.ensures.0 t), λ i. c.is_independent.ensures.1 (s.1 i))
