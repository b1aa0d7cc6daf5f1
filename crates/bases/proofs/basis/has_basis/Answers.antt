use Rattle.std.proofs.Common.{rules}
use Rattle.matroid_theory.specs.Matroid.{members}
use Rattle.column_sets.specs.Picked.{IsIndependentSet}
use Rattle.column_sets.specs.Sets.{IsSetOfSize}
use Rattle.column_sets.proofs.SetLemmas.{set_found}
use Rattle.bases.proofs.Factors.{some_basis}
use Rattle.bases.proofs.basis.has_basis.Goals as goal

pub returns : goal.returns
returns c =
    some_basis c.args.rep.now c.laws.ensures 0 c.args.first.now.field c.args.first.now.columns.items c.requires c.size.result
    c.rank.result c.is_some.result c.size.ensures.value c.rank.ensures
    (set_found (IsSetOfSize c.size.result c.rank.result)
    _ (λ X. IsIndependentSet c.args.first.now.field c.args.first.now.columns.items (members X)) c.first_of_size.result
    c.is_some.result c.is_some.ensures
    (λ X s b e. search rules) c.first_of_size.ensures)
