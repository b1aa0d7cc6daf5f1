use Rattle.std.proofs.Common.{rules, ◌↔◌}
use Rattle.matroid_theory.specs.Matroid.{members}
use Rattle.column_sets.specs.Picked.{IsIndependentSet}
use Rattle.column_sets.specs.Sets.{IsSetOfSize}
use Rattle.column_sets.proofs.SetLemmas.{no_set_found}
use Rattle.bases.proofs.Factors.{same_bases}
use Rattle.bases.proofs.basis.is_alike.Goals as goal

pub returns : goal.returns
returns c =
    same_bases c.args.rep.now c.laws.ensures 0 c.args.factor c.args.first.now.field c.of-other.result.field
    c.args.first.now.columns.items c.of-other.result.columns.items c.requires.first c.of-other.ensures
    c.size.result c.rank.result c.is_none.result c.size.ensures.value c.rank.ensures
    (no_set_found (IsSetOfSize c.size.result c.rank.result) _
    (λ X. IsIndependentSet c.args.first.now.field c.args.first.now.columns.items
    (members X) ↔ IsIndependentSet c.of-other.result.field c.of-other.result.columns.items (members X))
    c.first_of_size.result c.is_none.result c.is_none.ensures (λ X s b e. search rules) c.first_of_size.ensures)
