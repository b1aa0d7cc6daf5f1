use Rattle.std.proofs.Common.{◌≡◌, ◌<◌, ◌-◌, ◌↔◌, ◌||◌, arith, rules}
use Rattle.std.specs.Bool.{◌==◌}
use Rattle.matroid_theory.specs.Rep.{KeepsLimits}
use Rattle.matroid_theory.specs.Matroid.{members}
use Rattle.column_sets.specs.Picked.{IsIndependentSet}
use Rattle.column_sets.specs.Sets.{IsSetOfSize}
use Rattle.column_sets.proofs.SetLemmas.{no_set_found}
use Rattle.extension.proofs.Alike.{each_set}
use Rattle.extension.proofs.admissible.is_alike_in.Goals as goal

pub returns : goal.returns
returns c =
    let r : KeepsLimits c.args.rep.now = c.laws.ensures in
    let p : 0 < c.args.rep.now.rank = r.rank_positive in
    let e : c.rank.result ≡ c.args.rep.now.rank = c.rank.ensures in
    each_set c.args.rep.now c.size-size.result (c.rank.result - 1) c.size-size.ensures.value (omega arith)
    (λ S. IsIndependentSet c.args.first.now.field c.args.first.now.columns.items S ↔ IsIndependentSet c.args.other.now.field
    c.args.other.now.columns.items S) c.is_none.result
    (no_set_found (IsSetOfSize c.size-size.result (c.rank.result - 1)) _
    (λ X. IsIndependentSet c.args.first.now.field c.args.first.now.columns.items (λ j. (j == c.size-size.result) || members X j)
    ↔ IsIndependentSet c.args.other.now.field c.args.other.now.columns.items (λ j. (j == c.size-size.result) || members X j))
    c.first_of_size.result c.is_none.result c.is_none.ensures (λ X s b a. search rules) c.first_of_size.ensures)
