use Rattle.std.proofs.Common.{◌↔◌, ℕ, Bool, IsFalse, subst}
use Rattle.column_sets.specs.Picked.{IsIndependentSet}
use Rattle.extension.proofs.PlaneLemmas.{members_with}
use Rattle.extension.proofs.admissible.differs_with.Goals as goal

pub returns : goal.returns
returns c =
    subst (λ (S : ℕ → Bool). IsFalse c.differs.result ↔
    (IsIndependentSet c.args.first.now.field c.args.first.now.columns.items S ↔ IsIndependentSet c.args.other.now.field
    c.args.other.now.columns.items S))
    (λ i j. members_with c.args.set c.args.new j c.requires i) c.differs.ensures
