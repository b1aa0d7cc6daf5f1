use Rattle.std.proofs.Common.{◌≡◌, ◌↔◌, ◌+◌, ◌^◌, ◌<◌, ℕ, IsTrue, ◌∙◌, ap, subst}
use Rattle.matroid_theory.specs.Matrix.{size_below}
use Rattle.matroid_theory.specs.Rep.{Rep, size, count}
use Rattle.matroid_theory.specs.Matroid.{members, IsIndependentIn}
use Rattle.matroid_theory.specs.Level.{followed_by}
use Rattle.extension.specs.Steps.{with_new}
use Rattle.extension.proofs.admissible.is_alike_one_by_one.Goals as goal

pub returns : goal.returns
returns c =
    subst (λ (P : Rep). IsTrue c.has_alike_factors.result ↔
    ((X f : ℕ) → X < 2 ^ size c.args.rep.now → size_below (size c.args.rep.now) (members X) + 1 ≡ c.args.rep.now.rank → f < count P →
    (IsIndependentIn P 0 (with_new c.args.rep.now (members X)) ↔ IsIndependentIn P f (with_new c.args.rep.now (members X)))))
    (c.push_column.ensures ∙ ap (λ (P : Rep). followed_by P c.args.column.now.items) c.copy-longer.ensures) c.has_alike_factors.ensures
