use Rattle.std.proofs.Common.{◌≡◌, ◌-◌, List, ℕ, Some, sym, ◌∙◌, ap, subst, arith}
use Rattle.std.specs.Prelude.{slice_get}
use Rattle.std.specs.Cmp.Lexicographic.{slice_cmp}
use Rattle.std.specs.Ordering.{nat_cmp}
use Rattle.std.specs.declared.cmp.Ordering.TheVariants.{Less}
use Rattle.matroid_theory.specs.Rep.{Rep}
use Rattle.orderly.proofs.refusal.is_below_last.Goals as goal

pub returns : goal.returns
returns c =
    let P : Rep = c.args.parent.now in
    let v : List ℕ = c.args.column.now.items in
    let last = ap (λ n. slice_get P.columns (n - 1)) (sym c.size-size.ensures.value) ∙ c.column.ensures in (
      λ e. record { later = omega arith; last = c.column.result.items; is_last = last; below = c.is_below.ensures.0 e },
      λ h.
          let both : Some c.column.result.items ≡ Some h.last = sym last ∙ h.is_last in
          let same : c.column.result.items ≡ h.last = cc both in
          c.is_below.ensures.1 (subst (λ (u : List ℕ). slice_cmp nat_cmp v u ≡ Less) (sym same) h.below),
    )
