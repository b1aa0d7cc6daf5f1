use Rattle.std.proofs.Common.{refl, sym, ◌∙◌, ap, List, ℕ}
use mathlib.Core.Bool.{true≢false}
use Rattle.std.specs.Cmp.Lexicographic.{slice_cmp}
use Rattle.std.specs.Ordering.{nat_cmp}
use Rattle.form_search.proofs.Finish.{found_form}
use Rattle.form_states.proofs.Shapes.{shaped, is_whole}
use Rattle.fast_form.proofs.Owned.{not_form}
use Rattle.fast_form.proofs.form.verdict.Goals as goal

pub returns-then-not-better : goal.returns-then-not-better
returns-then-not-better c = (
  λ _. (found_form c.args.rep.now (is_whole _ _ _ _ _ c.requires.shape) c.args.least.now c.requires.class (c.requires.covers c.if-not-better.true)
      c.args.rep.now (shaped _ _ _ _ _ c.requires.shape) c.requires.shape.standard refl (sym (c.requires.own c.if-not-better.true))).0,
  λ _. refl,
)

pub returns-then-is_below : goal.returns-then-is_below
returns-then-is_below c = (
  λ e. absurd (true≢false (sym e)),
  λ f. absurd (not_form c.args.rep.now (shaped _ _ _ _ _ c.requires.shape) c.requires.shape.standard c.args.least.now c.requires.class
      (ap (λ (w : List ℕ). slice_cmp nat_cmp c.args.least.now w) (sym c.own_numbers-own.ensures) ∙ c.is_below.ensures.0 c.if-is_below.true) f),
)
