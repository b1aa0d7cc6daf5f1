use Rattle.std.proofs.Common.{◌≡◌, ◌≤◌, ℕ, arith, sym, ◌∙◌, subst, refl, inl, inr}
use Rattle.std.proofs.lemmas.Bool.{false≢true, cases_lt}
use Rattle.matroid_theory.specs.Rep.{size}
use Rattle.matroid_theory.specs.Matroid.{IsIndependentIn}
use Rattle.matrix_lemmas.proofs.Pairs.{pair, pairs_both}
use Rattle.bases.proofs.simple.is_simple_in.Goals as goal

pub returns-then-not-is_apart_from_earlier : goal.returns-then-not-is_apart_from_earlier
returns-then-not-is_apart_from_earlier c = (
  λ t. absurd (false≢true t),
  λ h. absurd (false≢true (sym c.if-not-is_apart_from_earlier.true ∙ c.is_apart_from_earlier.ensures.1 (λ i l. h i c.loop-j.j (omega arith) (omega arith)))),
)

pub loop-j-preserved : goal.loop-j-preserved
loop-j-preserved c j l =
    elim (cases_lt j c.loop-j.j) [
      | inl b ↦ c.loop-j.invariant j b
      | inr g ↦ (let e : c.loop-j.j ≡ j = omega arith in
          subst (λ (x : ℕ). (i : ℕ) → i ≤ x → IsIndependentIn c.args.rep.now c.args.factor (pair i x)) e
          (c.is_apart_from_earlier.ensures.0 c.if-not-is_apart_from_earlier.false))
    ]

pub returns : goal.returns
returns c = (λ _. pairs_both c.args.rep.now c.args.factor (size c.args.rep.now) (λ j l. c.loop-j.invariant j (omega arith)), λ _. refl)
