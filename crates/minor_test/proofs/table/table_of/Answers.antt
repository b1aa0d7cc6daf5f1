use Rattle.std.proofs.Common.{◌≡◌, ◌||◌, ◌↔◌, ℕ, Bool, sym, ◌∙◌, ap, subst, arith, List, [], ◌∷◌, ◌++◌, take, IsTrue, inl, inr, slice_index}
use Rattle.std.specs.Bool.{◌==◌}
use Rattle.std.specs.List.{Contains}
use Rattle.std.proofs.lemmas.Bool.{false≢true, eqb-true, or_cases, or_left, or_right}
use Rattle.std.proofs.lemmas.List.{take_more, take_all}
use Rattle.std.proofs.lemmas.List.Elements.{Contains-push, Contains-push_cases, Contains-append_left}
use Rattle.matrix_lemmas.proofs.Sums.{same_number}
use Rattle.matroid_theory.specs.Tables.{has}
use Rattle.minor_test.proofs.table.table_of.Goals as goal

-- one more mask
with_mask : (before : List ℕ) (set X : ℕ) (a b : Bool) → b ≡ (a || (set == X)) → IsTrue a ↔ Contains before X → IsTrue b ↔ Contains (before ++ set ∷ []) X
with_mask before set X a b e h = (
  (λ t. elim (or_cases a (set == X) (sym e ∙ t)) [
    | inl o ↦ Contains-append_left before (set ∷ []) X (h.0 o)
    | inr o ↦ subst (λ (x : ℕ). Contains (before ++ set ∷ []) x) (eqb-true set X o) (Contains-push before set)
  ]),
  (λ m. e ∙ elim (Contains-push_cases before set X m) [
    | inl o ↦ or_left a (set == X) (h.1 o)
    | inr o ↦ or_right a (set == X) (ap (λ x. x == X) o ∙ same_number X)
  ]),
)

pub loop-mask-init : goal.loop-mask-init
loop-mask-init c X = ((λ t. absurd (false≢true (sym (c.new-table.ensures X) ∙ t))), (λ m. absurd (let l = m.1 in omega arith)))

pub loop-mask-preserved : goal.loop-mask-preserved
loop-mask-preserved c X =
    subst (λ (xs : List ℕ). IsTrue (has c.add.new.self.words X) ↔ Contains xs X)
    (sym (take_more c.args.masks.now c.loop-mask.mask-index 0 c.loop-mask-test.true))
    (with_mask (take c.loop-mask.mask-index c.args.masks.now) (slice_index c.args.masks.now c.loop-mask.mask-index) X
    (has c.loop-mask.table.words X) (has c.add.new.self.words X) (c.add.ensures X) (c.loop-mask.invariant X))

pub returns : goal.returns
returns c = record {
  exact = λ X _. subst (λ (xs : List ℕ). IsTrue (has c.loop-mask.table.words X) ↔ Contains xs X)
      (take_all c.loop-mask.mask-index c.args.masks.now c.loop-mask-test.false) (c.loop-mask.invariant X);
}
