-- Columns that are multiples of columns with the same codes, and factors that are 1.
use Rattle.std.proofs.Common.{◌≡◌, ◌<◌, ◌≤◌, ℕ, true, false, List, slice_index, sym, ◌∙◌, ap, arith, cond}
use Rattle.std.specs.Bool.{◌==◌}
use Rattle.matroid_theory.specs.Field.{IsField, plus, times}
use Rattle.form_states.specs.Codes.{AreColumnCodes, code, cleared_code, IsNormalisedFrom}
use Rattle.form_states.specs.States.{AreLimits}

-- a column with the same codes
pub normalised_same : (fields : List ℕ) (factors rows : ℕ) (c v n : ℕ → ℕ → ℕ) → 1 ≤ factors → ((f i : ℕ) → f < factors → i < rows → c f i ≡ v f i) →
    IsNormalisedFrom fields factors rows c n → IsNormalisedFrom fields factors rows v n
normalised_same fields factors rows c v n one e w = record {
  multiple = w.multiple;
  multiple_code = w.multiple_code;
  multiple_nonzero = w.multiple_nonzero;
  multiples = λ f i l b. w.multiples f i l b ∙ ap (times (slice_index fields f) (w.multiple f)) (e f i l b);
  leads = λ p b z n f l m. w.leads p b (λ i q. e 0 i (omega arith) (omega arith) ∙ z i q) (λ o. n (sym (e 0 p (omega arith) b) ∙ o)) f l
      (λ o. m (sym (e f p l b) ∙ o));
}

-- a cleared code is one of its field
cleared_below : (fields : List ℕ) (p : ℕ) (minus e : ℕ → ℕ → ℕ) (f j : ℕ) → IsField (slice_index fields f) → e f p < slice_index fields f →
    cleared_code fields p minus e f j < slice_index fields f
cleared_below fields p minus e f j F b =
    elim (j == p) as (λ v. cond v (e f p) (plus (slice_index fields f) (e f j) (times (slice_index fields f) (e f p) (minus f j))) < slice_index fields f) [
      | true ↦ b
      | false ↦ F.plus_below (e f j) (times (slice_index fields f) (e f p) (minus f j))
    ]

-- to multiply by 1 changes no cleared code
pub cleared_by_one : (fields : List ℕ) (factors rank total p : ℕ) (column : List (List ℕ)) (minus by : ℕ → ℕ → ℕ) (f i j : ℕ) →
    AreLimits fields factors rank total → AreColumnCodes fields column → p < rank → f < factors → IsField (slice_index fields f) → by f i ≡ 1 →
    cleared_code fields p minus (code column) f j ≡ times (slice_index fields f) (by f i) (cleared_code fields p minus (code column) f j)
cleared_by_one fields factors rank total p column minus by f i j limits codes pb l F one =
    let t : f < 3 = omega (arith, limits.few) in let s : p < 6 = omega (arith, limits.low) in
    sym (ap (λ x. times (slice_index fields f) x (cleared_code fields p minus (code column) f j)) one
    ∙ F.times_one (cleared_code fields p minus (code column) f j) (cleared_below fields p minus (code column) f j F (codes p s f t)))
