use Rattle.std.proofs.Common.{◌≡◌, ◌<◌, ◌≤◌, ◌+◌, ◌*◌, [], ℕ, List, inl, inr, length, length-set, slice_index, slice_index_or, sym, ◌∙◌, ap, subst, arith}
use Rattle.std.specs.List.{slice_get}
use Rattle.std.specs.Prelude.{Some}
use Rattle.std.proofs.lemmas.Bool.{cases_lt}
use Rattle.std.proofs.lemmas.Option.{get_or_from_slice_get}
use Rattle.std.proofs.Math.Nat.{mul-le-mul, le_refl}
use Rattle.matroid_theory.specs.Rep.{Rep, count, size, matrix}
use Rattle.form_states.specs.States.{IsShapeOf}
use Rattle.form_states.proofs.GroupSteps.{set_at}
use Rattle.form_states.proofs.Shapes.{shaped}
use Rattle.fast_form.proofs.start.column_of.Goals as goal

module _ (M : Rep) (fields : List ℕ) (factors rank total : ℕ) (h : IsShapeOf M fields factors rank total) (e : ℕ) (e_below : e < size M) (items : List ℕ)
    (found : slice_get M.columns e ≡ Some items) where
  is_column : slice_index_or M.columns e [] ≡ items
  is_column = get_or_from_slice_get M.columns e items [] found

  long : length items ≡ M.rank * count M
  long = ap (λ (w : List ℕ). length w) (sym is_column) ∙ (let s = shaped M fields factors rank total h in s.lengths e e_below)

  room : (i : ℕ) → i < rank → (i + 1) * factors ≤ length items
  room i l =
      let a : (i + 1) * factors ≤ M.rank * factors = mul-le-mul (let r : rank ≡ M.rank = h.rank_is in let q : i + 1 ≤ M.rank = omega arith in q)
      (le_refl factors) in
      let b : M.rank * factors ≡ M.rank * count M = ap (λ k. M.rank * k) h.factors_are in
      let c : length items ≡ M.rank * count M = long in omega arith

  module _ (i : ℕ) (i_below : i < rank) (row : List ℕ) (codes : (f : ℕ) → f < factors → slice_index row f ≡ slice_index items (i * factors + f))
      (zeros : (f : ℕ) → factors ≤ f → f < 3 → slice_index row f ≡ 0) where
    own : (j f : ℕ) → j ≡ i → f < count M → slice_index row f ≡ matrix M f j e
    own j f y l =
        codes f (let q : factors ≡ count M = h.factors_are in omega arith) ∙ ap (λ k. slice_index items (i * k + f)) h.factors_are
        ∙ ap (λ k. slice_index items (k * count M + f)) (sym y) ∙ ap (λ (w : List ℕ). slice_index w (j * count M + f)) (sym is_column)

    own_below : (f : ℕ) → f < 3 → slice_index row f < slice_index fields f
    own_below f l = elim (cases_lt f (count M)) [
      | inl b ↦ subst (λ v. v < slice_index fields f) (sym (own i f (λ _. i) b)) (subst (λ q. matrix M f i e < q) (sym (h.fields_are f b))
          (let s = shaped M fields factors rank total h in s.codes f i e b (let r : rank ≡ M.rank = h.rank_is in omega arith) e_below))
      | inr b ↦ subst (λ v. v < slice_index fields f) (sym (zeros f (let q : factors ≡ count M = h.factors_are in omega arith) l))
          (let q : 1 < slice_index fields f = (let w = h.limits in w.scalars f l) in omega arith)
    ]

pub row_of-requires-clause-room : goal.row_of-requires-clause-room
row_of-requires-clause-room c = room _ _ _ _ _ c.requires.shape c.args.e c.requires.element c.column-codes.result.items c.column-codes.ensures c.loop-i.i
    c.loop-i-test.true

pub loop-i-preserved : goal.loop-i-preserved
loop-i-preserved c = record {
  size = length-set c.loop-i.column c.loop-i.i c.row_of.result ∙ c.loop-i.invariant.size;
  codes = λ j l f m. set_at c.loop-i.column c.loop-i.i c.row_of.result [] j (let z : length c.loop-i.column ≡ 6 = c.loop-i.invariant.size in omega
      (arith, c.requires.shape.limits.low, c.loop-i-test.true))
      (λ (row : List ℕ). slice_index row f < slice_index c.args.shape.now.fields f)
      (λ _. own_below _ _ _ _ _ c.requires.shape c.args.e c.requires.element c.column-codes.result.items c.column-codes.ensures c.loop-i.i c.loop-i-test.true
      c.row_of.result c.row_of.ensures.codes c.row_of.ensures.zeros f m)
      (λ _. c.loop-i.invariant.codes j l f m);
  rows = λ j l f m. set_at c.loop-i.column c.loop-i.i c.row_of.result [] j (let z : length c.loop-i.column ≡ 6 = c.loop-i.invariant.size in omega
      (arith, c.requires.shape.limits.low, c.loop-i-test.true))
      (λ (row : List ℕ). slice_index row f ≡ matrix c.args.rep.now f j c.args.e)
      (λ y. own _ _ _ _ _ c.requires.shape c.args.e c.requires.element c.column-codes.result.items c.column-codes.ensures c.loop-i.i c.loop-i-test.true
      c.row_of.result c.row_of.ensures.codes c.row_of.ensures.zeros j f y m)
      (λ n. c.loop-i.invariant.rows j (elim (cases_lt j c.loop-i.i) [ inl b ↦ b | inr b ↦ absurd (n (omega arith)) ]) f m);
}
