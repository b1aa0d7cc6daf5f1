use Rattle.std.proofs.Common.{◌≡◌, ◌∙◌, ◌<◌, ◌+◌, ◌-◌, suc, sym, ap, subst, arith, ℕ, List, [], length, slice_index, slice_index_or, refl}
use Rattle.std.proofs.lemmas.List.{get_or_read}
use Rattle.arrayvec.specs.ArrayVec.{ArrayVec}
use Rattle.elimination.specs.Columns.{column}
use Rattle.elimination.specs.Equations.{sum_of_products, IsEquation}
use Rattle.elimination.proofs.Coefficients.{one_more, column_more}
use Rattle.elimination.proofs.solutions.values.Goals as goal

-- the equation that is read
read : (es : List (ArrayVec ℕ)) (l n : ℕ) (e : ArrayVec ℕ) → 0 < l → l + n ≡ length es → e ≡ slice_index_or es (l - 1) e → column es (l - 1) ≡ e.items
read es l n e z s h = ap (λ (v : ArrayVec ℕ). v.items) (sym (get_or_read es (l - 1) e (omega arith) h (record { items = [] })))

pub value-next-requires-clause-equation : goal.value-next-requires-clause-equation
value-next-requires-clause-equation c =
    let e : IsEquation c.args.field (length c.loop-l.values.items) c.index-equations-l.result.items =
    subst (IsEquation c.args.field (length c.loop-l.values.items))
    (read c.args.equations.now c.loop-l.l (length c.loop-l.values.items) c.index-equations-l.result c.loop-l-test.true
    c.loop-l.invariant.count c.index-equations-l.is)
    (c.requires.equations (c.loop-l.l - 1) (length c.loop-l.values.items) (omega arith) (omega arith)) in
    e

pub loop-l-preserved : goal.loop-l-preserved
loop-l-preserved c = record {
  count = omega arith;
  codes = λ j l.
      let m = column_more c.args.field (length c.loop-l.values.items) c.loop-l.values.items c.value-next.result
      (record { rows = refl; below = c.loop-l.invariant.codes }) c.value-next.ensures.code in
      subst (λ (w : List ℕ). slice_index w j < c.args.field) (sym c.push.ensures.items) (m.below j (omega arith));
  only = λ a k m j l.
      let known = c.loop-l.invariant.only a k m in
      let e : sum_of_products c.args.field (suc (length c.loop-l.values.items)) c.index-equations-l.result.items a ≡ slice_index
      c.deref.result.now (c.loop-l.l - 1) =
      sym (ap (λ (v : List ℕ). sum_of_products c.args.field (suc (length c.loop-l.values.items)) v a)
      (read c.args.equations.now c.loop-l.l (length c.loop-l.values.items) c.index-equations-l.result c.loop-l-test.true
      c.loop-l.invariant.count c.index-equations-l.is))
      ∙ m (c.loop-l.l - 1) (length c.loop-l.values.items) (omega arith) (omega arith)
      ∙ ap (λ (v : List ℕ). slice_index v (c.loop-l.l - 1)) (sym c.deref.ensures.0) in
      let next : a (length c.loop-l.values.items) ≡ c.value-next.result = c.value-next.ensures.only a known
      (k (length c.loop-l.values.items) (omega arith)) e in
      subst (λ (w : List ℕ). j < length w → a j ≡ slice_index w j) (sym c.push.ensures.items)
      (one_more c.loop-l.values.items c.value-next.result a known next j) l;
}
