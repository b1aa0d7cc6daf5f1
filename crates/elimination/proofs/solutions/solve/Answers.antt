use Rattle.std.proofs.Common.{◌≡◌, ℕ, sym, ◌∙◌, ap, subst, arith, ◌+◌, ◌<◌, ◌≤◌, length, refl, inl, inr, true, false, List, [], ◌∷◌, ◌++◌}
use Rattle.std.specs.List.{slice_index, refill}
use Rattle.std.proofs.lemmas.Bool.{false≢true, cases_lt}
use Rattle.arrayvec.specs.ArrayVec.{ArrayVec}
use Rattle.elimination.specs.Columns.{column, matrix_of, AreColumns, IsColumn}
use Rattle.elimination.specs.Cleared.{AreClearedBy}
use Rattle.elimination.proofs.Lists.{dependent, column_at_last, refill_whole}
use Rattle.elimination.proofs.Coefficients.{IsReduced, reduced_start, reduced_step, last_column, other_columns, target_column, whole_triangle, only_coefficients, only_combines}
use Rattle.elimination.proofs.solutions.solve.Goals as goal

pub loop-last-init : goal.loop-last-init
loop-last-init c =
    reduced_start c.args.field (length c.args.column.now.items) c.args.basis.now c.args.column.now.items c.copies-rest.result.items
    c.list_of-target.result.items c.new-equations.result.items c.new-sides.result.items
    c.copies-rest.ensures (c.list_of-target.ensures ∙ c.as_slice.ensures.value) c.new-equations.ensures c.new-sides.ensures
    c.requires.square (subst (λ (w : List ℕ). length w ≤ 6) c.as_slice.ensures.value c.as_slice.ensures.fits) c.requires.basis
    c.requires.column c.requires.independent

pub unreachable-requires : goal.unreachable-requires
unreachable-requires c = dependent c.args.field c.laws.ensures
    (length c.args.column.now.items) c.loop-last.rest.items c.pop.new.self.items c.in-Some.last c.in-Some.ensures.items
    c.in_default-pivot.ensures c.loop-last.invariant.independent

pub equation-requires-clause-columns : goal.equation-requires-clause-columns
equation-requires-clause-columns c = λ j l.
    let x = other_columns c.laws.ensures c.loop-last.invariant c.pop.new.self.items c.in-Some.last c.in-Some.ensures.items j
    (subst (λ (w : List (ArrayVec ℕ)). j < length w) c.as_slice-in-Some.ensures.value l) in
    subst (λ (w : List (ArrayVec ℕ)). c.in-Some-pivot.row < length (column w j)) (sym c.as_slice-in-Some.ensures.value)
    (subst (λ n. c.in-Some-pivot.row < n) (sym x.rows) c.in-Some-pivot.ensures.0)

pub bounds-deref-row : goal.bounds-deref-row
bounds-deref-row c =
    let x = target_column c.laws.ensures c.loop-last.invariant c.pop.new.self.items c.in-Some.last c.in-Some.ensures.items in
    subst (λ (w : List ℕ). c.in-Some-pivot.row < length w) (sym c.deref.ensures.0) (subst (λ n. c.in-Some-pivot.row < n) (sym x.rows) c.in-Some-pivot.ensures.0)

pub clear_all-requires-clause-columns : goal.clear_all-requires-clause-columns
clear_all-requires-clause-columns c =
    subst (AreColumns c.args.field (length c.in-Some.last.items)) (sym c.as_mut_slice.ensures.value)
    (other_columns c.laws.ensures c.loop-last.invariant c.pop.new.self.items c.in-Some.last c.in-Some.ensures.items)

pub clear_all-requires-clause-last : goal.clear_all-requires-clause-last
clear_all-requires-clause-last c = last_column c.laws.ensures c.loop-last.invariant c.pop.new.self.items c.in-Some.last c.in-Some.ensures.items

pub clear-requires-clause-column : goal.clear-requires-clause-column
clear-requires-clause-column c = target_column c.laws.ensures c.loop-last.invariant c.pop.new.self.items c.in-Some.last c.in-Some.ensures.items

pub clear-requires-clause-last : goal.clear-requires-clause-last
clear-requires-clause-last c = last_column c.laws.ensures c.loop-last.invariant c.pop.new.self.items c.in-Some.last c.in-Some.ensures.items

pub loop-last-preserved : goal.loop-last-preserved
loop-last-preserved c =
    let y : IsColumn c.args.field (length c.args.column.now.items) c.in-Some.last.items = column_at_last c.args.field c.laws.ensures
    (length c.args.column.now.items) c.loop-last.rest.items c.pop.new.self.items c.in-Some.last c.in-Some.ensures.items
    c.loop-last.invariant.codes in
    let k : length c.clear_all.new.columns ≡ length c.pop.new.self.items = c.clear_all.auto.columns
    ∙ ap (λ (w : List (ArrayVec ℕ)). length w) c.as_mut_slice.ensures.value in
    let e : refill (length c.pop.new.self.items) c.pop.new.self.items c.clear_all.new.columns ≡ c.clear_all.new.columns = refill_whole _ _ _ refl k in
    let h : AreClearedBy c.args.field c.in-Some-pivot.row c.in-Some.last.items c.pop.new.self.items c.clear_all.new.columns =
    subst (λ w. AreClearedBy c.args.field c.in-Some-pivot.row c.in-Some.last.items w c.clear_all.new.columns)
    c.as_mut_slice.ensures.value c.clear_all.ensures.cleared in
    let v : c.as_slice-in-Some.result.now ≡ c.pop.new.self.items = c.as_slice-in-Some.ensures.value in
    subst (λ w. IsReduced c.args.field (length c.args.column.now.items) c.args.basis.now c.args.column.now.items w
    c.clear.new.column.items c.push.new.self.items c.push-in-Some.new.self.items) (sym e)
    (reduced_step c.args.field c.laws.ensures (length c.args.column.now.items) c.args.basis.now c.args.column.now.items
    c.loop-last.rest.items c.loop-last.target.items c.loop-last.equations.items c.loop-last.sides.items c.loop-last.invariant
    c.pop.new.self.items c.clear_all.new.columns c.in-Some.last c.in-Some-pivot.row c.in-Some.ensures.items
    (subst (λ r. c.in-Some-pivot.row < r) y.rows c.in-Some-pivot.ensures.0) c.in-Some-pivot.ensures.1 k h
    c.clear.new.column.items c.clear.ensures.cleared c.equation.result
    (c.equation.ensures.count ∙ ap (λ (w : List (ArrayVec ℕ)). length w + 1) v)
    (subst (λ (w : List (ArrayVec ℕ)). (j : ℕ) → j < length w →
    slice_index c.equation.result.items j ≡ matrix_of w c.in-Some-pivot.row j) v c.equation.ensures.before)
    (subst (λ (w : List (ArrayVec ℕ)). slice_index c.equation.result.items
    (length w) ≡ slice_index c.in-Some.last.items c.in-Some-pivot.row) v c.equation.ensures.last)
    c.push.new.self.items c.push-in-Some.new.self.items c.push.ensures.items
    (c.push-in-Some.ensures.items ∙ ap (λ (w : List ℕ). c.loop-last.sides.items ++ slice_index w c.in-Some-pivot.row ∷ []) c.deref.ensures.0))

-- no column is left where the last loop ends
none_left : (rest : List (ArrayVec ℕ)) → (0 < length rest → false ≡ true) → length rest ≡ 0
none_left rest v = elim (cases_lt 0 (length rest)) [ inl l ↦ absurd (false≢true (v l)) | inr g ↦ omega arith ]

pub values-requires-clause-equations : goal.values-requires-clause-equations
values-requires-clause-equations c = whole_triangle c.loop-last.invariant
    (none_left c.loop-last.rest.items c.in_default.ensures.variant.1) c.as_slice-2.result.now c.as_slice-2.ensures.value

pub returns-clause-only : goal.returns-clause-only
returns-clause-only c =
    only_coefficients c.loop-last.invariant (none_left c.loop-last.rest.items c.in_default.ensures.variant.1)
    c.as_slice-2.result.now c.as_slice-2.ensures.value c.requires.square c.values.result.items c.values.ensures.only

pub returns-clause-combination : goal.returns-clause-combination
returns-clause-combination c =
    only_combines c.args.field c.laws.ensures (length c.args.column.now.items) c.args.basis.now c.args.column.now.items
    c.values.result.items c.requires.square c.requires.basis c.requires.column c.requires.independent (returns-clause-only c)
