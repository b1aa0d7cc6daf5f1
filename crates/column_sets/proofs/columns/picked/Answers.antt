use Rattle.std.proofs.Common.{◌≡◌, ◌≤◌, ◌∙◌, ap, sym, arith, lit<, length, ℕ, refl, []}
use Rattle.std.proofs.lemmas.List.Elements.{at_read}
use Rattle.arrayvec.specs.ArrayVec.{ArrayVec}
use Rattle.matroid_theory.specs.Matrix.{size_below}
use Rattle.matroid_theory.specs.Matroid.{members}
use Rattle.matrix_lemmas.proofs.Bases.{size_most}
use Rattle.elimination.specs.Columns.{column}
use Rattle.column_sets.proofs.PickedColumns.{more_picked, same_picked}
use Rattle.column_sets.proofs.columns.picked.Goals as goal
use Rattle.column_sets.proofs.columns.picked.Goals.{then-in_set, else-in_set}

pub push-requires : goal.push-requires
push-requires c =
    let m : size_below c.loop-j.j (members c.args.set) ≤ c.loop-j.j = size_most c.loop-j.j (members c.args.set) in
    let e : length c.loop-j.list.items ≡ size_below c.loop-j.j (members c.args.set) = c.loop-j.invariant.count in
    (lit< tt, omega arith)

pub loop-j-preserved : goal.loop-j-preserved
loop-j-preserved c = elim c.if-in_set.branch [
  | then-in_set w ↦ more_picked (column c.args.columns.now) c.loop-j.j (members c.args.set) c.loop-j.list.items c.if-in_set.list.items w.list_of.result
      (sym c.in_set.ensures ∙ w.if-in_set.true) (ap (λ (v : ArrayVec (ArrayVec ℕ)). v.items) w.list-is ∙ w.push.ensures.items)
      (w.list_of.ensures ∙ w.as_slice.ensures.value
      ∙ at_read c.args.columns.now (λ y. w.index-columns-j.result.items ≡ y.items) c.loop-j.j w.index-columns-j.result
      (omega arith) w.index-columns-j.is refl (record { items = [] }))
      c.loop-j.invariant
  | else-in_set w ↦ same_picked (column c.args.columns.now) c.loop-j.j (members c.args.set) c.loop-j.list.items c.if-in_set.list.items
      (sym c.in_set.ensures ∙ w.if-in_set.false) (ap (λ (v : ArrayVec (ArrayVec ℕ)). v.items) w.list-is) c.loop-j.invariant
]
