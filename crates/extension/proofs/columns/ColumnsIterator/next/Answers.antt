use Rattle.std.proofs.Common.{◌≡◌, ◌<◌, ◌-◌, ℕ, List, sym, ◌∙◌, subst}
use Rattle.extension.specs.Admissible.{ColumnsAfter, IsNextColumn, IsAdmissible, value, above_values}
use Rattle.extension.specs.Steps.{KeepsColumns}
use Rattle.extension.proofs.Values.{nearer}
use Rattle.extension.proofs.columns.ColumnsIterator.next.Goals as goal

-- a step goes nearer to the end, by the names of the states
progress : (columns now : ColumnsAfter) (v last : List ℕ) → columns ≡ now → last ≡ v → KeepsColumns columns →
    IsNextColumn columns v → above_values - value last < above_values - value now.last
progress columns now v last e d k n =
    let r = k.is_rep in
    let a : IsAdmissible columns.parent v = n.admissible in
    subst (λ (now : ColumnsAfter). above_values - value last < above_values - value now.last) e
    (subst (λ (last : List ℕ). above_values - value last < above_values - value columns.last) (sym d)
    (nearer columns.parent.factors r.fields columns.parent.rank r.rank_most columns.last v k.start a.normalised n.after))

pub returns-clause-goes : goal.returns-clause-goes
returns-clause-goes c = record {
  on = λ _. (tt, tt, progress _ _ _ _ c.self.view_is (c.list_of-self-inside.ensures ∙ c.as_slice.ensures.value) c.self.invariant.0 c.in_ok-column.ensures);
  keeps = tt;
  rests = λ _. tt;
}
