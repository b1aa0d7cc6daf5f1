use Rattle.std.proofs.Common.{◌<◌, ◌+◌, ◌*◌, ℕ, List, length, sym, ◌∙◌, subst}
use Rattle.matroid_theory.specs.Move.{MoveTable, row_place}
use Rattle.product_rep.proofs.EntryLemmas.{set_in_place}
use Rattle.symmetry.proofs.Copies.{row_room, rows_copied}
use Rattle.symmetry.proofs.single.OpenMove.set_rows.Goals as goal

pub bounds-deref_mut-factor : goal.bounds-deref_mut-factor
bounds-deref_mut-factor c =
    let s = c.self.inside in
    let r = c.from-rank.ensures ∙ c.self.invariant.ranks in
    let f = c.args.factor in
    let i = c.args.row in
    let j = c.args.column in
    subst (λ (xs : List ℕ). (f * c.from-rank.result + i) * c.from-rank.result + j < length xs) (sym c.deref_mut.ensures.value)
    (subst (λ (p : ℕ). p < length s.rows.items) (sym (λ u. (f * r u + i) * r u + j))
    (subst (λ (n : ℕ). row_place s.step.shape f i j < n) (sym c.self.invariant.rows_length)
    (row_room s.step s.factors s.rank s.powers.items s.rows.items c.self.invariant c.laws.ensures f i j
    (subst (λ (t : MoveTable). f < length t.shape.factors) (sym c.self.view_is) c.requires.factor)
    (subst (λ (t : MoveTable). i < t.shape.rank) (sym c.self.view_is) c.requires.row)
    (subst (λ (t : MoveTable). j < t.shape.rank) (sym c.self.view_is) c.requires.column))))

pub invariant_of-self : goal.invariant_of-self
invariant_of-self c =
    let s = c.self.inside in
    let r = c.from-rank.ensures ∙ c.self.invariant.ranks in
    let f = c.args.factor in
    let i = c.args.row in
    let j = c.args.column in
    rows_copied s.step s.factors s.rank s.powers.items s.rows.items c.self.invariant c.laws.ensures f i j c.args.code c.args.inverse_code
    ((f * c.from-rank.result + i) * c.from-rank.result + j)
    (subst (λ (t : MoveTable). f < length t.shape.factors) (sym c.self.view_is) c.requires.factor)
    (subst (λ (t : MoveTable). i < t.shape.rank) (sym c.self.view_is) c.requires.row)
    (subst (λ (t : MoveTable). j < t.shape.rank) (sym c.self.view_is) c.requires.column)
    (λ u. (f * r u + i) * r u + j) c.set_rows.new.self c.set_rows.ensures _
    (set_in_place s.rows.items c.deref_mut.result.now _ c.args.code c.deref_mut.ensures.value)
