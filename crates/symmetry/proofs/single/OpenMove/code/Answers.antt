use Rattle.std.proofs.Common.{◌≡◌, ◌<◌, ◌+◌, ◌*◌, ℕ, List, length, sym, ◌∙◌, ap, subst, slice_index}
use Rattle.matroid_theory.specs.Field.{IsField}
use Rattle.matroid_theory.specs.Move.{MoveTable}
use Rattle.matrix_lemmas.proofs.FieldLaws.{field_laws}
use Rattle.product_rep.proofs.PiecesLemmas.{place_below}
use Rattle.symmetry.proofs.Copies.{mapped_is}
use Rattle.symmetry.proofs.single.OpenMove.code.Goals as goal

pub mapped_code-requires-clause-places : goal.mapped_code-requires-clause-places
mapped_code-requires-clause-places c k l =
    let t : MoveTable = c.args.self.now in
    let ce : c.count.result ≡ length t.shape.factors = c.count.ensures.count
    ∙ ap (λ (fs : List ℕ). length fs) c.self.invariant.same_factors ∙ ap (λ (t : MoveTable). length t.shape.factors) c.self.view_is in
    subst (λ (n : ℕ). k * n + c.args.factor < length c.args.column.now.items) (sym ce)
    (subst (λ (n : ℕ). k * length t.shape.factors + c.args.factor < n) (sym c.requires.column.rows)
    (place_below t.shape.rank (length t.shape.factors) k c.args.factor (subst (λ (n : ℕ). k < n) c.row.ensures.length l) c.requires.factor))

pub returns-clause-mapped : goal.returns-clause-mapped
returns-clause-mapped c =
    let t : MoveTable = c.args.self.now in
    let f : ℕ = c.args.factor in
    let here : f < length c.self.inside.step.shape.factors = subst (λ (t : MoveTable). f < length t.shape.factors) (sym c.self.view_is) c.requires.factor in
    mapped_is t c.args.column.now.items f c.args.i c.field.result (slice_index c.deref.result.now f) c.count.result
    (length c.row.result.now) c.mapped_code.result c.row.result.now
    (subst (λ (t : MoveTable). IsField (slice_index t.shape.factors f)) c.self.view_is
    (field_laws (slice_index c.self.inside.step.shape.factors f) (c.laws.ensures.fields.fields f here)))
    (c.field.ensures ∙ ap (λ (fs : List ℕ). slice_index fs f) c.self.invariant.same_factors
    ∙ ap (λ (t : MoveTable). slice_index t.shape.factors f) c.self.view_is)
    (ap (λ (xs : List ℕ). slice_index xs f) c.deref.ensures.0 ∙ c.self.invariant.powers_are f here
    ∙ ap (λ (t : MoveTable). slice_index t.powers f) c.self.view_is)
    (c.count.ensures.count ∙ ap (λ (fs : List ℕ). length fs) c.self.invariant.same_factors ∙ ap (λ (t : MoveTable). length t.shape.factors) c.self.view_is)
    c.row.ensures.length c.row.ensures.entries c.mapped_code.ensures.sum
