use Rattle.std.proofs.Common.{◌≡◌, ◌<◌, ◌≤◌, ◌*◌, ◌%◌, ◌/◌, ℕ, List, length, sym, ◌∙◌, ap, subst, slice_index}
use Rattle.matroid_theory.specs.Field.{IsField}
use Rattle.matroid_theory.specs.Move.{MoveTable}
use Rattle.matroid_theory.specs.Rep.{IsProductColumn}
use Rattle.matrix_lemmas.proofs.FieldLaws.{field_laws}
use Rattle.matrix_lemmas.proofs.Sums.{sum_below-code}
use Rattle.product_rep.specs.Tables.{KeepsMove}
use Rattle.symmetry.specs.Images.{code_at, mapped}
use Rattle.symmetry.proofs.Places.{made-at, column_of_codes, filled}
use Rattle.symmetry.proofs.single.OpenMove.mapped.Goals as goal

-- the codes by row and factor, in the words of the move
codes_made : (t : MoveTable) (v image : List ℕ) (r c n : ℕ) → c ≡ length t.shape.factors → r ≡ t.shape.rank → r * c ≤ n →
    ((k : ℕ) → k < n → slice_index image k ≡ mapped t v (k % c) (k / c))
    → (f i : ℕ) → f < length t.shape.factors → i < t.shape.rank → code_at t.shape.factors image f i ≡ mapped t v f i
codes_made t v image r c n ce re l h = made-at t.shape.factors t.shape.rank c n image (mapped t v) ce (subst (λ (r : ℕ). r * c ≤ n) re l) h

column_made : (t : MoveTable) (v image : List ℕ) (r c n : ℕ) → KeepsMove t → c ≡ length t.shape.factors → r ≡ t.shape.rank →
    length image ≡ n → n ≤ r * c → r * c ≤ n → ((k : ℕ) → k < n → slice_index image k ≡ mapped t v (k % c) (k / c))
    → IsProductColumn t.shape.factors t.shape.rank image
column_made t v image r c n k ce re e b l h =
    column_of_codes t.shape.factors t.shape.rank image
    (filled t.shape.factors t.shape.rank c n (length image) ce e (subst (λ (r : ℕ). n ≤ r * c) re b) (subst (λ (r : ℕ). r * c ≤ n) re l))
    (λ f i m o.
    let F : IsField (slice_index t.shape.factors f) = field_laws (slice_index t.shape.factors f) (k.fields.fields f m) in
    subst (λ (x : ℕ). x < slice_index t.shape.factors f) (sym (codes_made t v image r c n ce re l h f i m o))
    (sum_below-code (slice_index t.shape.factors f) F t.shape.rank _))

pub returns-clause-column : goal.returns-clause-column
returns-clause-column c =
    column_made c.args.self.now c.args.column.now.items c.loop-place.image.items c.from.result c.count-count.result c.loop-place.place
    (subst KeepsMove c.self.view_is c.laws.ensures)
    (c.count-count.ensures.count ∙ ap (λ (fs : List ℕ). length fs) c.self.invariant.same_factors
    ∙ ap (λ (t : MoveTable). length t.shape.factors) c.self.view_is)
    (c.from.ensures ∙ c.self.invariant.ranks ∙ ap (λ (t : MoveTable). t.shape.rank) c.self.view_is)
    c.loop-place.invariant.number c.loop-place.auto.place-end c.loop-place-test.false c.loop-place.invariant.codes

pub returns-clause-codes : goal.returns-clause-codes
returns-clause-codes c =
    codes_made c.args.self.now c.args.column.now.items c.loop-place.image.items c.from.result c.count-count.result c.loop-place.place
    (c.count-count.ensures.count ∙ ap (λ (fs : List ℕ). length fs) c.self.invariant.same_factors
    ∙ ap (λ (t : MoveTable). length t.shape.factors) c.self.view_is)
    (c.from.ensures ∙ c.self.invariant.ranks ∙ ap (λ (t : MoveTable). t.shape.rank) c.self.view_is)
    c.loop-place-test.false c.loop-place.invariant.codes
