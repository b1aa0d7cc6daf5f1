use Rattle.std.proofs.Common.{ℕ, List, ◌≡◌, ◌+◌, ◌*◌, ◌<◌, ◌≤◌, ◌%◌, ◌/◌, ◌∙◌, sym, ap, subst, slice_index, length}
use Rattle.matroid_theory.specs.Field.{times, IsField, IsFactors}
use Rattle.matrix_lemmas.proofs.FieldLaws.{field_laws}
use Rattle.symmetry.specs.Images.{code_at}
use Rattle.symmetry.proofs.Places.{pushed, code_below, made-at, placed, column_of_codes, filled}
use Rattle.symmetry.proofs.images.multiplied.Goals as goal

pub mul-requires-clause-b_code : goal.mul-requires-clause-b_code
mul-requires-clause-b_code c =
    let pos : 0 < c.count-count.result = subst (λ (n : ℕ). 0 < n) (sym c.count-count.ensures.count) c.count-count.ensures.are_factors.some in
    subst (λ (q : ℕ). slice_index c.deref.result.now c.loop-place.place < q) (sym c.field.ensures)
    (subst (λ (xs : List ℕ). slice_index xs c.loop-place.place < slice_index c.args.factors.now
    (c.loop-place.place % c.count-count.result)) (sym c.deref.ensures.0)
    (code_below c.args.factors.now c.args.rank c.count-count.result c.loop-place.place c.args.column.now.items c.requires.column
    c.count-count.ensures.count c.loop-place-test.true pos))

pub loop-place-preserved : goal.loop-place-preserved
loop-place-preserved c =
    let pos : 0 < c.count-count.result = subst (λ (n : ℕ). 0 < n) (sym c.count-count.ensures.count) c.count-count.ensures.are_factors.some in
    record {
      number = c.push.ensures.len ∙ ap (λ (n : ℕ). n + 1) c.loop-place.invariant.number;
      codes =
          pushed (λ k x. x ≡ times (slice_index c.args.factors.now (k % c.count-count.result)) (slice_index c.args.scalars.now (k % c.count-count.result))
          (code_at c.args.factors.now c.args.column.now.items (k % c.count-count.result) (k / c.count-count.result)))
          c.loop-place.image.items _ _ c.loop-place.place c.loop-place.invariant.number c.push.ensures.items c.loop-place.invariant.codes
          (c.mul.ensures.product ∙ (λ u. times (c.field.ensures u) (slice_index c.args.scalars.now (c.loop-place.place % c.count-count.result))
          ((ap (λ (xs : List ℕ). slice_index xs c.loop-place.place) c.deref.ensures.0
          ∙ placed c.args.factors.now c.count-count.result c.loop-place.place c.args.column.now.items c.count-count.ensures.count pos) u)));
    }

-- the codes by row and factor
codes_made : (factors scalars v image : List ℕ) (rank c n : ℕ) → c ≡ length factors → rank * c ≤ n
    → ((k : ℕ) → k < n → slice_index image k ≡ times (slice_index factors (k % c)) (slice_index scalars (k % c)) (code_at factors v (k % c) (k / c)))
    → (f i : ℕ) → f < length factors → i < rank → code_at factors image f i ≡ times (slice_index factors f) (slice_index scalars f) (code_at factors v f i)
codes_made factors scalars v image rank c n e l h = made-at factors rank c n image
    (λ f i. times (slice_index factors f) (slice_index scalars f) (code_at factors v f i)) e l h

pub returns-clause-column : goal.returns-clause-column
returns-clause-column c =
    column_of_codes c.args.factors.now c.args.rank c.loop-place.image.items
    (filled c.args.factors.now c.args.rank c.count-count.result c.loop-place.place
    (length c.loop-place.image.items) c.count-count.ensures.count c.loop-place.invariant.number c.loop-place.auto.place-end
    c.loop-place-test.false)
    (λ f i l m. subst (λ (x : ℕ). x < slice_index c.args.factors.now f)
    (sym (codes_made c.args.factors.now c.args.scalars.now c.args.column.now.items c.loop-place.image.items c.args.rank
    c.count-count.result c.loop-place.place c.count-count.ensures.count c.loop-place-test.false c.loop-place.invariant.codes f i l m))
    (below c.args.factors.now c.count-count.ensures.are_factors f l (slice_index c.args.scalars.now f)
    (code_at c.args.factors.now c.args.column.now.items f i)))
  where
    below : (factors : List ℕ) → IsFactors factors → (f : ℕ) → f < length factors → (a b : ℕ) → times (slice_index factors f) a b < slice_index factors f
    below factors h f l a b = let F : IsField (slice_index factors f) = field_laws (slice_index factors f) (h.fields f l) in F.times_below a b

pub returns-clause-codes : goal.returns-clause-codes
returns-clause-codes c =
    codes_made c.args.factors.now c.args.scalars.now c.args.column.now.items c.loop-place.image.items c.args.rank
    c.count-count.result c.loop-place.place c.count-count.ensures.count c.loop-place-test.false c.loop-place.invariant.codes
