use Rattle.std.proofs.Common.{List, ℕ, ◌+◌, ◌*◌, ◌<◌, ◌∙◌, ap, subst, slice_index, length, ◌≡◌, ◌≢◌}
use Rattle.matroid_theory.specs.Field.{times}
use Rattle.symmetry.specs.Images.{IsLeadScalar}
use Rattle.symmetry.proofs.Places.{pushed}
use Rattle.symmetry.proofs.images.lead_scalars.Goals as goal

-- the code that was found, in the words of the factors
lead_is : (factors : List ℕ) (rank : ℕ) (v : List ℕ) (f q c x : ℕ) → q ≡ slice_index factors f → c ≡ length factors → x < q → x ≢ 0
    → ((i : ℕ) → i < rank → ((k : ℕ) → k < i → slice_index v (k * c + f) ≡ 0) → slice_index v (i * c + f) ≢ 0 →
    times q x (slice_index v (i * c + f)) ≡ 1) → IsLeadScalar factors rank v f x
lead_is factors rank v f q c x qe ce b n one = record {
  code = subst (λ (q : ℕ). x < q) qe b;
  nonzero = n;
  one = subst (λ (c : ℕ). (i : ℕ) → i < rank → ((k : ℕ) → k < i → slice_index v (k * c + f) ≡ 0) → slice_index v (i * c + f) ≢ 0 →
      times (slice_index factors f) x (slice_index v (i * c + f)) ≡ 1) ce
      (subst (λ (q : ℕ). (i : ℕ) → i < rank → ((k : ℕ) → k < i → slice_index v (k * c + f) ≡ 0) → slice_index v (i * c + f) ≢ 0 →
      times q x (slice_index v (i * c + f)) ≡ 1) qe one);
}

pub loop-factor-preserved : goal.loop-factor-preserved
loop-factor-preserved c = record {
  number = c.push.ensures.len ∙ ap (λ (n : ℕ). n + 1) c.loop-factor.invariant.number;
  each = pushed (IsLeadScalar c.args.factors.now c.args.rank c.args.column.now.items) c.loop-factor.scalars.items
      _ _ c.loop-factor.factor c.loop-factor.invariant.number c.push.ensures.items
      c.loop-factor.invariant.each
      (lead_is c.args.factors.now c.args.rank c.args.column.now.items c.loop-factor.factor c.field.result c.count-count.result
      c.lead_scalar.result c.field.ensures c.count-count.ensures.count
      c.lead_scalar.ensures.code c.lead_scalar.ensures.nonzero c.lead_scalar.ensures.one);
}
