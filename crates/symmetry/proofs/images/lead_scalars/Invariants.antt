use Rattle.std.proofs.Common.{◌≡◌, ◌<◌, ℕ, length, slice_index}
use Rattle.symmetry.specs.Images.{IsLeadScalar}
use Rattle.symmetry.proofs.images.lead_scalars.Given as goal

-- the scalars of the factors so far
abbrev pub invariant-loop-factor : goal.invariant-loop-factor
invariant-loop-factor l = record {
  number : length l.scalars.items ≡ l.factor;
  each : (f : ℕ) → f < l.factor → IsLeadScalar l.factors l.rank l.column.items f (slice_index l.scalars.items f);
}
