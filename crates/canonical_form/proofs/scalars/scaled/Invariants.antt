use Rattle.std.proofs.Common.{◌≡◌, ◌<◌, ◌%◌, ℕ, length, slice_index}
use Rattle.matroid_theory.specs.Field.{times}
use Rattle.matroid_theory.specs.Rep.{count, order}
use Rattle.canonical_form.proofs.Leads.{AreScales}
use Rattle.canonical_form.proofs.scalars.scaled.Given as goal

abbrev pub invariant-loop-factor : goal.invariant-loop-factor
invariant-loop-factor l = AreScales l.rep l.factor l.products.items l.scales.items

abbrev pub invariant-loop-place : goal.invariant-loop-place
invariant-loop-place l =
    record {
      rows : length l.codes.items ≡ l.place;
      products : (k : ℕ) → k < l.place →
          slice_index l.codes.items k ≡ times (order l.rep (k % count l.rep)) (slice_index l.scales.items (k % count l.rep))
          (slice_index l.products.items k);
    }
