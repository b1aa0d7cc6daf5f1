use Rattle.std.proofs.Common.{◌≡◌, ◌<◌, ℕ, length, slice_index}
use Rattle.form_key.specs.Codes.{half_at, AreHalves}
use Rattle.form_key.proofs.codes.take_apart.Given as goal

abbrev pub invariant-loop-place : goal.invariant-loop-place
invariant-loop-place l = record {
  count : length l.codes.items ≡ l.place;
  codes : (k : ℕ) → k < l.place → slice_index l.codes.items k ≡ half_at l.bytes k;
  halves : AreHalves l.codes.items;
}
