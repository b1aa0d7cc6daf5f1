use Rattle.std.proofs.Common.{ℕ, ◌<◌, ◌≡◌, ◌≢◌, false}
use Rattle.std.specs.List.{slice_index}
use Rattle.matroid_theory.specs.Matroid.{members}
use Rattle.base_iso.proofs.carried.image.Given as goal

-- the labels of the elements before this one
abbrev pub invariant-loop-i : goal.invariant-loop-i
invariant-loop-i l = record {
  labelled : (k : ℕ) → k < l.i → members l.image (slice_index l.labels k) ≡ members l.set k;
  others : (j : ℕ) → ((k : ℕ) → k < l.i → slice_index l.labels k ≢ j) → members l.image j ≡ false;
}
