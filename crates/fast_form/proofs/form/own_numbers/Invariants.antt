use Rattle.std.proofs.Common.{◌≡◌, ◌<◌, ◌≤◌, ◌+◌, ℕ, length, slice_index}
use Rattle.matroid_theory.specs.Rep.{matrix}
use Rattle.form_trails.specs.Least.{number}
use Rattle.fast_form.proofs.form.own_numbers.Given as goal

abbrev pub invariant-loop-e : goal.invariant-loop-e
invariant-loop-e l = record {
  from : l.shape.rank ≤ l.e;
  size : l.shape.rank + length l.numbers ≡ l.e;
  numbers : (j : ℕ) → j < length l.numbers → slice_index l.numbers j ≡ number l.rep (λ f i. matrix l.rep f i (l.shape.rank + j));
}
