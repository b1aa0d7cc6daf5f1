use Rattle.std.proofs.Common.{◌≡◌, ◌<◌, ◌-◌, ◌/◌, ◌%◌, ◌^◌, ℕ, length, slice_index}
use Rattle.fast_form.proofs.form.digits_of.Given as goal

abbrev pub invariant-loop-e : goal.invariant-loop-e
invariant-loop-e l = record {
  size : length l.digits.items ≡ l.e;
  digits : (j : ℕ) → j < l.e → slice_index l.digits.items j ≡ l.number / 16 ^ (l.width - 1 - j) % 16;
}
