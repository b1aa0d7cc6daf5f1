use Rattle.std.proofs.Common.{◌≡◌, ◌<◌, ◌*◌, ◌/◌, ◌%◌, ◌^◌}
use Rattle.form_trails.specs.Numbers.{weighed}
use Rattle.form_states.specs.Codes.{code}
use Rattle.form_states.proofs.weights.number.Given as goal

abbrev pub invariant-loop-i : goal.invariant-loop-i
invariant-loop-i l = record {
  digits : l.number ≡ weighed (λ e. code l.column (e % l.count) (e / l.count)) (l.i * l.count);
  most : l.number < 4096 ^ l.i;
}
