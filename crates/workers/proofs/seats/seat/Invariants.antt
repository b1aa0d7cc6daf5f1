use Rattle.std.proofs.Common.{◌≡◌, ◌+◌, ◌++◌, map, vec_len}
use Rattle.std.specs.Vec.Iter.{into_iter_items, into_iter_len}
use Rattle.workers.proofs.seats.seat.Given as goal

abbrev pub invariant-loop : goal.invariant-loop
invariant-loop l = record {
  passes : map (λ w. w.pass) l.workers.items ++ into_iter_items l.passes ≡ into_iter_items l.initial.passes;
  shifts : map (λ w. w.shift) l.workers.items ++ into_iter_items l.shifts ≡ into_iter_items l.initial.shifts;
  more_passes : into_iter_len l.passes + l.counter ≡ into_iter_len l.initial.passes;
  more_shifts : into_iter_len l.shifts + l.counter ≡ into_iter_len l.initial.passes;
  count : vec_len l.workers ≡ l.counter;
}
