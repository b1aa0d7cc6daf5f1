use Rattle.std.proofs.Common.{◌≡◌, ◌+◌, ◌≤◌, ◌++◌, map, length, vec_len, vec_capacity}
use Rattle.workers.proofs.seats.unseat.Given as goal

abbrev pub invariant-loop-worker : goal.invariant-loop-worker
invariant-loop-worker l = record {
  passes : l.passes.items ++ map (λ w. w.pass) l.worker-iterator.rest.items ≡ l.fn.passes.items ++ map (λ w. w.pass) l.fn.workers.items;
  shifts : l.shifts.items ++ map (λ w. w.shift) l.worker-iterator.rest.items ≡ l.fn.shifts.items ++ map (λ w. w.shift) l.fn.workers.items;
  answers : l.answers.items ++ map (λ w. w.answer) l.worker-iterator.rest.items ≡ map (λ w. w.answer) l.fn.workers.items;
  room_passes : vec_len l.passes + length l.worker-iterator.rest.items ≤ vec_capacity l.passes;
  room_shifts : vec_len l.shifts + length l.worker-iterator.rest.items ≤ vec_capacity l.shifts;
  can_next : (goal.iterator-loop-worker).can_next l.worker-iterator;
  finite : (goal.iterator-loop-worker).is_finite l.worker-iterator;
}
