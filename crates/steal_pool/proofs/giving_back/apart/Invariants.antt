use Rattle.std.proofs.Common.{◌≡◌, ◌++◌, Some, map}
use Rattle.steal_pool.proofs.giving_back.apart.Given as goal

abbrev pub invariant-loop-shift : goal.invariant-loop-shift
invariant-loop-shift l = record {
  owners : l.owners.items ++ map (λ s. Some s.own) l.shift-iterator.rest.items ≡ map (λ s. Some s.own) l.fn.shifts.items;
  rows : l.rows.items ++ map (λ s. Some s.others) l.shift-iterator.rest.items ≡ map (λ s. Some s.others) l.fn.shifts.items;
  can_next : (goal.iterator-loop-shift).can_next l.shift-iterator;
  finite : (goal.iterator-loop-shift).is_finite l.shift-iterator;
}
