-- What contracts see of the takings of a pool.
use Rattle.std.specs.Prelude.{ℕ, List}
use Rattle.steal_pool.specs.declared.taken.Taken.{Taken}
use Rattle.steal_pool.specs.Pool.{lists_taken}

-- how many numbers were filled into the pool
abbrev pub taken_parents : Taken → ℕ
taken_parents t = t.parents

-- what each shift took, in the order of their numbers
abbrev pub taken_lists : Taken → List (List ℕ)
taken_lists t = lists_taken t.shifts.value.items
