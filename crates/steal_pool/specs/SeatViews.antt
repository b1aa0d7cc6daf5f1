-- The views of a shift's passes.
use Rattle.std.specs.Prelude.{List, map}
use Rattle.crossbeam_deque.specs.Handles.{view}
use Rattle.steal_deque.specs.declared.deque.Knowledge.{Knowledge}
use Rattle.steal_pool.specs.declared.seat.Seat.{Seat}

abbrev pub seat_views : List Seat → List Knowledge
seat_views seats = map (λ s. view s.token) seats
