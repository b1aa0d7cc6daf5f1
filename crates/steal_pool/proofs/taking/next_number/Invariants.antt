use Rattle.std.proofs.Common.{◌≡◌, ◌<◌, ◌≤◌, ◌-◌, ◌∷◌}
use Rattle.crossbeam_deque.specs.Handles.{worker_view, SameWorker}
use Rattle.steal_pool.specs.Ring.{IsShift, takings}
use Rattle.steal_pool.specs.SeatViews.{seat_views}
use Rattle.steal_pool.specs.Rows.{KeepsParts}
use Rattle.steal_pool.proofs.taking.next_number.Given as goal

abbrev pub invariant-loop-done : goal.invariant-loop-done
invariant-loop-done g l = record {
  shift : IsShift l.deques l.number l.parents l.done (worker_view l.own ∷ seat_views l.others);
  same : SameWorker l.fn.own l.own;
  taken : takings (worker_view l.own ∷ seat_views l.others) ≡ takings (worker_view l.fn.own ∷ seat_views l.fn.others);
  begun : 0 < l.done;
  grown : l.fn.done ≤ l.done;
  kept : KeepsParts (worker_view l.fn.own) (worker_view l.own) l.fn.others l.others;
}

abbrev pub decreases-loop-done : goal.decreases-loop-done
decreases-loop-done g l = l.deques - l.done
