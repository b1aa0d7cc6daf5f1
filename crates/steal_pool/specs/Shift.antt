-- What contracts see of a shift.
use Rattle.std.specs.Prelude.{◌≡◌, ℕ, zero, suc, ◌<◌, true, List, [], ◌∷◌, ◌++◌}
use Rattle.std.specs.List.{Contains}
use Rattle.crossbeam_deque.specs.Handles.{worker_view, SameWorker}
use Rattle.steal_pool.specs.declared.shift.Shift.{Shift}
use Rattle.steal_deque.specs.declared.deque.Knowledge.{Knowledge}
use Rattle.steal_deque.specs.Deque.{share}
use Rattle.steal_pool.specs.Ring.{ring, view_at, takings}
use Rattle.steal_pool.specs.SeatViews.{seat_views}
use Rattle.steal_pool.specs.Rows.{KeepsParts}

abbrev pub shift_number : Shift → ℕ
shift_number s = s.number

-- how many numbers were filled into the pool: those below this
abbrev pub shift_parents : Shift → ℕ
shift_parents s = s.parents

-- how many deques the pool has
abbrev pub shift_deques : Shift → ℕ
shift_deques s = s.deques

-- what the shift's passes know: its own first, then those of its seats
abbrev pub shift_views : Shift → List Knowledge
shift_views s = worker_view s.own ∷ seat_views s.others.items

-- the numbers that the shift took, in order
abbrev pub shift_taken : Shift → List ℕ
shift_taken s = takings (shift_views s)

-- Each deque was filled with its share of the numbers: those whose rest by the number of deques is the deque's own number
abbrev pub KnowsShares : Shift → Type 0
KnowsShares s = (j : ℕ) → j < shift_deques s → (view_at (shift_views s) j).pushed ≡ share (shift_deques s) (ring (shift_deques s) (shift_number s) j)
    (shift_parents s)

-- the deques that a shift visits first
abbrev pub visited : ℕ → ℕ → ℕ → List ℕ
visited deques number zero = []
visited deques number (suc j) = visited deques number j ++ ring deques number j ∷ []

-- the deques that the shift found empty, in order
abbrev pub shift_empty : Shift → List ℕ
shift_empty s = visited s.deques s.number s.done

-- At each of them a step of the shift found no number queued: it took an end mark there
abbrev pub WereFoundEmpty : Shift → Type 0
WereFoundEmpty s = (j : ℕ) → j < s.done → (view_at (shift_views s) j).ended ≡ true

-- every deque of the pool was found empty
pub record HasEnded (s : Shift) : Type 0 where
  pub every : (d : ℕ) → d < shift_deques s → Contains (shift_empty s) d

-- the same shift of the same pool: it may have taken more
pub record StaysInPool (old new : Shift) : Type 0 where
  pub number : shift_number new ≡ shift_number old
  pub parents : shift_parents new ≡ shift_parents old
  pub deques : shift_deques new ≡ shift_deques old
  pub own : SameWorker old.own new.own
  pub passes : KeepsParts (worker_view old.own) (worker_view new.own) old.others.items new.others.items
