-- Passes that come back to the owners of their deques.
use Rattle.std.specs.Prelude.{◌≡◌, ℕ, ◌+◌, ◌-◌, ◌<◌, ◌≤◌, true, Option, None, Some, List, [], ◌∷◌, ◌++◌, map, length}
use Rattle.std.specs.Global.{Global, Vec}
use Rattle.atomic_blocks.specs.Lent.{RowsId}
use Rattle.crossbeam_deque.specs.declared.handles.Worker.{Worker}
use Rattle.crossbeam_deque.specs.Handles.{worker_view, worker_deque, stealer_deque}
use Rattle.steal_deque.specs.declared.deque.Knowledge.{Knowledge}
use Rattle.steal_pool.specs.declared.seat.Seat.{Seat}
use Rattle.steal_deque.specs.Deque.{times, total, spent}
use Rattle.steal_pool.specs.Ring.{view_at}
use Rattle.steal_pool.specs.SeatViews.{seat_views}
use Rattle.steal_pool.specs.Rows.{IsAround}

module _ {T A P : Type 0} where
  -- a place with no owner knows nothing
  abbrev pub place_view : Option (Worker T A Knowledge P) → Knowledge
  place_view None = spent
  place_view (Some own) = worker_view own

  abbrev pub place_deque : Option (Worker T A Knowledge P) → Option (RowsId × A)
  place_deque None = None
  place_deque (Some own) = Some (worker_deque own)

  abbrev pub place_views : List (Option (Worker T A Knowledge P)) → List Knowledge
  place_views places = map place_view places

  abbrev pub place_deques : List (Option (Worker T A Knowledge P)) → List (Option (RowsId × A))
  place_deques places = map place_deque places

-- the places that the seats are at
abbrev pub seat_places : List Seat → List (Option (RowsId × Global))
seat_places seats = map (λ s. Some (stealer_deque s.thief)) seats

abbrev pub row_views : Option (Vec Seat) → List Knowledge
row_views None = []
row_views (Some row) = seat_views row.items

-- the passes of all rows, row after row
abbrev pub rows_views : List (Option (Vec Seat)) → List Knowledge
rows_views [] = []
rows_views (row ∷ rows) = row_views row ++ rows_views rows

-- each view has a part
abbrev pub HaveParts : List Knowledge → Type 0
HaveParts views = (k : ℕ) → k < length views → 0 < (view_at views k).parts

-- Of the passes `all`, those in `left` are still out, and the others have come back: nothing is lost or made, and no owner lost what it knew
pub record AreBack (first now all left : List Knowledge) : Type 0 where
  pub count : length now ≡ length first
  pub same : (k : ℕ) → k < length first → (view_at now k).pushed ≡ (view_at first k).pushed
  pub more : (k : ℕ) → k < length first → (view_at first k).parts ≤ (view_at now k).parts
  pub ended : (k : ℕ) → k < length first → (view_at first k).ended ≡ true → (view_at now k).ended ≡ true
  pub parts : total (λ v. v.parts) now + total (λ v. v.parts) left ≡ total (λ v. v.parts) first + total (λ v. v.parts) all
  pub each : (x : ℕ) → total (λ v. times x v.taken) now + total (λ v. times x v.taken) left ≡ total (λ v. times x v.taken) first + total
      (λ v. times x v.taken) all

-- the row of shift i goes round the places, and each of its passes has a part
abbrev pub GoesRound : ℕ → List (Option (RowsId × Global)) → Option (Vec Seat) → Type 0
GoesRound i places None = Unit {0}
GoesRound i places (Some row) = IsAround i (length places - 1) places (seat_places row.items) × HaveParts (seat_views row.items)
