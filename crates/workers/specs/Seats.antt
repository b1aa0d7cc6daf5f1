-- The workers of a level, before and after they have worked.
use Rattle.std.specs.Prelude.{ℕ, ◌≡◌, ◌<◌, List, length, slice_index_or, IfSome}
use Rattle.matroid_theory.specs.Rep.{Rep}
use Rattle.formats.specs.Request.{Request}
use Rattle.class_store.specs.Seen.{LevelId}
use Rattle.steal_pool.specs.Shift.{HasEnded, StaysInPool, shift_parents, shift_taken}
use Rattle.workers.specs.declared.worker.Worker.{Worker}
use Rattle.workers.specs.Offered.{IsSamePass}
use Rattle.workers.specs.Parts.{DoesPart}

-- a worker of this level, whose pool has so many parents
pub record IsSeated (level : LevelId) (parents : ℕ) (w : Worker) : Type 0 where
  pub pass : w.pass.level ≡ level
  pub shift : shift_parents w.shift ≡ parents

-- what became of a worker
pub record IsWorked (q : Request) (parents : List Rep) (before after : Worker) : Type 0 where
  pub pass : IsSamePass before.pass after.pass
  pub shift : StaysInPool before.shift after.shift
  pub answered : IfSome after.answer (λ tried. HasEnded after.shift
      × DoesPart q parents (shift_taken before.shift) (shift_taken after.shift) before.pass after.pass tried)

pub record AllWorked (q : Request) (parents : List Rep) (before after : List Worker) : Type 0 where
  pub count : length after ≡ length before
  pub each : (i : ℕ) (d : Worker) → i < length before → IsWorked q parents (slice_index_or before i d) (slice_index_or after i d)
