-- What no call changes of a pass.
use Rattle.std.specs.Prelude.{ℕ, ◌≡◌, ◌<◌, List, length, slice_index_or}
use Rattle.class_store.specs.Seen.{PassSide}

-- it is the same pass of the same level
pub record IsNamed (before after : PassSide) : Type 0 where
  pub level : after.level ≡ before.level
  pub number : after.number ≡ before.number

pub record AllNamed (before after : List PassSide) : Type 0 where
  pub count : length after ≡ length before
  pub each : (i : ℕ) (d : PassSide) → i < length before → IsNamed (slice_index_or before i d) (slice_index_or after i d)
