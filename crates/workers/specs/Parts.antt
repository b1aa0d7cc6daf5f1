-- What one worker does.
use Rattle.std.specs.Prelude.{ℕ, ◌≡◌, ◌+◌, ◌*◌, ◌≤◌, List, ◌++◌, length, slice_get, Some}
use Rattle.std.specs.List.{Contains}
use Rattle.matroid_theory.specs.Rep.{Rep}
use Rattle.matroid_theory.specs.Level.{Family, IsTry}
use Rattle.formats.specs.Request.{Request}
use Rattle.formats.specs.Levels.{Grows}
use Rattle.class_store.specs.Seen.{PassSide}
use Rattle.extension.specs.Admissible.{above_values}
use Rattle.store_laws.specs.TryKeys.{IsTryKey}
use Rattle.level_driver.specs.Grown.{IsParentLevel}
use Rattle.workers.specs.Keys.{AreKeysOf}
use Rattle.workers.specs.Offered.{MadeCalls}

-- a try of size n whose parent has one of these numbers
pub record IsTryFrom (family : Family) (n : ℕ) (parents : List Rep) (numbers : List ℕ) (try : Rep × List ℕ) : Type 0 where
  pub is_try : IsTry family n try
  pub number : ℕ
  pub taken : Contains numbers number
  pub there : slice_get parents number ≡ Some try.0

-- The pass made a call with the key of each try of the parents with these numbers, one for each try, and no other call. There are so many tries.
pub record IsPart (family : Family) (n : ℕ) (parents : List Rep) (numbers : List ℕ) (old new : PassSide) (tried : ℕ) : Type 0 where
  pub keys : List (List ℕ)
  pub are_keys : AreKeysOf (IsTryFrom family n parents numbers) (IsTryKey family n) keys
  pub calls : MadeCalls old new keys
  pub count : tried ≡ length keys

-- a worker's part at the level after the parents: the numbers that it took meanwhile are those of the parents whose tries it offered
pub record DoesPart (q : Request) (parents : List Rep) (before after : List ℕ) (old new : PassSide) (tried : ℕ) : Type 0 where
  pub numbers : List ℕ
  pub took : after ≡ before ++ numbers
  pub part : (n : ℕ) (family : Family) → IsParentLevel q n parents → Grows q family → IsPart family (n + 1) parents numbers old new tried
  pub few : tried ≤ length numbers * above_values
