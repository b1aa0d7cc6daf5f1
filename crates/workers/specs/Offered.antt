-- What a pass has offered of a parent's forms.
use Rattle.std.specs.Prelude.{ℕ, ◌≡◌, ◌+◌, ◌<◌, ◌≤◌, List, [], length, slice_index_or}
use Rattle.std.specs.List.{All, sum_by}
use Rattle.matroid_theory.specs.declared.Mode.{Mode}
use Rattle.matroid_theory.specs.Rep.{Rep}
use Rattle.matroid_theory.specs.Minor.{Matroid}
use Rattle.link_set.specs.Hash.{stripe_of}
use Rattle.class_store.specs.Seen.{PassSide, calls_with}
use Rattle.extension.specs.Admissible.{above_values}
use Rattle.level_driver.specs.Children.{IsCandidate, IsChildKey}
use Rattle.workers.specs.Keys.{AreKeysOf, times}

-- it is the same pass of the same level
pub record IsSamePass (old new : PassSide) : Type 0 where
  pub level : new.level ≡ old.level
  pub number : new.number ≡ old.number

-- the pass made a call with each of these keys, as often as it stands there, and no other call
abbrev pub MadeCalls : PassSide → PassSide → List (List ℕ) → Type 0
MadeCalls old new keys = (key : List ℕ) → calls_with key new ≡ calls_with key old + times key keys

-- the pass offered the key of each form of the mode that P and one more column make where none of the matroids is a minor, and there are so many such columns
pub record OffersChildren (mode : Mode) (Ns : List Matroid) (P : Rep) (old new : PassSide) (tried : ℕ) : Type 0 where
  pub keys : List (List ℕ)
  pub are_keys : AreKeysOf (IsCandidate Ns P) (IsChildKey mode P) keys
  pub calls : MadeCalls old new keys
  pub count : tried ≡ length keys
  pub few : tried ≤ above_values

-- ---- keys that are still to be offered, gathered by their stripe
-- the keys that are gathered for the stripe
abbrev pub gathered_at : List (List (List ℕ)) → ℕ → List (List ℕ)
gathered_at batches s = slice_index_or batches s []

-- each key is gathered for the stripe that it names, and no batch is full
pub record AreGathered (batches : List (List (List ℕ))) : Type 0 where
  pub names : (s : ℕ) → s < length batches → All (λ key. stripe_of (length batches) key ≡ s) (gathered_at batches s)
  pub few : (s : ℕ) → s < length batches → length (gathered_at batches s) < 16

-- how often the key is gathered
abbrev pub gathered_with : List ℕ → List (List (List ℕ)) → ℕ
gathered_with key batches = sum_by (times key) batches

-- no key is gathered
abbrev pub AreEmpty : List (List (List ℕ)) → Type 0
AreEmpty batches = (s : ℕ) → s < length batches → gathered_at batches s ≡ []
