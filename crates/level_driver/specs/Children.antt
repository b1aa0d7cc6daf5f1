-- The forms of the extensions of a representation by one column.
use Rattle.std.specs.Prelude.{◌≡◌, ◌⊎◌, ◌↔◌, ℕ, ◌<◌, List}
use Rattle.std.specs.List.{Contains}
use Rattle.matroid_theory.specs.declared.Mode.{Mode}
use Rattle.matroid_theory.specs.Rep.{Rep, size, IsStandard}
use Rattle.matroid_theory.specs.Matroid.{Agrees, IsSimple}
use Rattle.matroid_theory.specs.Move.{AreEquivalent}
use Rattle.matroid_theory.specs.Order.{IsForm}
use Rattle.matroid_theory.specs.Minor.{Matroid}
use Rattle.matroid_theory.specs.Level.{followed_by}
use Rattle.extension.specs.Admissible.{IsAdmissible}
use Rattle.form_key.specs.Packing.{packing}
use Rattle.level_driver.specs.Forbidden.{Avoids}

-- the new keys are the old ones and this one
abbrev pub Adds : List (List ℕ) → List (List ℕ) → List ℕ → Type 0
Adds old new key = (other : List ℕ) → Contains new other ↔ (Contains old other ⊎ (other ≡ key))

-- what a representation is asked to be before it is extended
pub record IsParent (P : Rep) : Type 0 where
  pub standard : IsStandard P
  pub simple : IsSimple P
  pub agrees : Agrees P
  pub room : size P < 16

-- the key is that of the form of the mode of P followed by v
abbrev pub IsChildKey : Mode → Rep → List ℕ → List ℕ → Type 0
IsChildKey mode P v key = (N : Rep) × IsForm mode N × AreEquivalent mode (followed_by P v) N × (packing N ≡ key)

-- P can be extended by v such that none of the matroids is a minor
pub record IsCandidate (Ns : List Matroid) (P : Rep) (v : List ℕ) : Type 0 where
  pub admissible : IsAdmissible P v
  pub avoids : Avoids Ns (followed_by P v)

-- the new keys are the old ones and those of the forms of all candidates that P and one column make
pub record AddsChildren (mode : Mode) (Ns : List Matroid) (P : Rep) (old new : List (List ℕ)) : Type 0 where
  pub kept : (key : List ℕ) → Contains old key → Contains new key
  pub sound : (key : List ℕ) → Contains new key → Contains old key ⊎ ((v : List ℕ) × IsCandidate Ns P v × IsChildKey mode P v key)
  pub complete : (v : List ℕ) → IsCandidate Ns P v → (key : List ℕ) × Contains new key × IsChildKey mode P v key
