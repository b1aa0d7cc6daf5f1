-- Moves that take a representation to itself.
use Rattle.std.specs.Prelude.{ℕ, ◌≡◌, List, Some, slice_get}
use Rattle.std.specs.List.{All}
use Rattle.std.specs.Cmp.Lexicographic.{slice_cmp}
use Rattle.std.specs.Ordering.{nat_cmp}
use Rattle.std.specs.declared.cmp.Ordering.TheVariants.{Less}
use Rattle.matroid_theory.specs.declared.Mode.{Mode}
use Rattle.matroid_theory.specs.Rep.{Rep, shape, IsProductColumn, IsStandard}
use Rattle.matroid_theory.specs.Move.{MoveTable, IsMove, TakesTo, AreEquivalent, move_of}
use Rattle.matroid_theory.specs.Level.{followed_by}
use Rattle.extension.specs.Admissible.{IsAdmissible}
use Rattle.symmetry.specs.Images.{HasLeadOnes, IsImageBy}

-- a move of the mode that takes P to itself
pub record IsSymmetry (mode : Mode) (P : Rep) (t : MoveTable) : Type 0 where
  pub same_shape : t.shape ≡ shape P
  pub valid : IsMove mode (shape P) (move_of t)
  pub takes : TakesTo P (move_of t) P

-- a representation, a mode, and some moves
pub record MovesOf : Type 0 where
  pub parent : Rep
  pub mode : Mode
  pub moves : List MoveTable

-- each of the moves is one of the mode that takes the representation to itself
abbrev pub AreSymmetries : MovesOf → Type 0
AreSymmetries s = All (IsSymmetry s.mode s.parent) s.moves

-- P followed by u is equivalent to P followed by v, and u is scaled: so where v is admissible for a standard P, so is u
pub record IsImage (s : MovesOf) (v u : List ℕ) : Type 0 where
  pub equivalent : AreEquivalent s.mode (followed_by s.parent v) (followed_by s.parent u)
  pub column : IsProductColumn s.parent.factors s.parent.rank u
  pub scaled : HasLeadOnes s.parent.factors s.parent.rank u
  pub admissible : IsStandard s.parent → IsAdmissible s.parent v → IsAdmissible s.parent u

-- u is the image of v under move i
abbrev pub IsImageUnder : MovesOf → ℕ → List ℕ → List ℕ → Type 0
IsImageUnder s i v u = (t : MoveTable) × (slice_get s.moves i ≡ Some t) × IsImageBy t v u

-- u is the image of v under one of the moves, and below v
pub record IsLowerImage (s : MovesOf) (v u : List ℕ) : Type 0 where
  pub index : ℕ
  pub by : IsImageUnder s index v u
  pub image : IsImage s v u
  pub below : slice_cmp nat_cmp u v ≡ Less

-- some move carries v lower
abbrev pub HasLowerImage : MovesOf → List ℕ → Type 0
HasLowerImage s v = (u : List ℕ) × IsLowerImage s v u
