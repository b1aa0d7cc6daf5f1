-- What is known of the children of one parent.
use Rattle.std.specs.Prelude.{◌≡◌, List, Option, MatchOption, ℕ}
use Rattle.std.specs.List.{All}
use Rattle.matroid_theory.specs.declared.Mode.{Mode}
use Rattle.matroid_theory.specs.Rep.{Rep}
use Rattle.matroid_theory.specs.Move.{AreEquivalent}
use Rattle.matroid_theory.specs.Order.{IsForm}
use Rattle.matroid_theory.specs.Minor.{Matroid}
use Rattle.matroid_theory.specs.Level.{followed_by}
use Rattle.symmetry.specs.Symmetric.{MovesOf}
use Rattle.level_driver.specs.Forbidden.{Avoids}
use Rattle.level_driver.specs.declared.parent.Leader.{Leader}

-- a representation that is extended, the mode of its children, and the matroids that none of these may have as a minor
pub record ChildrenOf : Type 0 where
  pub parent : Rep
  pub mode : Mode
  pub forbidden : List Matroid

-- N is the form of the parent followed by v, which has none of the forbidden minors
pub record IsChildOf (c : ChildrenOf) (v : List ℕ) (N : Rep) : Type 0 where
  pub avoids : Avoids c.forbidden (followed_by c.parent v)
  pub form : IsForm c.mode N
  pub equivalent : AreEquivalent c.mode (followed_by c.parent v) N

-- the answer to a column: its child, or none where there is a forbidden minor
abbrev pub IsAnswer : ChildrenOf → List ℕ → Option Rep → Type 0
IsAnswer c v child = MatchOption child (¬ (Avoids c.forbidden (followed_by c.parent v))) (IsChildOf c v)

-- the answers that are kept are those to their columns, and the moves are of the parent and the mode
pub record KeepsAnswers (c : ChildrenOf) (moves : MovesOf) (leaders : List Leader) : Type 0 where
  pub same_parent : moves.parent ≡ c.parent
  pub same_mode : moves.mode ≡ c.mode
  pub answers : All (λ l. IsAnswer c l.column.items l.child) leaders
