use Rattle.std.proofs.Common.{ℕ, ◌<◌, ◌≡◌, Some}
use Rattle.std.specs.Prelude.{slice_get}
use Rattle.matroid_theory.specs.Minor.{Matroid}
use Rattle.level_driver.specs.Listed.{AreIsomorphic}
use Rattle.level_driver.proofs.distinct.is_first.Given as goal

-- none so far is isomorphic to it
abbrev pub invariant-loop-earlier : goal.invariant-loop-earlier
invariant-loop-earlier l = (j : ℕ) (M : Matroid) → j < l.earlier-index → slice_get l.earlier-items j ≡ Some M → ¬ (AreIsomorphic M l.list)
