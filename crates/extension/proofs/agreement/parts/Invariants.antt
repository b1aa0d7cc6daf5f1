use Rattle.std.proofs.Common.{◌≡◌, ◌<◌, ℕ, length}
use Rattle.elimination.specs.Columns.{column}
use Rattle.matroid_theory.specs.Rep.{size, column_of}
use Rattle.matroid_theory.specs.Level.{followed_by}
use Rattle.extension.proofs.agreement.parts.Given as goal

-- the factors before this one
abbrev pub invariant-loop-factor : goal.invariant-loop-factor
invariant-loop-factor l =
    record {
      count : length l.parts.items ≡ l.factor;
      parts : (f : ℕ) → f < l.factor → column l.parts.items f ≡ column_of (followed_by l.rep l.new.items) f (size l.rep);
    }
