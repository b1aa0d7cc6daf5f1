use Rattle.std.proofs.Common.{◌≡◌, ◌<◌, ◌+◌, ℕ, length, slice_index}
use Rattle.elimination.specs.Equations.{Meets}
use Rattle.elimination.proofs.solutions.values.Given as goal

-- the values so far are those of all that meet the equations
abbrev pub invariant-loop-l : goal.invariant-loop-l
invariant-loop-l l =
    record {
      count : l.l + length l.values.items ≡ length l.equations;
      codes : (j : ℕ) → j < length l.values.items → slice_index l.values.items j < l.field;
      only : (a : ℕ → ℕ) → ((j : ℕ) → j < length l.equations → a j < l.field) →
          Meets l.field (length l.equations) l.equations l.sides.items a → (j : ℕ) → j < length l.values.items →
          a j ≡ slice_index l.values.items j;
    }
