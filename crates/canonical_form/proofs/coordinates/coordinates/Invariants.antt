use Rattle.std.proofs.Common.{◌≡◌, ◌<◌, ℕ, length, slice_index}
use Rattle.matroid_theory.specs.Matrix.{combination}
use Rattle.matroid_theory.specs.Rep.{matrix, order}
use Rattle.elimination.specs.Columns.{column, IsColumn}
use Rattle.canonical_form.specs.Search.{chosen}
use Rattle.canonical_form.proofs.coordinates.coordinates.Given as goal

-- the coordinates in the factors before this one
abbrev pub invariant-loop-factor : goal.invariant-loop-factor
invariant-loop-factor l =
    record {
      count : length l.by_factor.items ≡ l.factor;
      codes : (f : ℕ) → f < l.factor → IsColumn (order l.rep f) l.rep.rank (column l.by_factor.items f);
      combined : (f : ℕ) → f < l.factor → (i : ℕ) → i < l.rep.rank →
          combination (order l.rep f) l.rep.rank (chosen l.rep l.basis f) (slice_index (column l.by_factor.items f)) i ≡ matrix l.rep f i l.k;
    }
