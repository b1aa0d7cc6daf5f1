use Rattle.std.proofs.Common.{◌≡◌, ◌<◌, ◌≤◌, ℕ, length, slice_index}
use Rattle.elimination.specs.Columns.{column}
use Rattle.matroid_theory.specs.Rep.{order}
use Rattle.extension.specs.Planes.{IsNormal}
use Rattle.extension.proofs.planes.plane_of.Given as goal

-- the normals in the factors before this one, which are 0 after the rows
abbrev pub invariant-loop-factor : goal.invariant-loop-factor
invariant-loop-factor l =
    record {
      most : l.rows ≤ l.rep.rank;
      zeros : (f : ℕ) → f < l.factor → (i : ℕ) → l.rows ≤ i → i < l.rep.rank → slice_index (column l.normals.items f) i ≡ 0;
      count : length l.normals.items ≡ l.factor;
      normals : (f : ℕ) → f < l.factor → IsNormal (order l.rep f) l.rep.rank (column l.normals.items f);
    }
