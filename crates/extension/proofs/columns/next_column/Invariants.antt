use Rattle.std.proofs.Common.{◌≡◌, ◌-◌, ◌≤◌, ℕ, List}
use Rattle.std.specs.Cmp.Lexicographic.{slice_cmp}
use Rattle.std.specs.Ordering.{nat_cmp}
use Rattle.std.specs.declared.cmp.Ordering.TheVariants.{Less}
use Rattle.extension.specs.Admissible.{IsAdmissible, value, above_values}
use Rattle.matroid_theory.specs.Rep.{count}
use Rattle.extension.specs.Steps.{IsStart, AgreeOnRows}
use Rattle.extension.proofs.columns.next_column.Given as goal

-- no admissible column lies between the last one and this one, nor after this one where it has the same first rows
abbrev pub invariant-loop-column : goal.invariant-loop-column
invariant-loop-column l =
    record {
      most : l.rows ≤ l.rep.rank;
      start : IsStart l.rep.factors l.rep.rank l.before.items;
      after : (w : List ℕ) → slice_cmp nat_cmp l.before.items w ≡ Less → slice_cmp nat_cmp l.last.items w ≡ Less;
      none : (w : List ℕ) → IsAdmissible l.rep w → slice_cmp nat_cmp l.last.items w ≡ Less → slice_cmp nat_cmp l.before.items w ≡ Less;
      passed : (w : List ℕ) → IsAdmissible l.rep w → slice_cmp nat_cmp l.before.items w ≡ Less → ¬ (AgreeOnRows (count l.rep) l.rows l.before.items w);
    }

abbrev pub decreases-loop-column : goal.decreases-loop-column
decreases-loop-column l = above_values - value l.before.items
