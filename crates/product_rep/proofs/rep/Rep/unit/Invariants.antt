use Rattle.std.proofs.Common.{◌≡◌, ◌<◌, ℕ}
use Rattle.matroid_theory.specs.Rep.{size, count, matrix}
use Rattle.matroid_theory.specs.Matrix.{unit}
use Rattle.product_rep.proofs.rep.Rep.unit.Given as goal

abbrev pub invariant-loop-j : goal.invariant-loop-j
invariant-loop-j l =
    record {
      factors : l.rep.factors ≡ l.fn.factors;
      rank : l.rep.rank ≡ l.fn.rank;
      size : size l.rep ≡ l.j;
      units : (f i k : ℕ) → f < count l.rep → i < l.rep.rank → k < l.j → matrix l.rep f i k ≡ unit i k;
    }
