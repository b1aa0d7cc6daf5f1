use Rattle.std.proofs.Common.{◌≡◌, ◌<◌, ◌-◌, ℕ}
use Rattle.matroid_theory.specs.Rep.{size, count, matrix}
use Rattle.dual_theory.specs.Dual.{dual_matrix}
use Rattle.dual_form.proofs.dual.standard_dual.Given as goal

abbrev pub invariant-loop-j : goal.invariant-loop-j
invariant-loop-j l =
    record {
      factors : l.dual.factors ≡ l.rep.factors;
      rank : l.dual.rank ≡ size l.rep - l.rep.rank;
      columns : size l.dual ≡ l.j;
      codes : (f i k : ℕ) → f < count l.rep → i < size l.rep - l.rep.rank → k < l.j → matrix l.dual f i k ≡ dual_matrix l.rep f i k;
    }
