use Rattle.std.proofs.Common.{◌≡◌, ◌<◌, ℕ}
use Rattle.matroid_theory.specs.Rep.{size, count, matrix, shape}
use Rattle.matroid_theory.specs.Move.{moved, move_of}
use Rattle.product_rep.proofs.moves.act.Given as goal

abbrev pub invariant-loop-j : goal.invariant-loop-j
invariant-loop-j l =
    record {
      factors : l.image.factors ≡ l.rep.factors;
      rank : l.image.rank ≡ l.rep.rank;
      size : size l.image ≡ l.j;
      codes : (f i k : ℕ) → f < count l.rep → i < l.rep.rank → k < l.j → matrix l.image f i k ≡ moved (shape l.rep) (matrix l.rep) (move_of l.step) f i k;
    }
