use Rattle.std.proofs.Common.{◌≡◌, ◌<◌, ℕ}
use Rattle.matroid_theory.specs.Rep.{size, matrix}
use Rattle.ask_run.specs.Layouts.{HasEntry}
use Rattle.ask_run.specs.Texts.{texts_of}
use Rattle.ask_run.proofs.entry.matrices_in.Given as goal

abbrev pub invariant-loop-j : goal.invariant-loop-j
invariant-loop-j l =
    record {
      factors : l.rep.factors ≡ l.factors;
      rank : l.rep.rank ≡ l.layout.rows;
      columns : size l.rep ≡ l.j;
      entries : (f i k : ℕ) → f < l.layout.factors → i < l.layout.rows → k < l.j → HasEntry (texts_of l.words) l.layout f i k (matrix l.rep f i k);
    }
