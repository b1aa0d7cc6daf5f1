use Rattle.std.proofs.Common.{length, rules}
use Rattle.matroid_theory.specs.Matrix.{IsIndependent}
use Rattle.matroid_theory.specs.Matroid.{members}
use Rattle.elimination.specs.Columns.{height, matrix_of}
use Rattle.column_sets.proofs.SetLemmas.{masks_of_taken, masks_same}
use Rattle.column_sets.proofs.columns.few_bases_of_columns.Goals as goal

pub returns : goal.returns
returns c =
    masks_same _ _ _ _ (λ X _. (λ w. record { full = w.0; independent = w.1 }, λ b. (b.full, b.independent)))
    (masks_of_taken (length c.args.columns.now) c.args.rank
    _ (λ X. IsIndependent c.args.field (height c.args.columns.now) (length c.args.columns.now) (matrix_of c.args.columns.now)
    (members X)) c.few_sets_of_size.result.items
    (λ X s b e. search rules) c.few_sets_of_size.ensures)
