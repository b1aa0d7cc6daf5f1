use Rattle.std.proofs.Common.{◌<◌, ℕ, List, sym, subst}
use Rattle.std.specs.List.{All}
use Rattle.minor_test.proofs.SmallSets.{all_in_table}
use Rattle.minor_test.proofs.sought.Sought.of.Goals as goal

pub table_of-table-requires : goal.table_of-table-requires
table_of-table-requires c = subst (λ (xs : List ℕ). All (λ X. X < 1024) xs) (sym c.bases.ensures) (all_in_table c.args.minor.now c.laws.ensures)
