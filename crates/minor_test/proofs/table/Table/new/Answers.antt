use Rattle.matrix_lemmas.proofs.TableBits.{has_none}
use Rattle.minor_test.proofs.table.Table.new.Goals as goal

pub returns : goal.returns
returns g c = has_none _
