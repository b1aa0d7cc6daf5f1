use Rattle.std.proofs.Common.{refl, rules}
use Rattle.matrix_lemmas.proofs.TableBits.{has_more}
use Rattle.minor_test.proofs.table.Table.add.Goals as goal

pub returns : goal.returns
returns g c = has_more c.args.self.now.words c.args.set c.from-word.result _ c.from-word.ensures refl (search rules)
