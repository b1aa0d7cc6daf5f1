use Rattle.std.proofs.Common.{refl, arith, rules}
use Rattle.represent.proofs.TableMasks.{put_mask}
use Rattle.represent.proofs.table.Table.add.Goals as goal

pub returns : goal.returns
returns c X = put_mask 65536 c.self.inside.words _ c.self.view_is c.args.set c.from-word.result _ c.from-word.ensures refl (search rules)
    (omega arith) X
