use Rattle.std.proofs.Common.{subst}
use Rattle.std.specs.List.Sorted.{IsStrictlyIncreasing}
use Rattle.represent.proofs.TableMasks.{rising_masks}
use Rattle.represent.proofs.table.Table.laws.Goals as goal

pub returns : goal.returns
returns c = subst IsStrictlyIncreasing c.self.view_is (rising_masks 65536 c.self.inside.words)
