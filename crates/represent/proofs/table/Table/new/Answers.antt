use Rattle.represent.proofs.TableMasks.{no_masks}
use Rattle.represent.proofs.table.Table.new.Goals as goal

pub returns : goal.returns
returns c = no_masks 65536 1024
