use Rattle.matrix_lemmas.proofs.MaskCounts.{size-members}
use Rattle.connectivity.proofs.side.Side.size.Goals as goal

pub returns : goal.returns
returns c n l = size-members n c.args.self.set l
