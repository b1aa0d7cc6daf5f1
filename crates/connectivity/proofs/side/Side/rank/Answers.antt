use Rattle.connectivity.proofs.SideLemmas.{side_rank}
use Rattle.connectivity.proofs.side.Side.rank.Goals as goal

pub returns-clause-rank : goal.returns-clause-rank
returns-clause-rank c M r h = side_rank M r c.args.self.set c.args.self.basis h
