use Rattle.base_iso.proofs.counts.Counts.of.Goals as goal

pub returns-clause-degrees : goal.returns-clause-degrees
returns-clause-degrees c = c.degrees-degrees.ensures c.args.list.now c.pair_counts-pairs.ensures
