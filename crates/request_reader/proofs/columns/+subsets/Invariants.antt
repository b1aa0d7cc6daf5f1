use Rattle.request_reader.proofs.columns.+subsets.Given as goal

abbrev pub decreases-subsets : goal.decreases-subsets
decreases-subsets l = l.n
