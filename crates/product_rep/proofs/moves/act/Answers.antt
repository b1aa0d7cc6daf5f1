use Rattle.product_rep.proofs.MoveLemmas.{moved_column}
use Rattle.product_rep.proofs.moves.act.Goals as goal

pub push_column-requires-clause-column : goal.push_column-requires-clause-column
push_column-requires-clause-column c =
    moved_column c.args.rep.now c.loop-j.image c.args.step.now c.loop-j.j c.moved_column.result.items c.size-size.ensures.is_rep
    c.loop-j.invariant.factors c.loop-j.invariant.rank c.moved_column.ensures.rows c.moved_column.ensures.codes
