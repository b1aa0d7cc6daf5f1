use Rattle.std.proofs.Common.{◌∙◌, ap, length, List, ℕ}
use Rattle.product_rep.proofs.MoveLemmas.{code-at}
use Rattle.product_rep.proofs.moves.moved_column.Goals as goal

pub returns-clause-codes : goal.returns-clause-codes
returns-clause-codes c =
    code-at c.args.rep.now c.args.step.now c.args.j c.loop-place.place c.count-count.result c.rank.result c.loop-place.column.items
    (c.count-count.ensures.count ∙ ap (λ (fs : List ℕ). length fs) c.factors.ensures) c.rank.ensures c.loop-place-test.false c.loop-place.invariant.codes
