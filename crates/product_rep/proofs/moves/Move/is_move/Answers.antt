use Rattle.product_rep.proofs.ValidLemmas.{is_move}
use Rattle.product_rep.proofs.moves.Move.is_move.Goals as goal

pub returns-then-has_factors : goal.returns-then-has_factors
returns-then-has_factors c = (
  λ l. is_move c.args.mode c.args.self.now c.laws.ensures
      (c.has_powers.ensures.0 (let t = c.if-not-has_powers.false in let e = c.if-not-has_powers.ensures in cc))
      (c.has_factors.ensures.0 c.if-has_factors.true) (c.has_labels.ensures.0 l),
  λ m. c.has_labels.ensures.1 m.labels,
)
