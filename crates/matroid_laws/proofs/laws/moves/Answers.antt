use Rattle.std.proofs.Common.{sym, subst}
use Rattle.matroid_theory.specs.Move.{IsMove, TakesTo}
use Rattle.matroid_laws.proofs.Equivalence.{identity, after, undo, identity_move, after_move, undo_move, takes_identity, takes_after, takes_undone}
use Rattle.matroid_laws.proofs.laws.moves.Goals as goal

pub returns-clause-identity : goal.returns-clause-identity
returns-clause-identity c = λ mode S fields. (identity, identity_move mode S fields, λ M e s. takes_identity M s)

pub returns-clause-composite : goal.returns-clause-composite
returns-clause-composite c = λ mode S a b fields v w. (
  after S b a,
  after_move mode S fields b a w v,
  λ M N L e s t u.
      subst (λ S. TakesTo M (after S b a) L) e
      (takes_after mode M N L b a s (subst (λ S. IsMove mode S b) (sym e) w) (subst (λ S. IsMove mode S a) (sym e) v) t u),
)

pub returns-clause-inverse : goal.returns-clause-inverse
returns-clause-inverse c = λ mode S a fields v. (
  undo S a,
  undo_move mode S fields a v,
  λ M N e s t.
      subst (λ S. TakesTo N (undo S a) M) e (takes_undone mode M N a s (subst (λ S. IsMove mode S a) (sym e) v) t),
)
