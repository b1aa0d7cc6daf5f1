use Rattle.std.proofs.Common.{sym, ◌∙◌}
use Rattle.std.proofs.lemmas.Bool.{false≢true}
use Rattle.bases.proofs.basis.is_basis.Goals as goal

pub returns-then-has_rank_many : goal.returns-then-has_rank_many
returns-then-has_rank_many c = (
  λ t. record { full = c.has_rank_many.ensures.0 c.if-has_rank_many.true; independent = c.is_independent.ensures.0 t },
  λ b. c.is_independent.ensures.1 b.independent,
)

pub returns-else-has_rank_many : goal.returns-else-has_rank_many
returns-else-has_rank_many c = (λ t. absurd (false≢true (sym c.if-has_rank_many.false ∙ t)), λ b. c.has_rank_many.ensures.1 b.full)
