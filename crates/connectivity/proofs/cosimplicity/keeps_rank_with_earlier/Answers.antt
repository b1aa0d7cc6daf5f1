use Rattle.std.proofs.Common.{sym, ◌∙◌, arith, refl}
use Rattle.std.proofs.lemmas.Bool.{false≢true}
use Rattle.matroid_theory.specs.Connection.{IsRank}
use Rattle.matroid_laws.proofs.Agreement.{one_more}
use Rattle.connectivity.proofs.LeftOut.{without}
use Rattle.connectivity.proofs.cosimplicity.keeps_rank_with_earlier.Goals as goal

pub returns-then-not-keeps_rank : goal.returns-then-not-keeps_rank
returns-then-not-keeps_rank c = (
  λ f. absurd (false≢true f),
  λ h. absurd (false≢true (sym c.if-not-keeps_rank.true ∙ c.keeps_rank.ensures.1 (h c.loop-i.i c.loop-i-test.true))),
)

pub loop-i-preserved : goal.loop-i-preserved
loop-i-preserved c = one_more c.loop-i.i (λ i. IsRank c.args.rep.now (without i c.args.j) c.args.rep.now.rank) c.loop-i.invariant
    (c.keeps_rank.ensures.0 c.if-not-keeps_rank.false)

pub returns-else-not-keeps_rank : goal.returns-else-not-keeps_rank
returns-else-not-keeps_rank c = (
  λ _ i l. one_more c.loop-i.i (λ i. IsRank c.args.rep.now (without i c.args.j) c.args.rep.now.rank) c.loop-i.invariant
      (c.keeps_rank.ensures.0 c.if-not-keeps_rank.false) i (omega arith),
  λ _. refl,
)
