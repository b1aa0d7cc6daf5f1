use Rattle.std.proofs.Common.{◌≤◌, ℕ, sym, ◌∙◌, arith, refl}
use Rattle.std.proofs.lemmas.Bool.{false≢true}
use Rattle.matroid_theory.specs.Connection.{IsRank}
use Rattle.matroid_laws.proofs.Agreement.{one_more}
use Rattle.connectivity.proofs.LeftOut.{without, ranks_both}
use Rattle.connectivity.proofs.cosimplicity.cosimple.Goals as goal

pub returns-then-not-keeps_rank_with_earlier : goal.returns-then-not-keeps_rank_with_earlier
returns-then-not-keeps_rank_with_earlier c = (
  λ f. absurd (false≢true f),
  λ h. absurd (false≢true (sym c.if-not-keeps_rank_with_earlier.true
      ∙ c.keeps_rank_with_earlier.ensures.1 (λ i l. h i c.loop-j.j (omega arith) (omega arith)))),
)

pub loop-j-preserved : goal.loop-j-preserved
loop-j-preserved c =
    one_more c.loop-j.j (λ j. (i : ℕ) → i ≤ j → IsRank c.args.rep.now (without i j) c.args.rep.now.rank) c.loop-j.invariant
    (c.keeps_rank_with_earlier.ensures.0 c.if-not-keeps_rank_with_earlier.false)

pub returns : goal.returns
returns c = (λ _. ranks_both c.args.rep.now (λ j l. c.loop-j.invariant j (omega arith)), λ _. refl)
