use Rattle.std.proofs.Common.{◌<◌, ◌≤◌, ◌+◌, ℕ, Option, Some, None, MatchOption, sym, ◌∙◌, subst, arith, below_more}
use Rattle.std.proofs.lemmas.Bool.{false≢true}
use Rattle.minor_test.specs.Twins.{AreTwins}
use Rattle.minor_test.proofs.twins.twin_before.Goals as goal
use Rattle.minor_test.proofs.twins.twin_before.Goals.{then-are_twins, else-are_twins}

-- what is found among the first elements
abbrev IsFoundBelow : (ℕ → Type 0) → ℕ → Option ℕ → Type 0
IsFoundBelow P n o = MatchOption o ((i : ℕ) → i < n → ¬ (P i)) P

not_next : (P : ℕ → Type 0) (n : ℕ) (o : Option ℕ) → ¬ (P n) → IsFoundBelow P n o → IsFoundBelow P (n + 1) o
not_next P n None out h = below_more (λ i. ¬ (P i)) n h out
not_next P n (Some i) out h = h

all_below : (P : ℕ → Type 0) (n j : ℕ) (o : Option ℕ) → j ≤ n → IsFoundBelow P n o → IsFoundBelow P j o
all_below P n j None l h = λ i m. h i (omega arith)
all_below P n j (Some i) l h = h

pub loop-i-preserved : goal.loop-i-preserved
loop-i-preserved c = elim c.if-are_twins.branch [
  | then-are_twins w ↦ subst (λ (o : Option ℕ). IsFoundBelow (λ i. AreTwins c.args.minor.now i c.args.j) (c.loop-i.i + 1) o)
      (sym w.twin-is) (c.are_twins.ensures.0 w.if-are_twins.true)
  | else-are_twins w ↦ subst (λ (o : Option ℕ). IsFoundBelow (λ i. AreTwins c.args.minor.now i c.args.j) (c.loop-i.i + 1) o) (sym w.twin-is)
      (not_next (λ i. AreTwins c.args.minor.now i c.args.j) c.loop-i.i c.loop-i.twin
      (λ a. false≢true (sym w.if-are_twins.false ∙ c.are_twins.ensures.1 a)) c.loop-i.invariant)
]

pub returns : goal.returns
returns c = all_below (λ i. AreTwins c.args.minor.now i c.args.j) c.loop-i.i c.args.j c.loop-i.twin c.loop-i-test.false c.loop-i.invariant
