use Rattle.std.proofs.Common.{◌≡◌, inl, inr, [], ℕ, List, true, false, length, length-set, slice_index_or, sym, ◌∙◌, subst, arith}
use Rattle.std.proofs.lemmas.Bool.{cases_lt}
use Rattle.matroid_theory.specs.Exchange.{exchange}
use Rattle.form_states.specs.Codes.{AreColumnCodes, code, cleared_code, IsNormalisedFrom}
use Rattle.form_states.proofs.GroupSteps.{set_at}
use Rattle.form_states.proofs.lists.normalised_pivots.Goals as goal

pub loop-e-preserved : goal.loop-e-preserved
loop-e-preserved c = record {
  size = length-set c.loop-e.next c.loop-e.e c.normalised_pivot.result ∙ c.loop-e.invariant.size;
  codes = λ j l. set_at c.loop-e.next c.loop-e.e c.normalised_pivot.result [] j (let z : length c.loop-e.next ≡ 16 = c.loop-e.invariant.size in omega
      (arith, c.requires.limits.sixteen, c.loop-e-test.true))
      (AreColumnCodes c.args.shape.now.fields) (λ _. c.normalised_pivot.ensures.codes) (λ _. c.loop-e.invariant.codes j l);
  rows = λ j l m. set_at c.loop-e.next c.loop-e.e c.normalised_pivot.result [] j (let z : length c.loop-e.next ≡ 16 = c.loop-e.invariant.size in omega
      (arith, c.requires.limits.sixteen, c.loop-e-test.true))
      (λ (column : List (List ℕ)). IsNormalisedFrom c.args.shape.now.fields c.args.shape.now.count c.args.shape.now.rank
      (λ f i. cleared_code c.args.shape.now.fields c.args.p (code c.args.minus.now) (code (slice_index_or c.args.columns.now j [])) f
      (exchange c.args.p c.args.k i)) (code column))
      (λ y. subst (λ q. slice_index_or c.args.marks.now q false ≡ true → IsNormalisedFrom c.args.shape.now.fields c.args.shape.now.count c.args.shape.now.rank
      (λ f i. cleared_code c.args.shape.now.fields c.args.p (code c.args.minus.now) (code (slice_index_or c.args.columns.now q [])) f
      (exchange c.args.p c.args.k i)) (code c.normalised_pivot.result))
      (sym y) c.normalised_pivot.ensures.normalised m)
      (λ n. c.loop-e.invariant.rows j (elim (cases_lt j c.loop-e.e) [ inl b ↦ b | inr b ↦ absurd (n (omega arith)) ]) m);
}
