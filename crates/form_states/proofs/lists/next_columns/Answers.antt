use Rattle.std.proofs.Common.{◌≡◌, inl, inr, [], ℕ, List, true, false, length, length-set, slice_index, slice_index_or, sym, ◌∙◌, subst, arith}
use Rattle.std.proofs.lemmas.Bool.{cases_lt}
use Rattle.matroid_theory.specs.Field.{times}
use Rattle.matroid_theory.specs.Exchange.{exchange}
use Rattle.form_states.specs.Codes.{AreColumnCodes, code, cleared_code, IsNormalisedFrom}
use Rattle.form_states.proofs.GroupSteps.{set_at}
use Rattle.form_states.proofs.Normalised.{normalised_same, cleared_by_one}
use Rattle.form_states.proofs.lists.next_columns.Goals as goal

pub loop-e-preserved : goal.loop-e-preserved
loop-e-preserved c = record {
  size = length-set c.loop-e.next c.loop-e.e c.marked_next.result ∙ c.loop-e.invariant.size;
  codes = λ j l. set_at c.loop-e.next c.loop-e.e c.marked_next.result [] j (let z : length c.loop-e.next ≡ 16 = c.loop-e.invariant.size in omega
      (arith, c.requires.limits.sixteen, c.loop-e-test.true))
      (AreColumnCodes c.args.shape.now.fields) (λ _. c.marked_next.ensures.codes) (λ _. c.loop-e.invariant.codes j l);
  rows = λ j l m. set_at c.loop-e.next c.loop-e.e c.marked_next.result [] j (let z : length c.loop-e.next ≡ 16 = c.loop-e.invariant.size in omega
      (arith, c.requires.limits.sixteen, c.loop-e-test.true))
      (λ (column : List (List ℕ)). IsNormalisedFrom c.args.shape.now.fields c.args.shape.now.count c.args.shape.now.rank
      (λ f i. times (slice_index c.args.shape.now.fields f) (code c.args.by.now f i)
      (cleared_code c.args.shape.now.fields c.args.p (code c.args.minus.now) (code (slice_index_or c.args.columns.now j [])) f
      (exchange c.args.p c.args.k i))) (code column))
      (λ y. subst (λ q. slice_index_or c.args.marks.now q false ≡ true → IsNormalisedFrom c.args.shape.now.fields c.args.shape.now.count c.args.shape.now.rank
      (λ f i. times (slice_index c.args.shape.now.fields f) (code c.args.by.now f i)
      (cleared_code c.args.shape.now.fields c.args.p (code c.args.minus.now) (code (slice_index_or c.args.columns.now q [])) f
      (exchange c.args.p c.args.k i))) (code c.marked_next.result))
      (sym y) c.marked_next.ensures.normalised m)
      (λ n. c.loop-e.invariant.rows j (elim (cases_lt j c.loop-e.e) [ inl b ↦ b | inr b ↦ absurd (n (omega arith)) ]) m);
}

pub returns-then-are_all_ones-clause-normalised : goal.returns-then-are_all_ones-clause-normalised
returns-then-are_all_ones-clause-normalised c e l m =
    normalised_same c.args.shape.now.fields c.args.shape.now.count c.args.shape.now.rank
    (λ f i. cleared_code c.args.shape.now.fields c.args.p (code c.args.minus.now) (code (slice_index_or c.args.columns.now e [])) f
    (exchange c.args.p c.args.k i))
    (λ f i. times (slice_index c.args.shape.now.fields f) (code c.args.by.now f i)
    (cleared_code c.args.shape.now.fields c.args.p (code c.args.minus.now) (code (slice_index_or c.args.columns.now e [])) f
    (exchange c.args.p c.args.k i)))
    (code (slice_index_or c.normalised_pivots.result e [])) c.requires.limits.one
    (λ f i n b. cleared_by_one c.args.shape.now.fields c.args.shape.now.count c.args.shape.now.rank c.args.shape.now.size c.args.p
    (slice_index_or c.args.columns.now e []) (code c.args.minus.now) (code c.args.by.now) f i (exchange c.args.p c.args.k i) c.requires.limits
    (c.requires.columns e (omega (arith, c.requires.limits.sixteen))) c.requires.p n (c.laws.ensures f (omega (arith, c.requires.limits.few)))
    (c.are_all_ones.ensures c.if-are_all_ones.true f i n b))
    (c.normalised_pivots.ensures.normalised e l m)
