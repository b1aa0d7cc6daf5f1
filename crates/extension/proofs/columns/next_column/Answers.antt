use Rattle.std.proofs.Common.{◌≡◌, ◌*◌, ◌<◌, ◌≤◌, ℕ, List, sym, ◌∙◌, ap, subst, slice_index, inr, arith}
use Rattle.std.proofs.lemmas.Cmp.{nat_list_cmp_total}
use Rattle.std.specs.Cmp.{IsTotalOrder}
use Rattle.std.specs.Cmp.Lexicographic.{slice_cmp}
use Rattle.std.specs.Ordering.{nat_cmp}
use Rattle.std.specs.declared.cmp.Ordering.TheVariants.{Less}
use Rattle.matroid_theory.specs.Rep.{Rep, count}
use Rattle.extension.specs.Admissible.{IsAdmissible}
use Rattle.extension.specs.Steps.{IsStart, AgreeOnRows, IsNextNormalised, KeepsColumns}
use Rattle.extension.proofs.Nexts.{agree_nowhere}
use Rattle.extension.proofs.Places.{less_or_same}
use Rattle.extension.proofs.Values.{nearer}
use Rattle.extension.proofs.columns.next_column.Goals as goal
use Rattle.extension.proofs.columns.next_column.Goals.{In-Some}

-- the step by the names of the arguments
step : (fs gs : List ℕ) (r s rows : ℕ) (u x v : List ℕ) → fs ≡ gs → r ≡ s → x ≡ u → IsNextNormalised fs r rows x v → IsNextNormalised gs s rows u v
step fs gs r s rows u x v e d k h = subst (λ (gs : List ℕ). IsNextNormalised gs s rows u v) e
    (subst (λ (s : ℕ). IsNextNormalised fs s rows u v) d (subst (λ (x : List ℕ). IsNextNormalised fs r rows x v) k h))

next_one : (c : In-Some) → IsNextNormalised c.args.rep.now.factors c.args.rep.now.rank c.loop-column.rows c.loop-column.before.items c.in-Some.column.items
next_one c = step _ _ _ _ c.loop-column.rows c.loop-column.before.items c.as_slice-in-loop-column.result.now c.in-Some.column.items
    c.factors-factors.ensures c.rank-rank.ensures c.as_slice-in-loop-column.ensures.value c.in-Some.ensures

pub loop-column-smaller : goal.loop-column-smaller
loop-column-smaller c =
    let n = next_one ((goal.at.loop-column-smaller c).In-Some) in
    let r = c.requires.keeps.is_rep in
    nearer c.args.rep.now.factors r.fields c.args.rep.now.rank r.rank_most c.loop-column.before.items c.in-Some.column.items
    c.loop-column.invariant.start n.normalised n.after

pub loop-column-preserved : goal.loop-column-preserved
loop-column-preserved c =
    let n = next_one ((goal.at.loop-column-preserved c).In-Some) in
    let t : IsTotalOrder (slice_cmp nat_cmp) = nat_list_cmp_total in
    let none = c.loop-column.invariant.none in
    record {
      most = c.in-Some-refused_rows.ensures.most;
      start = inr n.normalised;
      after = λ w l. c.loop-column.invariant.after w (t.trans _ _ w n.after l);
      none = λ w a l. less_or_same _ w (n.first w a.normalised (c.loop-column.invariant.passed w a (none w a l)) (none w a l))
          (λ e. c.in-Some-refused_rows.ensures.none w a (λ p _. ap (λ x. slice_index x p) e));
      passed = λ w a _. c.in-Some-refused_rows.ensures.none w a;
    }

-- at first nothing is passed over
none_passed : (M : Rep) (last before : List ℕ) (rows : ℕ) → KeepsColumns (record { parent = M; last = last }) → before ≡ last → rows ≡ M.rank →
    (w : List ℕ) → IsAdmissible M w → slice_cmp nat_cmp before w ≡ Less → ¬ (AgreeOnRows (count M) rows before w)
none_passed M last before rows k e d w a l same =
    let r = k.is_rep in
    agree_nowhere M.factors r.fields M.rank last w k.start a.normalised (subst (λ (u : List ℕ). slice_cmp nat_cmp u w ≡ Less) e l)
    (λ p b. ap (λ u. slice_index u p) (sym e) ∙ same p (subst (λ (n : ℕ). p < n * count M) (sym d) b))

pub loop-column-init : goal.loop-column-init
loop-column-init c =
    let e : c.list_of-before.result.items ≡ c.args.last.now.items = c.list_of-before.ensures ∙ c.as_slice.ensures.value in
    record {
      most = (let m : c.rank-rank.result ≤ c.args.rep.now.rank = omega arith in m);
      start = subst (λ (u : List ℕ). IsStart c.args.rep.now.factors c.args.rep.now.rank u) (sym e) c.requires.keeps.start;
      after = λ w l. subst (λ (u : List ℕ). slice_cmp nat_cmp u w ≡ Less) e l;
      none = λ w _ l. subst (λ (u : List ℕ). slice_cmp nat_cmp u w ≡ Less) (sym e) l;
      passed = none_passed c.args.rep.now c.args.last.now.items c.list_of-before.result.items c.rank-rank.result c.requires.keeps e
          c.rank-rank.ensures;
    }

pub returns-in_default-refused_rows : goal.returns-in_default-refused_rows
returns-in_default-refused_rows c =
    let n = next_one ((goal.at.returns-in_default-refused_rows c).In-Some) in
    let none = c.loop-column.invariant.none in
    record {
      admissible = c.in_default-refused_rows.ensures;
      after = c.loop-column.invariant.after c.in-Some.column.items n.after;
      first = λ w a l. n.first w a.normalised (c.loop-column.invariant.passed w a (none w a l)) (none w a l);
    }
