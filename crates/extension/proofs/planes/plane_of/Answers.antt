use Rattle.std.proofs.Common.{◌≡◌, ◌<◌, ◌≤◌, ℕ, List, length, slice_index, subst, ◌∙◌, ap, arith}
use Rattle.arrayvec.specs.ArrayVec.{ArrayVec}
use Rattle.elimination.specs.Columns.{IsColumn}
use Rattle.matroid_theory.specs.Rep.{count, order}
use Rattle.extension.specs.Planes.{IsNormal, LiesOn}
use Rattle.extension.proofs.PlaneLemmas.{columns_more}
use Rattle.extension.proofs.planes.plane_of.Goals as goal
use Rattle.extension.proofs.planes.plane_of.Goals.{After-as_slice}

read : (c : After-as_slice) → length c.as_slice.result.now ≡ c.args.rep.now.rank
read c = ap (λ (w : List ℕ). length w) c.as_slice.ensures.value
    ∙ (let k : IsColumn (order c.args.rep.now c.loop-factor.factor) c.args.rep.now.rank c.in_ok-normal.normal.items = c.in_ok-normal.ensures.codes in k.rows)

pub nonzero_length-rows-requires : goal.nonzero_length-rows-requires
nonzero_length-rows-requires c =
    let s = read ((goal.at.nonzero_length-rows-requires c).After-as_slice) in
    let m : c.loop-factor.rows ≤ c.args.rep.now.rank = c.loop-factor.invariant.most in omega arith

pub loop-factor-preserved : goal.loop-factor-preserved
loop-factor-preserved c =
    let s = read ((goal.at.loop-factor-preserved c).After-as_slice) in
    record {
      most = (let m : c.nonzero_length-rows.result ≤ length c.as_slice.result.now = c.nonzero_length-rows.ensures.most in omega arith);
      zeros = columns_more (λ _ w. (i : ℕ) → c.nonzero_length-rows.result ≤ i → i < c.args.rep.now.rank → slice_index w i ≡ 0)
          c.loop-factor.factor c.loop-factor.normals.items _ c.in_ok-normal.normal c.push.ensures.items c.loop-factor.invariant.count
          (λ f l i m o. c.loop-factor.invariant.zeros f l i (omega arith) o)
          (λ i m o. subst (λ (w : List ℕ). slice_index w i ≡ 0) c.as_slice.ensures.value
          (c.nonzero_length-rows.ensures.zeros i (omega arith) (omega arith)));
      count = omega arith;
      normals = columns_more (λ f w. IsNormal (order c.args.rep.now f) c.args.rep.now.rank w) c.loop-factor.factor c.loop-factor.normals.items _
          c.in_ok-normal.normal c.push.ensures.items c.loop-factor.invariant.count c.loop-factor.invariant.normals c.in_ok-normal.ensures;
    }

pub returns-then-is_subset : goal.returns-then-is_subset
returns-then-is_subset c =
    let n : c.count-factor-end.result ≡ count c.args.rep.now = c.count-factor-end.ensures.count ∙ ap (λ (fs : List ℕ). length fs) c.factors.ensures in
    record {
      plane = record {
        normals = λ f l. c.loop-factor.invariant.normals f (omega arith);
        count = omega arith;
        rows_most = c.loop-factor.invariant.most;
        zeros = λ f i l m o. c.loop-factor.invariant.zeros f (omega arith) i m o;
        lies_on = λ j _ t. subst (λ (xs : List (ArrayVec ℕ)). LiesOn c.args.rep.now xs j) c.as_slice-2.ensures.value (c.elements-elements.ensures j t).1;
        set = c.args.set;
        is_set = c.requires.set;
        independent = c.requires.independent;
        within = λ j _ t. c.is_subset.ensures c.if-is_subset.true j t;
      };
      within = λ j _ t. c.is_subset.ensures c.if-is_subset.true j t;
    }
