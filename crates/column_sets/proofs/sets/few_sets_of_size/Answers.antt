use Rattle.std.proofs.Common.{◌≡◌, ◌≤◌, ℕ, ◌∙◌, ap, subst, sym, lit<, arith, length}
use Rattle.std.specs.Int.RustNames.{count_ones}
use Rattle.arrayvec.specs.ArrayVec.{ArrayVec}
use Rattle.matroid_theory.specs.Matroid.{members}
use Rattle.matrix_lemmas.proofs.Bases.{size_most}
use Rattle.matrix_lemmas.proofs.MaskCounts.{size-members}
use Rattle.column_sets.specs.Sets.{IsSetOfSize}
use Rattle.column_sets.proofs.Counted.{room, one_more_set, no_more_sets}
use Rattle.column_sets.proofs.SetLemmas.{more_taken, same_taken}
use Rattle.column_sets.proofs.sets.few_sets_of_size.Goals as goal
use Rattle.column_sets.proofs.sets.few_sets_of_size.Goals.{then-takes, else-takes}

-- a set of that size has as many ones
ones : (n k set : ℕ) → IsSetOfSize n k set → count_ones set ≡ k
ones n k set s = sym (size-members n set s.below) ∙ s.elements

most : (n k set : ℕ) → IsSetOfSize n k set → k ≤ n
most n k set s = subst (λ (x : ℕ). x ≤ n) s.elements (size_most n (members set))

pub push-requires : goal.push-requires
push-requires g c =
    let s : IsSetOfSize c.args.n c.args.k c.loop-set.set = (c.takes.ensures.yes c.if-takes.true).0 in
    let m : c.args.k ≤ c.args.n = most c.args.n c.args.k c.loop-set.set s in
    let few : c.args.n ≤ 10 = c.requires.few in (
      lit< tt,
      room c.args.n c.args.k c.loop-set.set (length c.loop-set.sets.items) few (omega arith) s.below
          (ones c.args.n c.args.k c.loop-set.set s) c.loop-set.invariant.few,
    )

pub loop-set-preserved : goal.loop-set-preserved
loop-set-preserved g c =
    elim c.if-takes.branch [
      | then-takes w ↦ (let t = c.takes.ensures.yes w.if-takes.true in
          let e = ap (λ (v : ArrayVec ℕ). v.items) w.sets-is ∙ w.push.ensures.items in record {
            taken = more_taken c.loop-set.set c.args.n c.args.k _ c.loop-set.sets.items c.loop-set.invariant.taken c.if-takes.sets.items e t.0 t.1;
            few = one_more_set c.args.k c.loop-set.set c.loop-set.sets.items c.if-takes.sets.items e
                (ones c.args.n c.args.k c.loop-set.set t.0) c.loop-set.invariant.few;
          })
      | else-takes w ↦ record {
        taken = same_taken c.loop-set.set c.args.n c.args.k _ c.loop-set.sets.items c.loop-set.invariant.taken c.if-takes.sets.items
            (ap (λ (v : ArrayVec ℕ). v.items) w.sets-is) (c.takes.ensures.no w.if-takes.false);
        few = no_more_sets c.args.k c.loop-set.set c.loop-set.sets.items c.if-takes.sets.items
            (ap (λ (v : ArrayVec ℕ). v.items) w.sets-is) c.loop-set.invariant.few;
      }
    ]
