use Rattle.std.proofs.Common.{◌≡◌, ◌+◌, ℕ, inl, inr, sym, ◌∙◌, subst, arith, refl}
use Rattle.std.proofs.lemmas.Bool.{false≢true}
use Rattle.matroid_theory.specs.Rep.{size, order, matrix, KeepsLimits}
use Rattle.matroid_theory.specs.Matroid.{members}
use Rattle.matroid_theory.specs.Connection.{IsRank}
use Rattle.matrix_lemmas.proofs.Bases.{rank_unique}
use Rattle.connectivity.specs.declared.side.Side.{Side}
use Rattle.connectivity.proofs.LeftOut.{without, AreLacking, IsRest, none_rest, rest_with, rest_same, rest_within, full_rank, none_lack, rest_rank}
use Rattle.connectivity.proofs.cosimplicity.keeps_rank.Goals as goal
use Rattle.connectivity.proofs.cosimplicity.keeps_rank.Goals.{then-k-i+then-k-j+else-rank, else-k-i, else-k-i-via-then-k-i+else-k-j, else-k-i-via-else-k-i}

pub loop-k-init : goal.loop-k-init
loop-k-init c = record {
  rest = none_rest c.args.i c.args.j (members c.empty-rest.result.set) c.empty-rest.ensures.set;
  side = c.empty-rest.ensures.side c.args.rep.now;
  lacking = none_lack c.args.rep.now c.size-k-end.ensures.is_rep (members c.empty-rest.result.set) c.empty-rest.ensures.set;
}

pub returns-then-rank : goal.returns-then-rank
returns-then-rank c =
    let r : KeepsLimits c.args.rep.now = c.size-k-end.ensures.is_rep in
    let rest : IsRest c.args.i c.args.j (c.loop-k.k + 1) (members c.with-rest.result.set) =
    rest_with c.args.i c.args.j c.loop-k.k (members c.loop-k.rest.set) (members c.with-rest.result.set) c.loop-k.invariant.rest
    c.if-k-i.true c.if-k-j.true c.with-rest.ensures.set in
    let full : IsRank c.args.rep.now (members c.with-rest.result.set) c.args.rep.now.rank =
    subst (λ (k : ℕ). IsRank c.args.rep.now (members c.with-rest.result.set) k) (c.if-rank.true ∙ c.rank-then-k-j.ensures)
    (c.rank.ensures.rank c.args.rep.now r c.with-rest.ensures.side) in (
      λ _. full_rank c.args.rep.now r (members c.with-rest.result.set) (without c.args.i c.args.j)
          (rest_within c.args.i c.args.j (c.loop-k.k + 1) (members c.with-rest.result.set) rest) full,
      λ _. refl,
    )

pub loop-k-preserved : goal.loop-k-preserved
loop-k-preserved c =
    let r : KeepsLimits c.args.rep.now = c.size-k-end.ensures.is_rep in
    elim c.if-k-i.branch [
      | then-k-i+then-k-j+else-rank w ↦
          subst (λ (s : Side). AreLacking c.args.rep.now c.args.i c.args.j (c.loop-k.k + 1) s.set s.basis) (sym w.rest-is) (record {
            rest = rest_with c.args.i c.args.j c.loop-k.k (members c.loop-k.rest.set)
                (members w.with-rest.result.set) c.loop-k.invariant.rest w.if-k-i.true w.if-k-j.true w.with-rest.ensures.set;
            side = w.with-rest.ensures.side;
            lacking = λ full. w.if-rank.false
                (rank_unique (order c.args.rep.now 0) c.args.rep.now.rank (size c.args.rep.now) (matrix c.args.rep.now 0)
                (members w.with-rest.result.set) w.rank.result c.args.rep.now.rank
                (w.rank.ensures.rank c.args.rep.now r w.with-rest.ensures.side) full ∙ sym w.rank-then-k-j.ensures);
          })
      | else-k-i w ↦ subst (λ (s : Side). AreLacking c.args.rep.now c.args.i c.args.j (c.loop-k.k + 1) s.set s.basis) (sym w.rest-is) (record {
        rest = rest_same c.args.i c.args.j c.loop-k.k (members c.loop-k.rest.set) c.loop-k.invariant.rest
            (elim w.else-k-i.branch [ else-k-i-via-then-k-i+else-k-j v ↦ inr v.if-k-j.false | else-k-i-via-else-k-i v ↦ inl v.if-k-i.false ]);
        side = c.loop-k.invariant.side;
        lacking = c.loop-k.invariant.lacking;
      })
    ]

pub returns : goal.returns
returns c =
    let r : KeepsLimits c.args.rep.now = c.size-k-end.ensures.is_rep in
    let e : c.loop-k.k ≡ size c.args.rep.now = omega arith in (
      λ f. absurd (false≢true f),
      λ full. absurd (c.loop-k.invariant.lacking
          (rest_rank c.args.rep.now c.args.i c.args.j (members c.loop-k.rest.set)
          (subst (λ (n : ℕ). IsRest c.args.i c.args.j n (members c.loop-k.rest.set)) e c.loop-k.invariant.rest) full)),
    )
