use Rattle.std.proofs.Common.{◌≤◌, ◌<◌, ℕ, sym, ◌∙◌, subst, arith, bit_or}
use Rattle.std.proofs.lemmas.Bool.{false≢true}
use Rattle.matroid_theory.specs.Rep.{size}
use Rattle.connectivity.specs.Sides.{IsSide}
use Rattle.connectivity.proofs.SideLemmas.{one, members_with, side_longer, side_same}
use Rattle.connectivity.proofs.side.Side.with.Goals as goal
use Rattle.connectivity.proofs.side.Side.with.Goals.{then-is_independent, else-is_independent}

pub returns-clause-set : goal.returns-clause-set
returns-clause-set c k =
    let m : size c.args.rep.now ≤ 16 = c.laws.ensures.size_most in
    let l : c.args.j < size c.args.rep.now = c.requires.column in
    members_with c.args.self.set c.args.j k (omega arith)

pub returns-clause-side : goal.returns-clause-side
returns-clause-side c =
    let m : size c.args.rep.now ≤ 16 = c.laws.ensures.size_most in
    elim c.if-is_independent.branch [
      | then-is_independent w ↦ subst (λ (b : ℕ). IsSide c.args.rep.now (bit_or c.args.self.set (one c.args.j)) b) (sym w.basis-is)
          (side_longer c.args.rep.now c.args.self.set c.args.self.basis c.args.j c.requires.column m c.requires.side
          (c.is_independent.ensures.0 w.if-is_independent.true))
      | else-is_independent w ↦ subst (λ (b : ℕ). IsSide c.args.rep.now (bit_or c.args.self.set (one c.args.j)) b) (sym w.basis-is)
          (side_same c.args.rep.now c.args.self.set c.args.self.basis c.args.j c.requires.column m c.requires.side
          (λ d. false≢true (sym w.if-is_independent.false ∙ c.is_independent.ensures.1 d)))
    ]
