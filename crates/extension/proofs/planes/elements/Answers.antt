use Rattle.std.proofs.Common.{◌≡◌, ◌<◌, ◌≤◌, ℕ, true, subst, arith}
use Rattle.matroid_theory.specs.Rep.{size}
use Rattle.matroid_theory.specs.Matroid.{members}
use Rattle.extension.proofs.PlaneLemmas.{more_elements}
use Rattle.extension.proofs.planes.elements.Goals as goal
use Rattle.extension.proofs.planes.elements.Goals.{then-lies_on, else-lies_on}

pub loop-j-preserved : goal.loop-j-preserved
loop-j-preserved c = elim c.if-lies_on.branch [
  | then-lies_on w ↦ (λ j t. more_elements c.args.rep.now c.args.normals.now c.loop-j.elements c.loop-j.j
      (let n : c.size-j-end.result ≡ size c.args.rep.now = c.size-j-end.ensures.value in
      let m : size c.args.rep.now ≤ 16 = c.laws.ensures.size_most in omega arith) c.loop-j.invariant
      (c.lies_on.ensures w.if-lies_on.true) j (subst (λ (x : ℕ). members x j ≡ true) w.elements-is t))
  | else-lies_on w ↦ (λ j t. let v = c.loop-j.invariant j (subst (λ (x : ℕ). members x j ≡ true) w.elements-is t) in
      ((let o : j < c.loop-j.j = v.0 in omega arith), v.1))
]
