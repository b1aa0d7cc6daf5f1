use Rattle.std.proofs.Common.{◌+◌, List, subst, sym, ◌∙◌, ap}
use Rattle.arrayvec.specs.ArrayVec.{ArrayVec}
use Rattle.extension.specs.declared.planes.Plane.{Plane}
use Rattle.extension.specs.Planes.{IsCovered, ArePlanes}
use Rattle.extension.proofs.PlaneLemmas.{planes_kept, planes_pushed}
use Rattle.extension.proofs.planes.first_planes.Goals as goal
use Rattle.extension.proofs.planes.first_planes.Goals.{then-not-is_covered+in-Some+else-is_full, else-not-is_covered}

pub loop-set-preserved : goal.loop-set-preserved
loop-set-preserved c = elim c.if-not-is_covered.branch [
  | then-not-is_covered+in-Some+else-is_full w ↦
      subst (λ (planes : List Plane). ArePlanes c.args.rep.now planes (c.loop-set.set + 1))
      (sym (ap (λ (list : ArrayVec Plane). list.items) w.list-is ∙ w.push.ensures.items))
      (planes_pushed c.args.rep.now c.loop-set.list.items c.loop-set.set w.in-Some.plane c.loop-set.invariant w.in-Some.ensures.plane
      w.in-Some.ensures.within)
  | else-not-is_covered w ↦
      subst (λ (planes : List Plane). ArePlanes c.args.rep.now planes (c.loop-set.set + 1))
      (sym (ap (λ (list : ArrayVec Plane). list.items) w.list-is))
      (planes_kept c.args.rep.now c.loop-set.list.items c.loop-set.set c.loop-set.invariant
      (λ s. subst (λ (planes : List Plane). IsCovered c.args.rep.now planes c.loop-set.set) c.as_slice.ensures.value
      (c.is_covered.ensures.yes w.if-not-is_covered.false s)))
]
