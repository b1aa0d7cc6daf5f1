use Rattle.std.proofs.Common.{List, length, take, drop, ◌++◌, ◌∙◌, sym, ap, subst}
use Rattle.std.proofs.Math.Seq.{take-append_seam}
use Rattle.std.proofs.lemmas.List.Sorted.{length_permutation}
use Rattle.std.specs.List.Sorted.{IsPermutation}
use Rattle.extension.specs.Planes.{ArePlanes}
use Rattle.extension.specs.declared.planes.Plane.{Plane}
use Rattle.extension.proofs.PlaneLemmas.{planes_moved}
use Rattle.extension.proofs.planes.planes_of.Goals as goal

pub returns : goal.returns
returns c =
    let planes = c.first_planes-planes.result.list.items in
    let moved = c.sort_unstable_by_key.new.self in
    let s : IsPermutation planes moved = subst (λ (planes : List Plane). IsPermutation planes c.sort_unstable_by_key.new.self)
    c.as_mut_slice-list.ensures.value c.sort_unstable_by_key.ensures.permutation in
    subst (λ (planes : List Plane). ArePlanes c.args.rep.now planes c.first_planes-planes.result.from)
    (sym (ap (λ n. take n (moved ++ drop (length moved) planes)) (sym (length_permutation planes moved s))
    ∙ take-append_seam moved (drop (length moved) planes)))
    (planes_moved c.args.rep.now planes moved c.first_planes-planes.result.from c.first_planes-planes.ensures s)
