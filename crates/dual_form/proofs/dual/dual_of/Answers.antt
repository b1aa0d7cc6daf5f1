use Rattle.dual_theory.proofs.OrthogonalReps.{orthogonal_agrees}
use Rattle.dual_theory.proofs.StandardDual.{standard_dual_orthogonal, standard_dual_has_bases}
use Rattle.dual_form.proofs.dual.dual_of.Goals as goal

pub least_form_fast-requires : goal.least_form_fast-requires
least_form_fast-requires c =
    let M = c.args.rep.now in
    let N = c.standard_dual-dual.result in
    let s = c.laws.ensures.shaped in
    let n = c.laws-2.ensures.shaped in
    let d = c.standard_dual-dual.ensures in
    orthogonal_agrees M N s n (standard_dual_orthogonal M N s c.requires.standard d) c.requires.agrees
    (standard_dual_has_bases M N s c.requires.standard d)

pub returns : goal.returns
returns c = record {
  form = c.least_form_fast.ensures.form;
  orthogonal = c.standard_dual-dual.result;
  is_orthogonal = standard_dual_orthogonal c.args.rep.now c.standard_dual-dual.result c.laws.ensures.shaped c.requires.standard c.standard_dual-dual.ensures;
  equivalent = c.least_form_fast.ensures.equivalent;
}
