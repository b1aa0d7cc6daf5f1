use Rattle.std.proofs.Common.{sym, subst}
use Rattle.matroid_theory.specs.declared.Mode.TheVariants.{Linear}
use Rattle.matroid_theory.specs.Order.{IsForm}
use Rattle.matroid_laws.proofs.Equivalence.{equivalent-reflexive}
use Rattle.form_search.proofs.Finish.{found_form, some_form}
use Rattle.form_states.proofs.Shapes.{shaped, whole}
use Rattle.fast_form.proofs.form.least_of_standard.Goals as goal

pub unreachable-requires : goal.unreachable-requires
unreachable-requires c =
    some_form c.args.rep.now (whole c.args.rep.now c.laws.ensures c.requires.agrees) c.args.rep.now c.requires.standard
    (equivalent-reflexive Linear c.args.rep.now (shaped _ _ _ _ _ c.shape_of-shape.ensures.shape)) (λ m L r. c.in-None.ensures.covers m L r)

pub returns-clause-form : goal.returns-clause-form
returns-clause-form c =
    let (class, e) = c.with_numbers.ensures in
    let x = class.equivalent in
    subst (IsForm Linear) (sym e)
    (found_form c.args.rep.now (whole c.args.rep.now c.laws.ensures c.requires.agrees) c.in-Some.numbers c.in-Some.ensures.class c.in-Some.ensures.covers
    class.member x.takes.shaped class.standard x.takes.same_shape class.numbers_are).0
