use Rattle.std.proofs.Common.{sym, subst}
use Rattle.matroid_theory.specs.declared.Mode.{Mode}
use Rattle.matroid_theory.specs.Order.{IsForm}
use Rattle.matroid_laws.proofs.Semilinear.{least_semilinear}
use Rattle.fast_form.proofs.modes.least_form_fast.Goals as goal

pub returns-in-Semilinear-clause-form : goal.returns-in-Semilinear-clause-form
returns-in-Semilinear-clause-form c =
    let h = c.laws.ensures in
    subst (λ (mode : Mode). IsForm mode c.least_from.result) (sym c.in-Semilinear.is)
    (least_semilinear c.args.rep.now c.least_from.result (record { some = h.fields.some; shaped = h.shaped; agrees = c.requires }) c.least_from.ensures).0
