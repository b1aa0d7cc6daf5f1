use Rattle.std.proofs.Common.{◌≡◌, zero, sym, ◌∙◌, ap, arith}
use Rattle.matroid_theory.specs.Field.{times}
use Rattle.matrix_lemmas.proofs.Sums.{times_zero}
use Rattle.form_states.proofs.codes.inverse_in.Goals as goal

pub returns-else-a-eq0-clause-nonzero : goal.returns-else-a-eq0-clause-nonzero
returns-else-a-eq0-clause-nonzero c e =
    let z : zero ≡ 1 = sym (times_zero c.args.field c.laws.ensures c.args.a) ∙ ap (times c.args.field c.args.a) (sym e) ∙ c.inv.ensures.one in absurd
    (omega arith)
