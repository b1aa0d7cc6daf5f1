use Rattle.std.proofs.Common.{◌≢◌, inl, inr, ◌<◌, sym, subst, arith}
use Rattle.std.proofs.lemmas.Bool.{cases_eq, ltb-true}
use Rattle.form_states.proofs.above.is_above.Goals as goal

pub returns : goal.returns
returns c t v at_k differ =
    let less : c.args.low < c.least_with.result = ltb-true c.args.low c.least_with.result t in
    let bound = c.least_with.ensures v at_k (λ f l. elim (cases_eq c.first_difference.result c.args.k) [
      | inl e ↦ subst (λ i. v f i ≢ 0) (sym e) (at_k f l)
      | inr n ↦ (let (a, b) = c.first_difference.ensures.differ n in differ c.first_difference.result a c.first_difference.ensures.within b f l)
    ]) in omega (arith, less, bound)
