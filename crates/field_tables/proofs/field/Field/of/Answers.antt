use Rattle.std.proofs.Common.{refl, eqb-true}
use Rattle.matroid_theory.specs.Field.{IsOrder}
use Rattle.field_tables.proofs.field.Field.of.Goals as goal

-- the place in the list of orders at which it was found
is_order : (c : goal.Then-contains) → IsOrder c.args.q
is_order c = let found = c.if-contains.ensures.cases in record { listed = (found.0, found.1, eqb-true _ _ (found.2 c.args.q)) }

pub invariant_of-result : goal.invariant_of-result
invariant_of-result c = is_order c

pub returns-then-contains-clause-found : goal.returns-then-contains-clause-found
returns-then-contains-clause-found c = (λ _. is_order c, λ _. refl)
