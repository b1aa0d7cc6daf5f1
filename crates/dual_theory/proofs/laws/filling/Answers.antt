use Rattle.std.proofs.Common.{◌≡◌, suc, ◌+◌, subst, arith}
use Rattle.dual_theory.specs.Represented.{Completes, IsLeastCompletion}
use Rattle.dual_theory.proofs.Filling.{least_from_start, none_from_start, next_column, last_column, whole_least, least_of_entry}
use Rattle.dual_theory.proofs.laws.filling.Goals as goal

pub returns-clause-start : goal.returns-clause-start
returns-clause-start c = least_from_start

pub returns-clause-none : goal.returns-clause-none
returns-clause-none c = none_from_start

pub returns-clause-next : goal.returns-clause-next
returns-clause-next c q N M over j L d = let e : suc j ≡ j + 1 = omega arith in subst (λ k. Completes q N M 0 k L) e (next_column q N M over j L d)

pub returns-clause-last : goal.returns-clause-last
returns-clause-last c q N M over j L d = let e : j + 1 ≡ suc j = omega arith in last_column q N M over j L (subst (λ k. Completes q N M 0 k L) e d)

pub returns-clause-whole : goal.returns-clause-whole
returns-clause-whole c = whole_least

pub returns-clause-entry : goal.returns-clause-entry
returns-clause-entry c q N M K L i j over other l m same h none =
    let e : i + 1 ≡ suc i = omega arith in least_of_entry q N M over K other i j l m same L (subst (λ k. IsLeastCompletion q N K k j L) e h) none
