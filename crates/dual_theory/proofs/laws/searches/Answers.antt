use Rattle.std.proofs.Common.{suc, ◌+◌, subst, arith, ◌≡◌}
use Rattle.dual_theory.specs.Represented.{Completes}
use Rattle.dual_theory.proofs.Searches.{exact_by_entries, none_begun}
use Rattle.dual_theory.proofs.Entries.{smaller_entry, made_one}
use Rattle.dual_theory.proofs.laws.searches.Goals as goal

pub returns-clause-exact : goal.returns-clause-exact
returns-clause-exact c = exact_by_entries

pub returns-clause-given_up : goal.returns-clause-given_up
returns-clause-given_up c q N M L i j pos over past below other d =
    let e : i + 1 ≡ suc i = omega arith in none_begun q N M L i j pos over past below other (subst (λ k. Completes q N M k j L) e d)

pub returns-clause-smaller : goal.returns-clause-smaller
returns-clause-smaller c = smaller_entry

pub returns-clause-made_one : goal.returns-clause-made_one
returns-clause-made_one c = made_one
