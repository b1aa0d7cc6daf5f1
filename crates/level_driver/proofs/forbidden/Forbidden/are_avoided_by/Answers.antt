use Rattle.std.proofs.Common.{◌↔◌, IsTrue, List, refl, subst}
use Rattle.matroid_theory.specs.Rep.{Rep}
use Rattle.matroid_theory.specs.Minor.{Matroid}
use Rattle.level_driver.specs.Forbidden.{Avoids}
use Rattle.level_driver.proofs.forbidden.Forbidden.are_avoided_by.Goals as goal

pub returns-then-not-some_has_room : goal.returns-then-not-some_has_room
returns-then-not-some_has_room c = (
  λ _. subst (λ (Ns : List Matroid). Avoids Ns c.args.rep.now) c.as_slice-sought.ensures (c.some_has_room.ensures c.if-not-some_has_room.true),
  λ _. refl,
)

pub returns : goal.returns
returns c =
    subst (λ (Ns : List Matroid). IsTrue c.none_found.result ↔ Avoids Ns c.args.rep.now) c.as_slice-sought.ensures
    (subst (λ (M : Rep). IsTrue c.none_found.result ↔ Avoids c.as_slice-sought.result.now M) c.of.ensures c.none_found.ensures)
