-- A class of equivalent representations has at most one form.
use Rattle.std.proofs.Common.{◌≡◌, sym}
use Rattle.matroid_theory.specs.Rep.{Rep}
use Rattle.matroid_theory.specs.declared.Mode.{Mode}
use Rattle.matroid_theory.specs.Move.{AreEquivalent}
use Rattle.matroid_theory.specs.Order.{rep_cmp, IsForm}
use Rattle.matroid_laws.proofs.Levels.{rep_cmp-reversed, rep_cmp-equal}
use Rattle.matroid_laws.proofs.Equivalence.{equivalent-symmetric}
use Rattle.matrix_lemmas.proofs.Orderings.{neither}

pub one_form : (mode : Mode) (M N : Rep) → IsForm mode M → IsForm mode N → AreEquivalent mode M N → M ≡ N
one_form mode M N a b e =
    rep_cmp-equal M N (sym e.takes.same_shape)
    (neither (rep_cmp M N) (rep_cmp N M) (rep_cmp-reversed M N) (a.least N b.standard e) (b.least M a.standard (equivalent-symmetric mode M N e)))
