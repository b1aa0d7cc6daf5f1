use Rattle.std.proofs.Common.{◌-◌, ◌∙◌}
use Rattle.matroid_theory.specs.Matroid.{members}
use Rattle.column_sets.proofs.Complements.{members_complement}
use Rattle.column_sets.proofs.sets.complement.Goals as goal

pub returns-clause-others : goal.returns-clause-others
returns-clause-others c = λ j l.
    (λ u. members (c.set_count.ensures.value u - 1 - c.from.ensures u) j) ∙ members_complement c.args.n c.requires.few c.args.set j c.requires.set l
