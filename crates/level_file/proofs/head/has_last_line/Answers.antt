use Rattle.std.proofs.Common.{◌++◌}
use Rattle.std.specs.Prelude.{codes}
use Rattle.std.proofs.lemmas.Bool.Decides.{Decides-eqb}
use Rattle.std.proofs.lemmas.Slice.Eq.{ends_is}
use Rattle.level_file.proofs.head.has_last_line.Goals as goal

pub returns-then-head-ge-FIRST_LINE-clause-others :
    goal.returns-then-head-ge-FIRST_LINE-clause-others
returns-then-head-ge-FIRST_LINE-clause-others c = λ front is.
    let ends = ends_is Decides-eqb c.args.head.now (codes "print forms\n") c.ends_with.result c.ends_with.ensures.value in
    ends.1 (codes "macek listing 1\n" ++ front) is
