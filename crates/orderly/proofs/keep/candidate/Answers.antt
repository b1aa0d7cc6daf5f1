use Rattle.std.proofs.Common.{sym, subst}
use Rattle.matroid_theory.specs.Matroid.{Agrees}
use Rattle.level_driver.specs.Forbidden.{Avoids}
use Rattle.orderly.proofs.keep.candidate.Goals as goal

pub are_avoided_by-requires : goal.are_avoided_by-requires
are_avoided_by-requires c = subst Agrees (sym c.extended-child.ensures) c.requires.column.agrees

pub returns-then-are_avoided_by : goal.returns-then-are_avoided_by
returns-then-are_avoided_by c = (c.extended-child.ensures, c.are_avoided_by.ensures.0 c.if-are_avoided_by.true)

pub returns-else-are_avoided_by : goal.returns-else-are_avoided_by
returns-else-are_avoided_by c avoids =
    let yes = c.are_avoided_by.ensures.1 (subst (Avoids c.args.forbidden.now) (sym c.extended-child.ensures) avoids) in
    let no = c.if-are_avoided_by.false in
    cc (yes, no)
