use Rattle.std.proofs.lemmas.Bool.{iff_false}
use Rattle.base_iso.proofs.Kept.{alike_kept}
use Rattle.base_iso.proofs.counts.are_alike.Goals as goal

pub returns-clause-others : goal.returns-clause-others
returns-clause-others c e p u i =
    iff_false c.have_same_numbers.ensures e (alike_kept c.args.a.now c.args.b.now p u i c.laws.ensures c.laws-2.ensures)
