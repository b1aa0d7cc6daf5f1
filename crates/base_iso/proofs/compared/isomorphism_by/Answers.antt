use Rattle.std.proofs.lemmas.Bool.{iff_false}
use Rattle.base_iso.proofs.Cuts.{none_carried}
use Rattle.base_iso.proofs.Kept.{degrees_kept}
use Rattle.base_iso.proofs.compared.isomorphism_by.Goals as goal

pub try_labels-requires-clause-bases : goal.try_labels-requires-clause-bases
try_labels-requires-clause-bases c = none_carried c.args.a.now c.args.b.now c.laws.ensures c.new.result.items c.new.ensures

pub returns-then-not-are_same-clause-none : goal.returns-then-not-are_same-clause-none
returns-then-not-are_same-clause-none c _ p u i =
    iff_false c.are_same.ensures c.if-not-are_same.true
    (degrees_kept c.args.a.now c.args.b.now p u i c.laws.ensures c.laws-2.ensures c.args.of_a.now.degrees.items
    c.args.of_b.now.degrees.items c.requires.degrees_of_a c.requires.degrees_of_b)
