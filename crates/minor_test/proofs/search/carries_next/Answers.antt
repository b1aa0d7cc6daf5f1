use Rattle.std.proofs.Common.{below_more, sym, ◌∙◌, ap, bit_or, slice_index}
use Rattle.std.proofs.lemmas.Nat.{one_shl}
use Rattle.matroid_theory.specs.Tables.{has}
use Rattle.minor_test.proofs.Answers.{not_other}
use Rattle.minor_test.proofs.search.carries_next.Goals as goal

pub loop-place-preserved : goal.loop-place-preserved
loop-place-preserved c = below_more _ _ c.loop-place.invariant
    (sym c.contains.ensures ∙ not_other _ _ c.if-contains.false ∙ c.contains-in-loop-place.ensures
    ∙ ap (λ x. has c.args.whole.now.words (bit_or (slice_index c.args.sets.now c.loop-place.place) x)) (one_shl c.args.image 16 c.requires.image))
