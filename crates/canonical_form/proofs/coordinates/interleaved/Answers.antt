use Rattle.std.proofs.Common.{◌≡◌, length, slice_index}
use Rattle.elimination.specs.Columns.{column}
use Rattle.canonical_form.proofs.Places.{by_place}
use Rattle.canonical_form.proofs.coordinates.interleaved.Goals as goal

pub returns-clause-codes : goal.returns-clause-codes
returns-clause-codes c =
    by_place (λ f i k. slice_index c.loop-place.codes.items k ≡ slice_index (column c.args.columns.now f) i) c.args.rank
    (length c.args.columns.now) c.loop-place.place c.loop-place-test.false c.loop-place.invariant.codes
