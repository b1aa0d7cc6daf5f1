use Rattle.std.proofs.Common.{◌+◌, ◌*◌}
use Rattle.form_states.specs.States.{marked, layer_of, rest_of}
use Rattle.fast_form.proofs.Covering.{AreTried, AreBranched}
use Rattle.fast_form.proofs.search.+search.Given as goal

abbrev pub decreases-rows : goal.decreases-rows
decreases-rows l = 100 * l.k + 99

abbrev pub decreases-place : goal.decreases-place
decreases-place l = 100 * l.k + 4 * marked l.state.now.open + 3

abbrev pub decreases-place_each : goal.decreases-place_each
decreases-place_each l = 100 * l.k + 4 * marked l.state.now.open + 2

abbrev pub decreases-place_one : goal.decreases-place_one
decreases-place_one l = 100 * l.k + 4 * marked l.state.now.open + 1

abbrev pub decreases-next_row : goal.decreases-next_row
decreases-next_row l = 100 * l.k

abbrev pub invariant-rows-loop-b : goal.invariant-rows-loop-b
invariant-rows-loop-b l = AreTried l.rep l.k l.frame.groups l.columns l.frame.there l.settled l.b l.initial.best l.best l.better l.abreast

abbrev pub invariant-place_each-loop-e : goal.invariant-place_each-loop-e
invariant-place_each-loop-e l = AreBranched l.rep l.k l.state.groups (layer_of l.rep l.layer l.state.scalars l.state.open)
    (rest_of l.rep l.k l.columns l.row.p l.row.minus l.state.scalars l.row.rest) l.settled l.e l.longer l.initial.best l.best l.better l.abreast
