use Rattle.std.proofs.Common.{◌+◌, ◌*◌}
use Rattle.symmetry.proofs.search.+search.Given as goal

-- the rows that are still to be chosen
abbrev pub decreases-tries_row : goal.decreases-tries_row
decreases-tries_row l = 3 * l.row + 2

abbrev pub decreases-tries_image : goal.decreases-tries_image
decreases-tries_image l = 3 * l.row + 1

abbrev pub decreases-completes : goal.decreases-completes
decreases-completes l = 3 * l.row
