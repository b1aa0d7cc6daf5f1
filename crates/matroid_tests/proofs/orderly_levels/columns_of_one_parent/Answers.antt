use Rattle.std.proofs.Common.{arith}
use Rattle.matroid_tests.proofs.orderly_levels.columns_of_one_parent.Goals as goal

pub answers_of_first-requires : goal.answers_of_first-requires
answers_of_first-requires g c = (
  c.in_ok-request.request.rank,
  record {
    at_least = omega arith;
    before = (let r = c.rank-rank.ensures in let s = c.size-size.ensures in omega arith);
    level = c.in_ok-level.ensures.forms;
  },
)
