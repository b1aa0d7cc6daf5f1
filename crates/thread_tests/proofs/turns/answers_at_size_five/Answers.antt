use Rattle.std.proofs.Common.{◌+◌, arith}
use Rattle.thread_tests.proofs.turns.answers_at_size_five.Goals as goal

pub answers_in_turn-requires-after_bounds : goal.answers_in_turn-requires-after_bounds
answers_in_turn-requires-after_bounds g c κs within = (
  c.in_ok-request.request.rank + 1,
  record {
    at_least = omega arith;
    before = (let r = c.rank.ensures in let s = c.size.ensures in let l = c.if-rank-size.true in omega arith);
    level = c.in_ok-level.ensures.forms c.in_ok-request.request.rank
        record {
          at_least = omega arith;
          before = (let r = c.rank.ensures in let s = c.size.ensures in let l = c.if-rank-size.true in omega arith);
          level = c.in_ok-first.ensures.forms;
        };
  },
)
