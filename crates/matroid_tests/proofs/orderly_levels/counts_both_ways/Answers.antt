use Rattle.std.proofs.Common.{◌≤◌, ℕ, sym, subst, arith}
use Rattle.level_driver.specs.Grown.{IsLevelOf}
use Rattle.matroid_tests.proofs.orderly_levels.counts_both_ways.Goals as goal

pub loop-init : goal.loop-init
loop-init g c = record {
  at_least = (let e = c.rank-counter.ensures in omega arith);
  level = subst (λ (n : ℕ). IsLevelOf c.in_ok-request.request n c.in_ok-level.level.forms) (sym c.rank-counter.ensures)
      c.in_ok-level.ensures.forms;
}

pub grow_alone-requires : goal.grow_alone-requires
grow_alone-requires g c = (
  c.loop.counter,
  record {
    at_least = c.loop.invariant.at_least;
    before = (let e = c.size-end.ensures in let l = c.loop-test.true in omega arith);
    level = c.loop.invariant.level;
  },
)

pub next_level-requires : goal.next_level-requires
next_level-requires g c = (
  c.loop.counter,
  record {
    at_least = c.loop.invariant.at_least;
    before = (let e = c.size-end.ensures in let l = c.loop-test.true in omega arith);
    level = c.loop.invariant.level;
  },
)

pub loop-preserved : goal.loop-preserved
loop-preserved g c = record {
  at_least = (let a : c.in_ok-request.request.rank ≤ c.loop.counter = c.loop.invariant.at_least in omega arith);
  level = c.in_ok-level-2.ensures.forms c.loop.counter
      record {
        at_least = c.loop.invariant.at_least;
        before = (let e = c.size-end.ensures in let l = c.loop-test.true in omega arith);
        level = c.loop.invariant.level;
      };
}
