use Rattle.std.proofs.Common.{◌≤◌, ℕ, sym, ◌∙◌, subst, arith}
use Rattle.level_driver.specs.Grown.{IsLevelOf}
use Rattle.thread_tests.proofs.growth.counts.Goals as goal

pub loop-init : goal.loop-init
loop-init g c = record {
  at_least = (let e = c.rank-counter.ensures in omega arith);
  level = subst (λ (n : ℕ). IsLevelOf c.in_ok-request.request n c.in_ok-level.level.forms) (sym c.rank-counter.ensures) c.in_ok-level.ensures.forms;
  stripes = c.in_ok-store.ensures.0;
}

pub grow-requires-clause-parents : goal.grow-requires-clause-parents
grow-requires-clause-parents g c κs within = (
  c.loop.counter,
  record {
    at_least = c.loop.invariant.at_least;
    before = (let e = c.size-end.ensures in let l = c.loop-test.true in omega arith);
    level = c.loop.invariant.level;
  },
)

pub loop-preserved : goal.loop-preserved
loop-preserved g c = record {
  at_least = (let a : c.in_ok-request.request.rank ≤ c.loop.counter = c.loop.invariant.at_least in omega arith);
  level = c.in_ok-level-2.ensures.forms c.loop.counter
      record {
        at_least = c.loop.invariant.at_least;
        before = (let e = c.size-end.ensures in let l = c.loop-test.true in omega arith);
        level = c.loop.invariant.level;
      };
  stripes = c.grow.ensures.stripes ∙ c.loop.invariant.stripes;
}

pub last_of-requires : goal.last_of-requires
last_of-requires g c = c.in_ok-level-2.ensures.width ∙ (c.grow.ensures.stripes ∙ c.loop.invariant.stripes)
