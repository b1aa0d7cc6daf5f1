use Rattle.std.proofs.Common.{take}
use Rattle.level_driver.specs.Listed.{AreMatroidsOf}
use Rattle.level_driver.proofs.distinct.base_lists.Given as goal

-- the matroids of the forms so far
abbrev pub invariant-loop-form : goal.invariant-loop-form
invariant-loop-form l = AreMatroidsOf (take l.form-index l.forms) l.lists.items
