use Rattle.std.proofs.Common.{◌+◌, ◌-◌, ◌/◌, sym, ◌∙◌, arith}
use Rattle.std.proofs.lemmas.Map.Lookups.{exact_bytes}
use Rattle.level_driver.proofs.parent.leader_of.Goals as goal

pub returns-in-Equal : goal.returns-in-Equal
returns-in-Equal c =
    let t = c.loop-low-test.true in
    let h = c.loop-low.invariant in (
      (c.loop-low.low + (c.loop-low.high - c.loop-low.low) / 2, omega arith, sym c.index-leaders-middle.is),
      sym c.as_slice.ensures.value ∙ exact_bytes c.as_slice.result.now c.as_slice-in-loop-low.result.now (sym c.in-Equal.ensures)
          ∙ c.as_slice-in-loop-low.ensures.value,
    )
