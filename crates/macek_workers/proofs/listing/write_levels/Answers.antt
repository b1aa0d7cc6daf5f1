use Rattle.std.proofs.Common.{Err, ◌≡◌, ◌∙◌, ◌+◌, ◌-◌, inl, inr, refl, ap, sym, subst, arith}
use Rattle.formats.specs.Run.{Gains}
use Rattle.level_driver.specs.Grown.{IsLevelOf, IsParentLevel}
use Rattle.macek_run.specs.Steps.{IsLess}
use Rattle.macek_run.proofs.Begun.{none_begun, first_begun, first_stopped, next_begun, next_stopped}
use Rattle.macek_workers.proofs.Closing.{none_closed, more_closed, closed_at, left_grown}
use Rattle.macek_workers.proofs.listing.write_levels.Goals as goal

pub returns-in_default-clause-err : goal.returns-in_default-clause-err
returns-in_default-clause-err g c =
    none_begun c.args.request.now (g.K.Sink.held c.args.sink.now) (g.K.Sink.held c.args.sink.now) (omega (arith, c.laws.ensures.limits.size))

pub returns-in-Err-clause-err : goal.returns-in-Err-clause-err
returns-in-Err-clause-err g c =
    first_stopped c.args.request.now (g.K.Sink.held c.args.sink.now) (g.K.Sink.held c.write_level.new.sink) (omega (arith, c.laws.ensures.limits.size))
    c.rank-rank.result c.rank-rank.ensures c.as_slice.result.now (c.as_slice.ensures.value ∙ c.head_text-head.ensures)
    c.in-Err.why (λ is. c.in-Err.ensures.failed (ap Err is)) (λ is. ap g.K.Sink.held (c.in-Err.ensures.no_memory (ap Err is)))

pub returns-in-Err-clause-no_fault : goal.returns-in-Err-clause-no_fault
returns-in-Err-clause-no_fault g c = λ is. ap g.K.Sink.faults (c.in-Err.ensures.no_memory (ap Err is))

pub loop-size-init : goal.loop-size-init
loop-size-init g c = record {
  begun = first_begun c.args.request.now (g.K.Sink.held c.args.sink.now) (g.K.Sink.held c.write_level.new.sink) (omega (arith, c.laws.ensures.limits.size))
      c.rank-rank.result c.rank-rank.ensures c.as_slice.result.now (c.as_slice.ensures.value ∙ c.head_text-head.ensures) c.in_default-write_level.ensures.ok;
  level = subst (λ n. IsLevelOf c.args.request.now n c.in-Ok.level.forms) (sym c.rank-rank.ensures) c.in-Ok.ensures.forms;
  kept = c.in_default-write_level.ensures.kept;
  closed = none_closed c.args.request.now c.rank-rank.result c.args.store.now (let e = c.rank-rank.ensures in omega arith);
  callers = inl refl;
  stripes = refl;
  width = λ wide. wide;
}

pub write_level-requires-in-loop-size-clause-forms :
    goal.write_level-requires-in-loop-size-clause-forms
write_level-requires-in-loop-size-clause-forms g c =
    c.in-Ok-grow.ensures.forms c.loop-size.size (record { at_least = omega arith; before = omega arith; level = c.loop-size.invariant.level })

pub returns-in-Err-write_level-clause-err : goal.returns-in-Err-write_level-clause-err
returns-in-Err-write_level-clause-err g c =
    let whole : c.loop-size.size + 1 - c.args.request.now.rank ≡ c.from-whole.result + 1 = omega arith in
    subst (λ n. Gains (g.K.Sink.held c.args.sink.now) (g.K.Sink.held c.write_level-in-loop-size.new.sink)
    (IsLess c.in-Err-write_level.why c.args.request.now n)) whole
    (next_stopped c.args.request.now c.loop-size.size (g.K.Sink.held c.args.sink.now) (g.K.Sink.held c.loop-size.sink) c.loop-size.invariant.begun (omega arith)
    (omega arith) (g.K.Sink.held c.write_level-in-loop-size.new.sink) c.in-Err-write_level.why (λ is. c.in-Err-write_level.ensures.failed (ap Err is))
    (λ is. ap g.K.Sink.held (c.in-Err-write_level.ensures.no_memory (ap Err is))))

pub returns-in-Err-write_level-clause-no_fault : goal.returns-in-Err-write_level-clause-no_fault
returns-in-Err-write_level-clause-no_fault g c =
    λ is. ap g.K.Sink.faults (c.in-Err-write_level.ensures.no_memory (ap Err is)) ∙ c.loop-size.invariant.kept

pub returns-in-Err-write_level-clause-leaves : goal.returns-in-Err-write_level-clause-leaves
returns-in-Err-write_level-clause-leaves g c =
    left_grown c.in-Err-write_level.why c.args.request.now (c.from-whole.result + 1)
    (c.loop-size.size + 1) c.args.store.now c.grow.new.store (omega arith) (omega arith)
    (more_closed c.args.request.now c.loop-size.size c.args.store.now c.grow.new.store (omega arith)
    (c.in-Ok-grow.ensures.holds c.loop-size.size (record { at_least = omega arith; before = omega arith; level = c.loop-size.invariant.level })))

pub loop-size-preserved : goal.loop-size-preserved
loop-size-preserved g c =
    let h : IsParentLevel c.args.request.now c.loop-size.size c.loop-size.level.forms =
    record { at_least = omega arith; before = omega arith; level = c.loop-size.invariant.level } in
    record {
      begun = next_begun c.args.request.now c.loop-size.size (g.K.Sink.held c.args.sink.now)
          (g.K.Sink.held c.loop-size.sink) c.loop-size.invariant.begun (omega arith)
          (omega arith) (g.K.Sink.held c.write_level-in-loop-size.new.sink) c.in_default-write_level-2.ensures.ok;
      level = c.in-Ok-grow.ensures.forms c.loop-size.size h;
      kept = c.in_default-write_level-2.ensures.kept ∙ c.loop-size.invariant.kept;
      closed = more_closed c.args.request.now c.loop-size.size c.args.store.now c.grow.new.store (omega arith) (c.in-Ok-grow.ensures.holds c.loop-size.size h);
      callers = inr c.in-Ok-grow.ensures.callers;
      stripes = c.grow.ensures.stripes ∙ c.loop-size.invariant.stripes;
      width = λ wide. c.in-Ok-grow.ensures.width;
    }

pub returns-clause-closed : goal.returns-clause-closed
returns-clause-closed g c =
    closed_at c.args.request.now c.loop-size.size c.args.request.now.size c.args.store.now c.loop-size.store (omega arith) c.loop-size.invariant.closed
