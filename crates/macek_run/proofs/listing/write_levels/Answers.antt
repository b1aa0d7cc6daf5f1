use Rattle.std.proofs.Common.{Err, ◌≡◌, ◌∙◌, ◌+◌, ◌-◌, ap, sym, subst, arith}
use Rattle.formats.specs.Run.{Gains}
use Rattle.level_driver.specs.Grown.{IsLevelOf, AreTriesOf, IsParentLevel, IsGrown, AreGrown}
use Rattle.macek_run.specs.Steps.{IsLess}
use Rattle.macek_run.proofs.Begun.{first_begun, first_stopped, next_begun, next_stopped, all_begun}
use Rattle.macek_run.proofs.listing.write_levels.Goals as goal

pub write_level-requires-clause-forms : goal.write_level-requires-clause-forms
write_level-requires-clause-forms g c =
    let q = c.args.request.now in
    subst (λ n. IsLevelOf q n c.args.first.forms) (sym c.rank-rank.ensures) c.requires.first.forms

pub write_level-requires-clause-tried : goal.write_level-requires-clause-tried
write_level-requires-clause-tried g c =
    let q = c.args.request.now in
    subst (λ n. AreTriesOf q n c.args.first.tried) (sym c.rank-rank.ensures) c.requires.first.tried

pub returns-in-Err-clause-err : goal.returns-in-Err-clause-err
returns-in-Err-clause-err g c =
    first_stopped c.args.request.now (g.K.Sink.held c.args.sink.now) (g.K.Sink.held c.write_level.new.sink)
    (omega (arith, c.laws.ensures.limits.size)) c.rank-rank.result c.rank-rank.ensures c.as_slice.result.now
    (c.as_slice.ensures.value ∙ c.head_text-head.ensures)
    c.in-Err.why (λ is. c.in-Err.ensures.failed (ap Err is)) (λ is. ap g.K.Sink.held (c.in-Err.ensures.no_memory (ap Err is)))

pub returns-in-Err-clause-no_fault : goal.returns-in-Err-clause-no_fault
returns-in-Err-clause-no_fault g c = λ is. ap g.K.Sink.faults (c.in-Err.ensures.no_memory (ap Err is))

pub loop-size-init : goal.loop-size-init
loop-size-init g c =
    let q = c.args.request.now in
    record {
      begun = first_begun q (g.K.Sink.held c.args.sink.now) (g.K.Sink.held c.write_level.new.sink)
          (omega (arith, c.laws.ensures.limits.size)) c.rank-rank.result c.rank-rank.ensures c.as_slice.result.now
          (c.as_slice.ensures.value ∙ c.head_text-head.ensures) c.in_default.ensures.ok;
      level = subst (λ n. IsGrown q n c.args.first) (sym c.rank-rank.ensures) c.requires.first;
      later = subst (λ n. AreGrown q (n + 1) c.args.later) (sym c.rank-rank.ensures) c.requires.later;
      kept = c.in_default.ensures.kept;
    }

pub level_after-requires : goal.level_after-requires
level_after-requires g c = (
  c.loop-size.size,
  record { at_least = omega arith; before = omega arith; level = (let l = c.loop-size.invariant.level in l.forms) },
  c.loop-size.invariant.later,
)

pub returns-in-Err-write_level-clause-err : goal.returns-in-Err-write_level-clause-err
returns-in-Err-write_level-clause-err g c =
    let whole : c.loop-size.size + 1 - c.args.request.now.rank ≡ c.from-whole.result + 1 = omega arith in
    subst (λ n. Gains (g.K.Sink.held c.args.sink.now) (g.K.Sink.held c.write_level-in-loop-size.new.sink)
    (IsLess c.in-Err-write_level.why c.args.request.now n)) whole
    (next_stopped c.args.request.now c.loop-size.size (g.K.Sink.held c.args.sink.now)
    (g.K.Sink.held c.loop-size.sink) c.loop-size.invariant.begun (omega arith) (omega arith)
    (g.K.Sink.held c.write_level-in-loop-size.new.sink) c.in-Err-write_level.why
    (λ is. c.in-Err-write_level.ensures.failed (ap Err is)) (λ is. ap g.K.Sink.held (c.in-Err-write_level.ensures.no_memory (ap Err is))))

pub returns-in-Err-write_level-clause-no_fault : goal.returns-in-Err-write_level-clause-no_fault
returns-in-Err-write_level-clause-no_fault g c =
    λ is. ap g.K.Sink.faults (c.in-Err-write_level.ensures.no_memory (ap Err is)) ∙ c.loop-size.invariant.kept

pub loop-size-preserved : goal.loop-size-preserved
loop-size-preserved g c =
    let q = c.args.request.now in
    let size = c.loop-size.size in
    let last = c.loop-size.invariant.level in
    let parent : IsParentLevel q size c.loop-size.level.forms = record { at_least = omega arith; before = omega arith; level = last.forms } in
    record {
      begun = next_begun q size (g.K.Sink.held c.args.sink.now)
          (g.K.Sink.held c.loop-size.sink) c.loop-size.invariant.begun (omega arith) (omega arith)
          (g.K.Sink.held c.write_level-in-loop-size.new.sink) c.in_default-write_level.ensures.ok;
      level = c.in-Ok.ensures.level size parent c.loop-size.invariant.later;
      later = c.in-Ok.ensures.later (size + 1) c.loop-size.invariant.later;
      kept = c.in_default-write_level.ensures.kept ∙ c.loop-size.invariant.kept;
    }

pub returns-clause-ok : goal.returns-clause-ok
returns-clause-ok g c = all_begun c.args.request.now c.loop-size.size (g.K.Sink.held c.args.sink.now)
    (g.K.Sink.held c.loop-size.sink) c.loop-size.invariant.begun (omega arith) (omega arith)
