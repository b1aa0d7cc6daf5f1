use Rattle.std.proofs.Common.{◌+◌, ◌-◌, length, sym, subst, arith}
use Rattle.resume_run.specs.Started.{IsStartTo}
use Rattle.resume_run.proofs.Starts.{few_levels, enough_for, less_than, start_fault_for}
use Rattle.resume_run.proofs.start.read_start.Goals as goal

pub returns-in-Err-clause-err : goal.returns-in-Err-clause-err
returns-in-Err-clause-err c = start_fault_for c.args.size c.args.text.now c.in-Err.fault c.in-Err.ensures.err

pub overflow_cast-last : goal.overflow_cast-last
overflow_cast-last c = let few = few_levels _ _ _ c.in-Ok.ensures.ok c.laws.ensures.limits in omega arith

pub overflow_add-last : goal.overflow_add-last
overflow_add-last c = let few = few_levels _ _ _ c.in-Ok.ensures.ok c.laws.ensures.limits in omega arith

pub returns-then-size-last-clause-err : goal.returns-then-size-last-clause-err
returns-then-size-last-clause-err c =
    let few = few_levels _ _ _ c.in-Ok.ensures.ok c.laws.ensures.limits in
    less_than _ _ _ c.in-Ok.ensures.ok c.args.size _ (omega arith) (omega arith)

pub with_size-requires : goal.with_size-requires
with_size-requires c = let few = few_levels _ _ _ c.in-Ok.ensures.ok c.laws.ensures.limits in (omega arith, omega arith)

pub returns-clause-ok : goal.returns-clause-ok
returns-clause-ok c =
    let few = few_levels _ _ _ c.in-Ok.ensures.ok c.laws.ensures.limits in
    subst (λ r. IsStartTo c.args.size c.args.text.now r c.in-Ok.start.levels) (sym c.with_size.ensures)
    (enough_for _ _ _ c.in-Ok.ensures.ok c.args.size (c.in-Ok.start.request.rank + length c.in-Ok.start.levels - 1) (omega arith) (omega arith))
