use Rattle.std.proofs.Common.{◌≡◌, ℕ, ◌+◌, ◌<◌, ◌≤◌, ◌^◌, List, ◌++◌, map, length, Option, IsSome, sym, ◌∙◌, ap, subst, arith}
use Rattle.std.specs.List.{All, AllByRecursion, AllZip, concat, sum_by}
use Rattle.matroid_theory.specs.Rep.{Rep}
use Rattle.formats.specs.Request.{Request}
use Rattle.class_store.specs.Seen.{AreItsPasses, AreOfCallersBelow, IsClosedBy, PassSide, calls_with, fresh_passes}
use Rattle.steal_pool.specs.declared.shift.Shift.{Shift}
use Rattle.steal_pool.specs.Pool.{AllEnded, AreNew, IsPool, IsProper, IsWhole, lists_taken, pool_parents}
use Rattle.steal_pool.specs.Taken.{taken_lists, taken_parents}
use Rattle.workers.specs.declared.worker.Worker.{Worker}
use Rattle.workers.specs.Seats.{IsWorked}
use Rattle.workers.proofs.Ended.{all_answered, all_ended, all_fresh, all_seated, answer_of, lists_are, pass_of, passes_still, same_parents, shift_of, shifts_still, sum_fits, sum_map, their_passes, worked_zip}
use Rattle.workers.proofs.Held.{count_tries, has_tries, holds_tries}
use Rattle.workers.proofs.Whole.{HaveDone, all_done, all_taken, answered, whole_done}
use Rattle.workers.proofs.growth.closed_level.Goals as goal
use Rattle.class_store.proofs.Passes.{fresh_count}
use Rattle.class_store.proofs.Together.{closed_stripes}

pub seat-requires : goal.seat-requires
seat-requires g c =
    let passes : length c.in_ok-level.new_passes.items ≡ c.args.workers = ap (λ (l : List PassSide). length l) c.in_ok-level.ensures.passes
    ∙ fresh_count c.in_ok-level.level.level c.args.workers in
    let shifts : length c.in_ok-new_shifts.new_shifts.items ≡ c.args.workers = c.in_ok-new_shifts.ensures.count in
    let a = c.in_ok-level.new_passes.ok.0 in
    let b = c.in_ok-new_shifts.new_shifts.ok.0 in
    omega arith

pub run-requires-clause-seated : goal.run-requires-clause-seated
run-requires-clause-seated g c κs within =
    let parents : List Rep = c.args.parents.now in
    let before : List Worker = c.in_ok-seated.seated.items in
    let new : AreNew c.in_ok-level.level.passes (length parents) c.in_ok-new_shifts.new_shifts.items =
    subst (λ (n : ℕ). AreNew n (length parents) c.in_ok-new_shifts.new_shifts.items) (sym c.in_ok-level.ensures.level.1)
    (subst (λ (p : ℕ). AreNew c.args.workers p c.in_ok-new_shifts.new_shifts.items) c.len.ensures c.in_ok-new_shifts.ensures.new) in
    let passes_are : map pass_of before ≡ fresh_passes c.in_ok-level.level.level c.in_ok-level.level.passes =
    c.in_ok-seated.ensures.passes ∙ (c.in_ok-level.ensures.passes ∙ ap (fresh_passes c.in_ok-level.level.level) (sym c.in_ok-level.ensures.level.1)) in
    all_seated c.in_ok-level.level (length parents) before c.in_ok-new_shifts.new_shifts.items new passes_are c.in_ok-seated.ensures.shifts

pub finish-taken-requires : goal.finish-taken-requires
finish-taken-requires g c =
    let q : Request = c.args.request.now in
    let parents : List Rep = c.args.parents.now in
    let before : List Worker = c.in_ok-seated.seated.items in
    let after : List Worker = c.run.new.workers.items in
    let zip : AllZip (IsWorked q parents) before after = worked_zip q parents before after c.run.ensures in
    let now_shifts : c.unseat-answers.new.shifts.items ≡ map shift_of after =
    c.unseat-answers.ensures.shifts ∙ ap (λ (l : List Shift). l ++ map shift_of after) c.in_ok-shifts.ensures.items in
    subst (λ (l : List Shift). IsPool l) (sym now_shifts)
    (shifts_still q parents before after zip (subst (λ (l : List Shift). IsPool l) (sym c.in_ok-seated.ensures.shifts) c.in_ok-new_shifts.ensures.pool))

pub total_of-requires : goal.total_of-requires
total_of-requires g c =
    let q : Request = c.args.request.now in
    let parents : List Rep = c.args.parents.now in
    let before : List Worker = c.in_ok-seated.seated.items in
    let after : List Worker = c.run.new.workers.items in
    let zip : AllZip (IsWorked q parents) before after = worked_zip q parents before after c.run.ensures in
    let now_shifts : c.unseat-answers.new.shifts.items ≡ map shift_of after =
    c.unseat-answers.ensures.shifts ∙ ap (λ (l : List Shift). l ++ map shift_of after) c.in_ok-shifts.ensures.items in
    let lists : concat (taken_lists c.finish-taken.result) ≡ all_taken after =
    ap concat (c.finish-taken.ensures.lists ∙ (ap (λ (l : List Shift). lists_taken l) now_shifts ∙ lists_are after)) in
    let counts : taken_parents c.finish-taken.result ≡ length parents =
    c.finish-taken.ensures.parents ∙ (ap (λ (l : List Shift). pool_parents l) now_shifts ∙ (same_parents q parents before after zip
    ∙ (ap (λ (l : List Shift). pool_parents l) c.in_ok-seated.ensures.shifts ∙ (c.in_ok-new_shifts.ensures.parents ∙ c.len.ensures)))) in
    let proper : IsProper (length parents) (all_taken after) =
    subst (λ (p : ℕ). IsProper p (all_taken after)) counts (subst (IsProper (taken_parents c.finish-taken.result)) lists c.finish-taken.ensures.proper) in
    let answers : c.as_slice.result.now ≡ map answer_of after = c.as_slice.ensures.value ∙ c.unseat-answers.ensures.answers in
    let few : length parents < 2 ^ 64 = (let t = c.len.type_inv in let e = c.len.ensures in omega arith) in
    subst (λ (l : List (Option ℕ)). sum_by answered l < 2 ^ 128) (sym answers) (sum_fits q parents before after zip proper few)

pub close-requires-after_bounds : goal.close-requires-after_bounds
close-requires-after_bounds g c κs within =
    let q : Request = c.args.request.now in
    let parents : List Rep = c.args.parents.now in
    let before : List Worker = c.in_ok-seated.seated.items in
    let after : List Worker = c.run.new.workers.items in
    let zip : AllZip (IsWorked q parents) before after = worked_zip q parents before after c.run.ensures in
    let new : AreNew c.in_ok-level.level.passes (length parents) c.in_ok-new_shifts.new_shifts.items =
    subst (λ (n : ℕ). AreNew n (length parents) c.in_ok-new_shifts.new_shifts.items) (sym c.in_ok-level.ensures.level.1)
    (subst (λ (p : ℕ). AreNew c.args.workers p c.in_ok-new_shifts.new_shifts.items) c.len.ensures c.in_ok-new_shifts.ensures.new) in
    let passes_are : map pass_of before ≡ fresh_passes c.in_ok-level.level.level c.in_ok-level.level.passes =
    c.in_ok-seated.ensures.passes ∙ (c.in_ok-level.ensures.passes ∙ ap (fresh_passes c.in_ok-level.level.level) (sym c.in_ok-level.ensures.level.1)) in
    let now_passes : c.unseat-answers.new.passes.items ≡ map pass_of after =
    c.unseat-answers.ensures.passes ∙ ap (λ (l : List PassSide). l ++ map pass_of after) c.in_ok-passes.ensures.items in
    subst (AreItsPasses c.in_ok-level.level) (sym now_passes)
    (passes_still q parents c.in_ok-level.level before after zip
    (their_passes c.in_ok-level.level (length parents) before c.in_ok-new_shifts.new_shifts.items new passes_are c.in_ok-seated.ensures.shifts))

pub returns-clause-holds : goal.returns-clause-holds
returns-clause-holds g c n h family grows =
    let q : Request = c.args.request.now in
    let parents : List Rep = c.args.parents.now in
    let before : List Worker = c.in_ok-seated.seated.items in
    let after : List Worker = c.run.new.workers.items in
    let zip : AllZip (IsWorked q parents) before after = worked_zip q parents before after c.run.ensures in
    let new : AreNew c.in_ok-level.level.passes (length parents) c.in_ok-new_shifts.new_shifts.items =
    subst (λ (n : ℕ). AreNew n (length parents) c.in_ok-new_shifts.new_shifts.items) (sym c.in_ok-level.ensures.level.1)
    (subst (λ (p : ℕ). AreNew c.args.workers p c.in_ok-new_shifts.new_shifts.items) c.len.ensures c.in_ok-new_shifts.ensures.new) in
    let passes_are : map pass_of before ≡ fresh_passes c.in_ok-level.level.level c.in_ok-level.level.passes =
    c.in_ok-seated.ensures.passes ∙ (c.in_ok-level.ensures.passes ∙ ap (fresh_passes c.in_ok-level.level.level) (sym c.in_ok-level.ensures.level.1)) in
    let now_shifts : c.unseat-answers.new.shifts.items ≡ map shift_of after =
    c.unseat-answers.ensures.shifts ∙ ap (λ (l : List Shift). l ++ map shift_of after) c.in_ok-shifts.ensures.items in
    let now_passes : c.unseat-answers.new.passes.items ≡ map pass_of after =
    c.unseat-answers.ensures.passes ∙ ap (λ (l : List PassSide). l ++ map pass_of after) c.in_ok-passes.ensures.items in
    let lists : concat (taken_lists c.finish-taken.result) ≡ all_taken after =
    ap concat (c.finish-taken.ensures.lists ∙ (ap (λ (l : List Shift). lists_taken l) now_shifts ∙ lists_are after)) in
    let counts : taken_parents c.finish-taken.result ≡ length parents =
    c.finish-taken.ensures.parents ∙ (ap (λ (l : List Shift). pool_parents l) now_shifts ∙ (same_parents q parents before after zip
    ∙ (ap (λ (l : List Shift). pool_parents l) c.in_ok-seated.ensures.shifts ∙ (c.in_ok-new_shifts.ensures.parents ∙ c.len.ensures)))) in
    let proper : IsProper (length parents) (all_taken after) =
    subst (λ (p : ℕ). IsProper p (all_taken after)) counts (subst (IsProper (taken_parents c.finish-taken.result)) lists c.finish-taken.ensures.proper) in
    let answers : c.as_slice.result.now ≡ map answer_of after = c.as_slice.ensures.value ∙ c.unseat-answers.ensures.answers in
    let some : AllByRecursion (λ w. IsSome w.answer) after =
    all_answered after (subst (All (λ (answer : Option ℕ). IsSome answer)) answers c.in-Some.ensures.0) in
    let done : HaveDone family (n + 1) parents after =
    all_done q parents n family h grows before after zip (all_fresh c.in_ok-level.level
    (length parents) before c.in_ok-new_shifts.new_shifts.items new passes_are
    c.in_ok-seated.ensures.shifts) some proper.once in
    let ended : AllEnded c.unseat-answers.new.shifts.items = subst (λ (l : List Shift). AllEnded l) (sym now_shifts)
    (all_ended q parents before after zip some) in
    let whole : IsWhole (length parents) (all_taken after) =
    subst (λ (p : ℕ). IsWhole p (all_taken after)) counts (subst (IsWhole (taken_parents c.finish-taken.result)) lists (c.finish-taken.ensures.whole ended)) in
    let keys = whole_done q parents n family h grows after whole done in
    let room : family.rank < n + 1 = (let r : family.rank ≡ q.rank = grows.rank_is in let l : q.rank ≤ n = h.at_least in omega arith) in
    let stripes = closed_stripes c.in_ok-level.level c.unseat-answers.new.passes.items c.close.result c.close.ensures.width c.close.ensures.histories in
    holds_tries family (n + 1) done.keys keys c.close.result room stripes c.close.ensures.together
    (λ key. c.close.ensures.entries key ∙ (ap (sum_by (calls_with key)) now_passes ∙ (sum_map pass_of (calls_with key) after ∙ done.calls key)))

pub returns-clause-callers : goal.returns-clause-callers
returns-clause-callers g c =
    let below : AreOfCallersBelow c.in_ok-level.level.passes c.close.result = λ s h at.
    let closed : IsClosedBy c.in_ok-level.level c.unseat-answers.new.passes.items s h = c.close.ensures.histories s h at in closed.others in
    subst (λ (n : ℕ). AreOfCallersBelow n c.close.result) c.in_ok-level.ensures.level.1 below

pub returns-clause-tried : goal.returns-clause-tried
returns-clause-tried g c n h family grows =
    let q : Request = c.args.request.now in
    let parents : List Rep = c.args.parents.now in
    let before : List Worker = c.in_ok-seated.seated.items in
    let after : List Worker = c.run.new.workers.items in
    let zip : AllZip (IsWorked q parents) before after = worked_zip q parents before after c.run.ensures in
    let new : AreNew c.in_ok-level.level.passes (length parents) c.in_ok-new_shifts.new_shifts.items =
    subst (λ (n : ℕ). AreNew n (length parents) c.in_ok-new_shifts.new_shifts.items) (sym c.in_ok-level.ensures.level.1)
    (subst (λ (p : ℕ). AreNew c.args.workers p c.in_ok-new_shifts.new_shifts.items) c.len.ensures c.in_ok-new_shifts.ensures.new) in
    let passes_are : map pass_of before ≡ fresh_passes c.in_ok-level.level.level c.in_ok-level.level.passes =
    c.in_ok-seated.ensures.passes ∙ (c.in_ok-level.ensures.passes ∙ ap (fresh_passes c.in_ok-level.level.level) (sym c.in_ok-level.ensures.level.1)) in
    let now_shifts : c.unseat-answers.new.shifts.items ≡ map shift_of after =
    c.unseat-answers.ensures.shifts ∙ ap (λ (l : List Shift). l ++ map shift_of after) c.in_ok-shifts.ensures.items in
    let lists : concat (taken_lists c.finish-taken.result) ≡ all_taken after =
    ap concat (c.finish-taken.ensures.lists ∙ (ap (λ (l : List Shift). lists_taken l) now_shifts ∙ lists_are after)) in
    let counts : taken_parents c.finish-taken.result ≡ length parents =
    c.finish-taken.ensures.parents ∙ (ap (λ (l : List Shift). pool_parents l) now_shifts ∙ (same_parents q parents before after zip
    ∙ (ap (λ (l : List Shift). pool_parents l) c.in_ok-seated.ensures.shifts ∙ (c.in_ok-new_shifts.ensures.parents ∙ c.len.ensures)))) in
    let proper : IsProper (length parents) (all_taken after) =
    subst (λ (p : ℕ). IsProper p (all_taken after)) counts (subst (IsProper (taken_parents c.finish-taken.result)) lists c.finish-taken.ensures.proper) in
    let answers : c.as_slice.result.now ≡ map answer_of after = c.as_slice.ensures.value ∙ c.unseat-answers.ensures.answers in
    let some : AllByRecursion (λ w. IsSome w.answer) after =
    all_answered after (subst (All (λ (answer : Option ℕ). IsSome answer)) answers c.in-Some.ensures.0) in
    let done : HaveDone family (n + 1) parents after =
    all_done q parents n family h grows before after zip (all_fresh c.in_ok-level.level
    (length parents) before c.in_ok-new_shifts.new_shifts.items new passes_are
    c.in_ok-seated.ensures.shifts) some proper.once in
    let ended : AllEnded c.unseat-answers.new.shifts.items = subst (λ (l : List Shift). AllEnded l) (sym now_shifts)
    (all_ended q parents before after zip some) in
    let whole : IsWhole (length parents) (all_taken after) =
    subst (λ (p : ℕ). IsWhole p (all_taken after)) counts (subst (IsWhole (taken_parents c.finish-taken.result)) lists (c.finish-taken.ensures.whole ended)) in
    let keys = whole_done q parents n family h grows after whole done in
    has_tries q family grows n c.in-Some.tried h.at_least
    (count_tries family (n + 1) done.keys keys c.in-Some.tried
    (c.in-Some.ensures.1 ∙ (ap (sum_by answered) answers ∙ (sum_map answer_of answered after ∙ done.count))))
