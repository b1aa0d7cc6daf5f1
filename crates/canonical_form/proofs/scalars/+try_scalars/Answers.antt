use Rattle.std.proofs.Common.{◌≡◌, ◌<◌, ◌≤◌, ◌+◌, ◌*◌, ℕ, length, sym, ◌∙◌, ap, arith, List, ◌++◌, ◌∷◌, [], length-append}
use Rattle.matroid_theory.specs.Rep.{count}
use Rattle.canonical_form.proofs.Places.{count_at}
use Rattle.canonical_form.proofs.SearchSteps.{EndsAt, ends_at_two, ends_at_order, before_end, all_scalars, more_scalars, room_left, none_tried, one_more_tried, all_tried, candidate_sound, candidate_covers}
use Rattle.canonical_form.proofs.scalars.+try_scalars.Goals as goal
use Rattle.canonical_form.proofs.scalars.+try_scalars.Goals.{then-place-count, else-place-count}

pub candidate-requires-clause-scalars : goal.candidate-requires-clause-scalars
candidate-requires-clause-scalars t c =
    all_scalars c.args.rep.now c.laws.ensures c.args.scalars.now.items c.requires.scalars
    (sym c.len-place.ensures.value ∙ c.if-place-rank.true
    ∙ (λ u. c.rank.ensures u * count_at c.args.rep.now c.factors-factors.result c.count-count.result c.factors-factors.ensures
    c.count-count.ensures.count u))

pub returns-then-place-rank-clause-sound : goal.returns-then-place-rank-clause-sound
returns-then-place-rank-clause-sound t c =
    let full : length c.args.scalars.now.items ≡ c.args.rep.now.rank * count c.args.rep.now =
    sym c.len-place.ensures.value ∙ c.if-place-rank.true
    ∙ (λ u. c.rank.ensures u * count_at c.args.rep.now c.factors-factors.result c.count-count.result c.factors-factors.ensures
    c.count-count.ensures.count u) in
    candidate_sound c.args.rep.now c.laws.ensures c.args.frame.now.basis.items c.args.scalars.now.items c.candidate.result c.args.best.now c.keep_less.new.best
    c.requires.basis (all_scalars c.args.rep.now c.laws.ensures c.args.scalars.now.items c.requires.scalars full)
    c.candidate.ensures c.requires.sound c.keep_less.ensures.either

pub returns-then-place-rank-clause-covers : goal.returns-then-place-rank-clause-covers
returns-then-place-rank-clause-covers t c =
    let full : length c.args.scalars.now.items ≡ c.args.rep.now.rank * count c.args.rep.now =
    sym c.len-place.ensures.value ∙ c.if-place-rank.true
    ∙ (λ u. c.rank.ensures u * count_at c.args.rep.now c.factors-factors.result c.count-count.result c.factors-factors.ensures
    c.count-count.ensures.count u) in
    candidate_covers c.args.rep.now c.laws.ensures c.args.frame.now.basis.items c.args.scalars.now.items c.candidate.result c.keep_less.new.best
    c.requires.basis full (all_scalars c.args.rep.now c.laws.ensures c.args.scalars.now.items c.requires.scalars full)
    c.candidate.ensures c.keep_less.ensures.at_most

pub loop-code-init : goal.loop-code-init
loop-code-init t c =
    none_tried c.args.rep.now c.laws.ensures c.args.frame.now.basis.items c.args.scalars.now.items c.args.best.now
    (room_left c.args.rep.now c.laws.ensures c.args.scalars.now.items (c.rank.result * c.count-count.result) c.requires.scalars
    (λ u. c.rank.ensures u * count_at c.args.rep.now c.factors-factors.result c.count-count.result c.factors-factors.ensures c.count-count.ensures.count u)
    (λ e. c.if-place-rank.false (c.len-place.ensures.value ∙ e)))
    c.requires.sound

pub try_scalars-requires : goal.try_scalars-requires
try_scalars-requires t c =
    let room : length c.args.scalars.now.items < c.args.rep.now.rank * count c.args.rep.now =
    room_left c.args.rep.now c.laws.ensures c.args.scalars.now.items (c.rank.result * c.count-count.result) c.requires.scalars
    (λ u. c.rank.ensures u * count_at c.args.rep.now c.factors-factors.result c.count-count.result c.factors-factors.ensures c.count-count.ensures.count u)
    (λ e. c.if-place-rank.false (c.len-place.ensures.value ∙ e)) in
    let ends : EndsAt c.args.rep.now c.args.scalars.now.items c.if-place-count.end = elim c.if-place-count.branch [
      | then-place-count w ↦ ends_at_two c.args.rep.now c.args.scalars.now.items c.len-place.result c.count-count.result
          c.if-place-count.end c.len-place.ensures.value
          (count_at c.args.rep.now c.factors-factors.result c.count-count.result c.factors-factors.ensures
          c.count-count.ensures.count) w.if-place-count.true w.end-is
      | else-place-count w ↦ ends_at_order c.args.rep.now c.factors-factors.result c.args.scalars.now.items c.len-place.result
          c.count-count.result c.if-place-count.end w.field.result w.order-end.result
          c.factors-factors.ensures c.len-place.ensures.value c.count-count.ensures.count w.field.ensures w.order-end.ensures.order w.end-is
    ] in
    let longer : length c.followed_by.result.items ≡ length c.args.scalars.now.items + 1 = ap (λ (w : List ℕ). length w)
    (c.followed_by.ensures ∙ ap (λ (w : List ℕ). w ++ c.loop-code.code ∷ []) c.as_slice.ensures.value)
    ∙ length-append c.args.scalars.now.items (c.loop-code.code ∷ []) in
    let code : 1 ≤ c.loop-code.code = c.loop-code.auto.code in (
      omega (arith, c.decreases),
      (
        c.requires.basis,
        (
          c.requires.coordinates,
          (
            more_scalars c.args.rep.now c.laws.ensures c.args.scalars.now.items c.followed_by.result.items c.loop-code.code
                c.requires.scalars room (c.followed_by.ensures ∙ ap (λ (w : List ℕ). w ++ c.loop-code.code ∷ []) c.as_slice.ensures.value)
                (before_end c.args.rep.now c.laws.ensures c.args.scalars.now.items c.if-place-count.end c.loop-code.code ends
                c.loop-code-test.true) (omega arith),
            c.loop-code.invariant.found.sound,
          ),
        ),
      ),
    )

pub loop-code-preserved : goal.loop-code-preserved
loop-code-preserved t c =
    one_more_tried c.args.rep.now c.laws.ensures c.args.frame.now.basis.items c.args.scalars.now.items c.followed_by.result.items
    c.loop-code.code c.args.best.now c.loop-code.best c.try_scalars.new.best
    c.loop-code.invariant (c.followed_by.ensures ∙ ap (λ (w : List ℕ). w ++ c.loop-code.code ∷ []) c.as_slice.ensures.value)
    c.try_scalars.ensures.sound c.try_scalars.ensures.lower c.try_scalars.ensures.covers

pub returns-clause-covers : goal.returns-clause-covers
returns-clause-covers t c =
    let room : length c.args.scalars.now.items < c.args.rep.now.rank * count c.args.rep.now =
    room_left c.args.rep.now c.laws.ensures c.args.scalars.now.items (c.rank.result * c.count-count.result) c.requires.scalars
    (λ u. c.rank.ensures u * count_at c.args.rep.now c.factors-factors.result c.count-count.result c.factors-factors.ensures c.count-count.ensures.count u)
    (λ e. c.if-place-rank.false (c.len-place.ensures.value ∙ e)) in
    let ends : EndsAt c.args.rep.now c.args.scalars.now.items c.if-place-count.end = elim c.if-place-count.branch [
      | then-place-count w ↦ ends_at_two c.args.rep.now c.args.scalars.now.items c.len-place.result c.count-count.result
          c.if-place-count.end c.len-place.ensures.value
          (count_at c.args.rep.now c.factors-factors.result c.count-count.result c.factors-factors.ensures
          c.count-count.ensures.count) w.if-place-count.true w.end-is
      | else-place-count w ↦ ends_at_order c.args.rep.now c.factors-factors.result c.args.scalars.now.items c.len-place.result
          c.count-count.result c.if-place-count.end w.field.result w.order-end.result
          c.factors-factors.ensures c.len-place.ensures.value c.count-count.ensures.count w.field.ensures w.order-end.ensures.order w.end-is
    ] in
    all_tried c.args.rep.now c.laws.ensures c.args.frame.now.basis.items c.args.scalars.now.items c.if-place-count.end
    c.loop-code.code c.args.best.now c.loop-code.best room c.loop-code.invariant c.loop-code-test.false ends
