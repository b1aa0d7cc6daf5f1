use Rattle.std.proofs.Common.{◌≡◌, ℕ, suc, ◌+◌, ◌-◌, ◌*◌, ◌^◌, ◌<◌, [], List, Bool, true, false, Option, Some, None, length, slice_index, slice_index_or, zero, sym, ◌∙◌, subst, arith}
use Rattle.std.specs.Option.{MatchOption}
use Rattle.std.specs.Prelude.{◌||◌}
use mathlib.Core.Bool.{true≢false}
use Rattle.matroid_theory.specs.Field.{times}
use Rattle.matroid_theory.specs.Rep.{count, order}
use Rattle.form_search.specs.Search.{Stands, IsPlacing, IsThere}
use Rattle.form_states.specs.States.{layer_of, rest_of, IsLeastNumber}
use Rattle.form_states.specs.Codes.{code}
use Rattle.form_states.specs.Steps.{AreAbove}
use Rattle.form_states.proofs.Left.{left_covers}
use Rattle.fast_form.proofs.Covering.{all_tried, all_branched, branched_improves, above_covers, beyond_covers, one_covers, standing_room, tried_same, branched_same, unstopped, more_tried, left_tried, not_there, more_branched, other_branched}
use Rattle.fast_form.proofs.search.+search.Goals as goal
use Rattle.fast_form.proofs.search.+search.Goals.{rows-then-frame-b+then-not-leaves+else-stops, rows-then-frame-b+else-not-leaves, rows-else-frame-b, place_each-then-state-e+then-state-e-2+else-stops, place_each-else-state-e, place_each-else-state-e-via-then-state-e+else-state-e-2, place_each-else-state-e-via-else-state-e}

pub rows-returns-clause-improves : goal.rows-returns-clause-improves
rows-returns-clause-improves t c = c.loop-b.invariant.improves

pub rows-returns-clause-covers : goal.rows-returns-clause-covers
rows-returns-clause-covers t c q d h =
    all_tried c.args.rep.now c.requires.shape.is_rep c.args.k c.requires.row c.args.frame.now.groups c.args.columns.now c.args.frame.now.there
    c.args.settled.now
    c.loop-b.b c.args.best.now c.loop-b.best c.loop-b.better c.loop-b.abreast c.loop-b.invariant (omega (arith, c.requires.shape.total_is)) d h

pub rows-place-found-requires : goal.rows-place-found-requires
rows-place-found-requires t c =
    let (d, h) = c.requires.state in
    let (e, p, g) = c.chosen-state.ensures.chooses d c.args.settled.now h in (
      omega (arith, c.chosen-state.ensures.few),
      (
        c.requires.shape,
        (
          c.requires.row,
          (c.chosen-state.ensures.codes, (c.chosen-state.ensures.numbered, ((e, p), (c.loop-b.invariant.improves.sound, c.loop-b.invariant.stands)))),
        ),
      ),
    )

pub rows-row_of-row-requires-clause-led : goal.rows-row_of-row-requires-clause-led
rows-row_of-row-requires-clause-led t c =
    let (d, h) = c.requires.state in
    let u = h.led c.loop-b.b (record { below = omega (arith, c.requires.shape.total_is); passes = c.if-frame-b.true }) in
    let r = c.requires.shape.is_rep in
    (u.lead, (let l : u.lead < suc c.args.k = u.lead_before in omega arith), λ z. (let y : zero ≡ 1 = sym z ∙ u.ones 0 r.fields.some in omega arith))

-- an element that is left is above what was found
above_found : (low : Option ℕ) (level : Bool) (best : Option (List ℕ)) (n b : ℕ) (P : ℕ → Type 0) →
    MatchOption low (true ≡ true) (λ v. (level ≡ true) × MatchOption best ⊥ (λ least. (n < length least) × (slice_index least n ≡ v) × (v < b))) →
    MatchOption low ⊥ P → (level ≡ true) × MatchOption best ⊥ (λ least. (n < length least) × (slice_index least n < b) × P (slice_index least n))
above_found None level best n b P a h = absurd h
above_found (Some v) level best n b P a h = (a.0, by best a.1)
  where
    by : (o : Option (List ℕ)) → MatchOption o ⊥ (λ least. (n < length least) × (slice_index least n ≡ v) × (v < b)) →
        MatchOption o ⊥ (λ least. (n < length least) × (slice_index least n < b) × P (slice_index least n))
    by None w = w
    by (Some least) w = (w.0, subst (λ x. x < b) (sym w.1) w.2, subst P (sym w.1) h)

pub rows-loop-b-preserved : goal.rows-loop-b-preserved
rows-loop-b-preserved t c = elim c.if-frame-b.branch [
  | rows-then-frame-b+then-not-leaves+else-stops w ↦
      tried_same c.args.rep.now c.args.k c.args.frame.now.groups c.args.columns.now c.args.frame.now.there c.args.settled.now (c.loop-b.b + 1) c.args.best.now
      w.place-found.new.best c.if-frame-b.best (c.loop-b.better || w.place-found.result) (c.loop-b.abreast || w.place-found.result) c.if-frame-b.better
      c.if-frame-b.abreast
      w.best-is (w.better-is ∙ w.either-better.ensures) (w.abreast-is ∙ w.either-abreast.ensures)
      (more_tried c.args.rep.now c.requires.shape.is_rep c.args.k c.requires.row c.args.frame.now.groups c.args.columns.now c.args.frame.now.there
      c.args.settled.now
      c.loop-b.b c.args.best.now c.loop-b.best w.place-found.new.best c.loop-b.better c.loop-b.abreast w.place-found.result
      (layer_of c.args.rep.now w.pivoted_columns-layer.result w.chosen-state.result.scalars w.chosen-state.result.open)
      (rest_of c.args.rep.now c.args.k c.args.columns.now w.row_of-row.result.p w.row_of-row.result.minus w.chosen-state.result.scalars
      w.row_of-row.result.rest) w.chosen-state.result.groups
      c.loop-b.invariant w.chosen-state.ensures.chooses w.place-found.ensures.improves
      (w.place-found.ensures.covers (unstopped _ _ _ w.stops.ensures.1 w.if-stops.false)))
  | rows-then-frame-b+else-not-leaves w ↦
      tried_same c.args.rep.now c.args.k c.args.frame.now.groups c.args.columns.now c.args.frame.now.there c.args.settled.now (c.loop-b.b + 1) c.args.best.now
      c.loop-b.best c.if-frame-b.best c.loop-b.better c.loop-b.abreast c.if-frame-b.better c.if-frame-b.abreast w.best-is w.better-is w.abreast-is
      (left_tried c.args.rep.now c.requires.shape.is_rep c.args.k c.requires.row c.args.frame.now.groups c.args.columns.now c.args.frame.now.there
      c.args.settled.now c.loop-b.b c.args.best.now c.loop-b.best c.loop-b.better c.loop-b.abreast c.loop-b.invariant
      (let a = above_found w.next_within-low.result c.loop-b.abreast c.loop-b.best (length c.args.settled.now)
      (16 ^ ((c.args.shape.now.rank - c.args.k) * c.args.shape.now.count))
      (λ low. (e : ℕ) → e < c.args.shape.now.size → slice_index_or w.row_of-row.result.class e false ≡ true →
      AreAbove c.args.shape.now.count c.args.shape.now.rank c.args.k (slice_index_or c.args.columns.now e []) (slice_index_or c.args.columns.now c.loop-b.b [])
      low) w.next_within-low.ensures (w.leaves.ensures w.if-not-leaves.false) in
      left_covers c.args.rep.now c.args.shape.now.fields c.args.shape.now.count c.args.shape.now.rank c.args.shape.now.size c.requires.shape c.args.k
      c.requires.row c.args.columns.now c.args.frame.now.there c.args.frame.now.groups c.loop-b.b c.requires.columns
      (record { below = omega (arith, c.requires.shape.total_is); passes = w.if-frame-b.true })
      w.row_of-row.result.p w.row_of-row.result.minus w.row_of-row.result.class w.row_of-row.result.rest w.row_of-row.ensures c.args.settled.now
      c.loop-b.best c.loop-b.invariant.improves.sound
      (subst (λ (b : Bool). Stands b c.loop-b.best c.args.settled.now) a.0 c.loop-b.invariant.stands)
      (subst (λ r. MatchOption c.loop-b.best ⊥ (λ least. (length c.args.settled.now < length least) ×
      (slice_index least (length c.args.settled.now) < 16 ^ ((r - c.args.k) * count c.args.rep.now)) ×
      ((e : ℕ) → e < c.args.shape.now.size → slice_index_or w.row_of-row.result.class e false ≡ true →
      AreAbove c.args.shape.now.count c.args.shape.now.rank c.args.k (slice_index_or c.args.columns.now e []) (slice_index_or c.args.columns.now c.loop-b.b [])
      (slice_index least (length c.args.settled.now))))) c.requires.shape.rank_is
      (subst (λ f. MatchOption c.loop-b.best ⊥ (λ least. (length c.args.settled.now < length least) ×
      (slice_index least (length c.args.settled.now) < 16 ^ ((c.args.shape.now.rank - c.args.k) * f)) ×
      ((e : ℕ) → e < c.args.shape.now.size → slice_index_or w.row_of-row.result.class e false ≡ true →
      AreAbove c.args.shape.now.count c.args.shape.now.rank c.args.k (slice_index_or c.args.columns.now e []) (slice_index_or c.args.columns.now c.loop-b.b [])
      (slice_index least (length c.args.settled.now))))) c.requires.shape.factors_are a.1))))
  | rows-else-frame-b w ↦
      tried_same c.args.rep.now c.args.k c.args.frame.now.groups c.args.columns.now c.args.frame.now.there c.args.settled.now (c.loop-b.b + 1) c.args.best.now
      c.loop-b.best c.if-frame-b.best c.loop-b.better c.loop-b.abreast c.if-frame-b.better c.if-frame-b.abreast w.best-is w.better-is w.abreast-is
      (not_there c.args.rep.now c.requires.shape.is_rep c.args.k c.requires.row c.args.frame.now.groups c.args.columns.now c.args.frame.now.there
      c.args.settled.now
      c.loop-b.b c.args.best.now c.loop-b.best c.loop-b.better c.loop-b.abreast c.loop-b.invariant w.if-frame-b.false)
]

pub place-standing-requires-clause-room : goal.place-standing-requires-clause-room
place-standing-requires-clause-room t c =
    let (d, h) = c.requires.state in
    standing_room c.args.rep.now c.requires.shape.is_rep c.args.k c.requires.row c.args.state.now.groups (λ e. code (slice_index_or c.args.layer.now e []))
    c.args.state.now.scalars c.args.state.now.open
    (rest_of c.args.rep.now c.args.k c.args.columns.now c.args.row.now.p c.args.row.now.minus c.args.state.now.scalars c.args.row.now.rest) c.args.settled.now
    c.args.state.now.numbers c.in-Some.low (c.numbers_are_least.ensures d c.args.settled.now h) c.in-Some.ensures c.args.best.now c.requires.sound d h

pub place-returns-in-None-standing-clause-covers : goal.place-returns-in-None-standing-clause-covers
place-returns-in-None-standing-clause-covers t c q d h =
    above_covers c.args.rep.now c.requires.shape.is_rep c.args.k c.requires.row c.args.state.now.groups (λ e. code (slice_index_or c.args.layer.now e []))
    c.args.state.now.scalars c.args.state.now.open
    (rest_of c.args.rep.now c.args.k c.args.columns.now c.args.row.now.p c.args.row.now.minus c.args.state.now.scalars c.args.row.now.rest) c.args.settled.now
    c.args.state.now.numbers c.in-Some.low (c.numbers_are_least.ensures d c.args.settled.now h) c.in-Some.ensures c.args.best.now c.requires.sound
    (subst (λ (b : Bool). Stands b c.args.best.now c.args.settled.now) c.in-None-standing.ensures.was_level c.requires.stands)
    c.in-None-standing.ensures.above d h

pub place_each-returns-clause-improves : goal.place_each-returns-clause-improves
place_each-returns-clause-improves t c =
    branched_improves c.args.rep.now c.requires.shape.is_rep c.args.k c.requires.row c.args.state.now.groups
    (λ e. code (slice_index_or c.args.layer.now e [])) c.args.state.now.scalars c.args.state.now.open
    (rest_of c.args.rep.now c.args.k c.args.columns.now c.args.row.now.p c.args.row.now.minus c.args.state.now.scalars c.args.row.now.rest) c.args.settled.now
    c.args.state.now.numbers c.args.low c.requires.numbers c.requires.low
    c.loop-e.e c.followed_by-longer.result c.args.best.now c.loop-e.best c.loop-e.better c.loop-e.abreast c.followed_by-longer.ensures c.loop-e.invariant

pub place_each-returns-clause-covers : goal.place_each-returns-clause-covers
place_each-returns-clause-covers t c q d h =
    all_branched c.args.rep.now c.requires.shape.is_rep c.args.k c.requires.row c.args.state.now.groups (λ e. code (slice_index_or c.args.layer.now e []))
    c.args.state.now.scalars c.args.state.now.open
    (rest_of c.args.rep.now c.args.k c.args.columns.now c.args.row.now.p c.args.row.now.minus c.args.state.now.scalars c.args.row.now.rest) c.args.settled.now
    c.args.state.now.numbers c.args.low c.requires.numbers c.requires.low
    c.loop-e.e c.followed_by-longer.result c.args.best.now c.loop-e.best c.loop-e.better c.loop-e.abreast c.loop-e.invariant
    (omega (arith, c.requires.shape.total_is)) d h

pub place_each-place_one-found-requires : goal.place_each-place_one-found-requires
place_each-place_one-found-requires t c =
    let there : IsThere (layer_of c.args.rep.now c.args.layer.now c.args.state.now.scalars c.args.state.now.open) c.loop-e.e = record
    { below = omega (arith, c.requires.shape.total_is); passes = c.if-state-e.true } in (
      omega arith,
      (
        c.requires.shape,
        (
          c.requires.row,
          (
            c.requires.codes,
            (
              c.requires.numbered,
              (
                c.requires.state,
                (
                  there,
                  (
                    subst (IsLeastNumber c.args.rep.now (slice_index c.args.state.now.groups)
                        (λ f i. times (order c.args.rep.now f) (code c.args.state.now.scalars f i) (code (slice_index_or c.args.layer.now c.loop-e.e []) f i)))
                        c.if-state-e-2.true (c.requires.numbers c.loop-e.e there),
                    (c.followed_by-longer.ensures, (c.loop-e.invariant.improves.sound, c.loop-e.invariant.stands)),
                  ),
                ),
              ),
            ),
          ),
        ),
      ),
    )

pub place_each-loop-e-preserved : goal.place_each-loop-e-preserved
place_each-loop-e-preserved t c = elim c.if-state-e.branch [
  | place_each-then-state-e+then-state-e-2+else-stops w ↦
      branched_same c.args.rep.now c.args.k c.args.state.now.groups (layer_of c.args.rep.now c.args.layer.now c.args.state.now.scalars c.args.state.now.open)
      (rest_of c.args.rep.now c.args.k c.args.columns.now c.args.row.now.p c.args.row.now.minus c.args.state.now.scalars c.args.row.now.rest)
      c.args.settled.now (c.loop-e.e + 1) c.followed_by-longer.result c.args.best.now
      w.place_one-found.new.best c.if-state-e.best (c.loop-e.better || w.place_one-found.result) (c.loop-e.abreast || w.place_one-found.result)
      c.if-state-e.better c.if-state-e.abreast
      w.best-is (w.better-is ∙ w.either-better.ensures) (w.abreast-is ∙ w.either-abreast.ensures)
      (more_branched c.args.rep.now c.requires.shape.is_rep c.args.k c.requires.row c.args.state.now.groups
      (λ e. code (slice_index_or c.args.layer.now e [])) c.args.state.now.scalars c.args.state.now.open
      (rest_of c.args.rep.now c.args.k c.args.columns.now c.args.row.now.p c.args.row.now.minus c.args.state.now.scalars c.args.row.now.rest) c.args.settled.now
      c.args.state.now.numbers c.args.low c.requires.numbers c.requires.low
      c.loop-e.e c.followed_by-longer.result c.args.best.now c.loop-e.best w.place_one-found.new.best c.loop-e.better c.loop-e.abreast w.place_one-found.result
      c.loop-e.invariant w.place_one-found.ensures.improves (w.place_one-found.ensures.covers (unstopped _ _ _ w.stops.ensures.1 w.if-stops.false)))
  | place_each-else-state-e w ↦
      branched_same c.args.rep.now c.args.k c.args.state.now.groups (layer_of c.args.rep.now c.args.layer.now c.args.state.now.scalars c.args.state.now.open)
      (rest_of c.args.rep.now c.args.k c.args.columns.now c.args.row.now.p c.args.row.now.minus c.args.state.now.scalars c.args.row.now.rest)
      c.args.settled.now (c.loop-e.e + 1) c.followed_by-longer.result c.args.best.now
      c.loop-e.best c.if-state-e.best c.loop-e.better c.loop-e.abreast c.if-state-e.better c.if-state-e.abreast w.best-is w.better-is w.abreast-is
      (other_branched c.args.rep.now c.requires.shape.is_rep c.args.k c.requires.row c.args.state.now.groups
      (λ e. code (slice_index_or c.args.layer.now e [])) c.args.state.now.scalars c.args.state.now.open
      (rest_of c.args.rep.now c.args.k c.args.columns.now c.args.row.now.p c.args.row.now.minus c.args.state.now.scalars c.args.row.now.rest) c.args.settled.now
      c.args.state.now.numbers c.args.low c.requires.numbers c.requires.low
      c.loop-e.e c.followed_by-longer.result c.args.best.now c.loop-e.best c.loop-e.better c.loop-e.abreast c.loop-e.invariant
      (λ o n. elim w.else-state-e.branch [
        | place_each-else-state-e-via-then-state-e+else-state-e-2 w' ↦ w'.if-state-e-2.false n
        | place_each-else-state-e-via-else-state-e w' ↦ true≢false (sym o ∙ w'.if-state-e.false)
      ]))
]

pub place_one-place-requires : goal.place_one-place-requires
place_one-place-requires t c =
    let (d, h) = c.requires.state in
    let (e, p, g) = c.placed-next.ensures.places d c.args.settled.now c.args.low h c.requires.number in (
      omega (arith, c.placed-next.ensures.fewer),
      (
        c.requires.shape,
        (
          c.requires.row,
          (
            c.placed-next.ensures.codes,
            (
              c.placed-next.ensures.numbered,
              (
                (
                  e,
                  subst (λ (s : List ℕ). IsPlacing c.args.rep.now c.args.k (slice_index c.placed-next.result.groups) s
                      (layer_of c.args.rep.now c.args.layer.now c.placed-next.result.scalars c.placed-next.result.open)
                      (rest_of c.args.rep.now c.args.k c.args.columns.now c.args.row.now.p c.args.row.now.minus c.placed-next.result.scalars
                      c.args.row.now.rest) e) (sym c.requires.longer) p,
                ),
                (c.requires.sound, c.requires.stands),
              ),
            ),
          ),
        ),
      ),
    )

pub place_one-returns-clause-covers : goal.place_one-returns-clause-covers
place_one-returns-clause-covers t c q d h m N r f l =
    one_covers c.args.rep.now c.requires.shape.is_rep c.args.k c.requires.row c.args.state.now.groups (λ e. code (slice_index_or c.args.layer.now e []))
    c.args.state.now.scalars c.args.state.now.open
    (rest_of c.args.rep.now c.args.k c.args.columns.now c.args.row.now.p c.args.row.now.minus c.args.state.now.scalars c.args.row.now.rest) c.args.settled.now
    c.args.e c.args.low c.args.longer.now c.place.new.best (layer_of c.args.rep.now c.args.layer.now c.placed-next.result.scalars c.placed-next.result.open)
    (rest_of c.args.rep.now c.args.k c.args.columns.now c.args.row.now.p c.args.row.now.minus c.placed-next.result.scalars c.args.row.now.rest)
    c.placed-next.result.groups c.requires.longer
    c.placed-next.ensures.places c.requires.number (c.place.ensures.covers q) d h m N r f l

pub next_row-returns-then-gives_up-clause-covers : goal.next_row-returns-then-gives_up-clause-covers
next_row-returns-then-gives_up-clause-covers t c q d h =
    beyond_covers c.args.rep.now c.requires.shape.is_rep c.args.k c.requires.row c.args.state.now.groups (λ e. code (slice_index_or c.args.layer.now e []))
    c.args.state.now.scalars c.args.state.now.open
    (rest_of c.args.rep.now c.args.k c.args.columns.now c.args.row.now.p c.args.row.now.minus c.args.state.now.scalars c.args.row.now.rest)
    c.args.settled.now c.requires.none c.args.best.now c.requires.sound
    (subst (λ (b : Bool). Stands b c.args.best.now c.args.settled.now) (c.gives_up.ensures.was_level c.if-gives_up.true) c.requires.stands)
    (subst (λ r. MatchOption c.args.best.now ⊥ (λ least. (length c.args.settled.now < length least) ×
    (slice_index least (length c.args.settled.now) < 16 ^ ((r - c.args.k) * count c.args.rep.now)))) c.requires.shape.rank_is
    (subst (λ f. MatchOption c.args.best.now ⊥ (λ least. (length c.args.settled.now < length least) ×
    (slice_index least (length c.args.settled.now) < 16 ^ ((c.args.shape.now.rank - c.args.k) * f)))) c.requires.shape.factors_are
    (c.gives_up.ensures.within c.if-gives_up.true))) d h
