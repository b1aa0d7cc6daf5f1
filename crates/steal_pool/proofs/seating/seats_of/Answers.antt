use Rattle.std.proofs.Common.{◌≡◌, ◌-◌, length, refl, arith}
use Rattle.steal_pool.proofs.Rows.{upper_none, lower_none}
use Rattle.steal_pool.proofs.Round.{same_deques, same_flavors, round_first, upper_step, lower_step, turn, still, round_length, moved, round_cut}
use Rattle.steal_pool.proofs.seating.seats_of.Goals as goal

pub seat_at-requires : goal.seat_at-requires
seat_at-requires c = let b = c.loop-d.auto.d in let l = round_length _ _ _ _ _ _ c.loop-d.invariant in
    still _ _ _ _ _ _ _ _ c.loop-d.invariant (omega arith) (upper_none c.args.number c.loop-d.d)
    (let b = c.loop-d.auto.d in c.requires.parts c.loop-d.d (omega arith) (λ (e : c.loop-d.d ≡ c.args.number). omega arith))

pub returns-in_err-seat_at-clause-deques : goal.returns-in_err-seat_at-clause-deques
returns-in_err-seat_at-clause-deques c = let l = round_length _ _ _ _ _ _ c.loop-d.invariant in
    same_deques _ _ _ _ _ c.loop-d.invariant.deques (omega arith) c.seat_at.ensures.same

pub returns-in_err-seat_at-clause-flavors : goal.returns-in_err-seat_at-clause-flavors
returns-in_err-seat_at-clause-flavors c = let l = round_length _ _ _ _ _ _ c.loop-d.invariant in
    same_flavors _ _ _ _ _ c.loop-d.invariant.flavors (omega arith) c.seat_at.ensures.same

pub returns-in_err-push-clause-deques : goal.returns-in_err-push-clause-deques
returns-in_err-push-clause-deques c = let l = round_length _ _ _ _ _ _ c.loop-d.invariant in
    same_deques _ _ _ _ _ c.loop-d.invariant.deques (omega arith) c.seat_at.ensures.same

pub returns-in_err-push-clause-flavors : goal.returns-in_err-push-clause-flavors
returns-in_err-push-clause-flavors c = let l = round_length _ _ _ _ _ _ c.loop-d.invariant in
    same_flavors _ _ _ _ _ c.loop-d.invariant.flavors (omega arith) c.seat_at.ensures.same

pub loop-d-init : goal.loop-d-init
loop-d-init c = moved _ _ _ _ _ _ _ _ (round_first c.args.number c.args.owners.now) (omega arith) c.new-row.ensures.items

pub loop-d-preserved : goal.loop-d-preserved
loop-d-preserved c =
    let l = round_length _ _ _ _ _ _ c.loop-d.invariant in
    let b = c.loop-d.auto.d in
    let many = still _ _ _ _ _ _ _ c.index-owners-d.result c.loop-d.invariant (omega arith) (upper_none c.args.number c.loop-d.d)
    (let b = c.loop-d.auto.d in c.requires.parts c.loop-d.d (omega arith) (λ (e : c.loop-d.d ≡ c.args.number). omega arith)) in
    moved _ _ _ _ _ _ _ _ (upper_step _ _ c.loop-d.d _ _ _ c.index-owners-d.result c.seat_at.new.own c.in_ok-seat_at.field-0 c.loop-d.invariant
    (omega arith) (omega arith) many c.seat_at.ensures.same c.in_ok-seat_at.ensures.seat)
    (omega arith) c.in_ok-push.ensures.items

pub loop-d-2-init : goal.loop-d-2-init
loop-d-2-init c =
    let l = round_length _ _ _ _ _ _ c.loop-d.invariant in
    let o = c.requires.own in
    let f = c.loop-d-test.false in
    let b = c.loop-d.auto.d in
    moved _ _ _ _ _ _ _ _ (turn _ _ _ _ _ _ c.loop-d.invariant o (omega arith)) (omega arith) refl

pub loop-d-2-preserved : goal.loop-d-2-preserved
loop-d-2-preserved c =
    let l = round_length _ _ _ _ _ _ c.loop-d-2.invariant in
    let o = c.requires.own in
    let many = still _ _ _ _ _ _ _ c.index-owners-d-in-loop-d-2.result c.loop-d-2.invariant (omega arith)
    (lower_none c.args.number c.loop-d-2.d (omega arith))
    (c.requires.parts c.loop-d-2.d (omega arith) (λ (e : c.loop-d-2.d ≡ c.args.number). omega arith)) in
    moved _ _ _ _ _ _ _ _
    (lower_step _ _ c.loop-d-2.d _ _ _ c.index-owners-d-in-loop-d-2.result c.seat_at-in-loop-d-2.new.own c.in_ok-seat_at-2.field-0
    c.loop-d-2.invariant (omega arith) (omega arith) o many c.seat_at-in-loop-d-2.ensures.same c.in_ok-seat_at-2.ensures.seat)
    (omega arith) c.in_ok-push-2.ensures.items

pub seat_at-requires-in-loop-d-2 : goal.seat_at-requires-in-loop-d-2
seat_at-requires-in-loop-d-2 c = let o = c.requires.own in
    still _ _ _ _ _ _ _ _ c.loop-d-2.invariant (omega arith) (lower_none c.args.number c.loop-d-2.d (omega arith))
    (c.requires.parts c.loop-d-2.d (omega arith) (λ (e : c.loop-d-2.d ≡ c.args.number). omega arith))

pub returns-in_err-seat_at-2-clause-deques : goal.returns-in_err-seat_at-2-clause-deques
returns-in_err-seat_at-2-clause-deques c = let o = c.requires.own in let l = round_length _ _ _ _ _ _ c.loop-d-2.invariant in
    same_deques _ _ _ _ _ c.loop-d-2.invariant.deques (omega arith) c.seat_at-in-loop-d-2.ensures.same

pub returns-in_err-seat_at-2-clause-flavors : goal.returns-in_err-seat_at-2-clause-flavors
returns-in_err-seat_at-2-clause-flavors c = let o = c.requires.own in let l = round_length _ _ _ _ _ _ c.loop-d-2.invariant in
    same_flavors _ _ _ _ _ c.loop-d-2.invariant.flavors (omega arith) c.seat_at-in-loop-d-2.ensures.same

pub returns-in_err-push-2-clause-deques : goal.returns-in_err-push-2-clause-deques
returns-in_err-push-2-clause-deques c = let o = c.requires.own in let l = round_length _ _ _ _ _ _ c.loop-d-2.invariant in
    same_deques _ _ _ _ _ c.loop-d-2.invariant.deques (omega arith) c.seat_at-in-loop-d-2.ensures.same

pub returns-in_err-push-2-clause-flavors : goal.returns-in_err-push-2-clause-flavors
returns-in_err-push-2-clause-flavors c = let o = c.requires.own in let l = round_length _ _ _ _ _ _ c.loop-d-2.invariant in
    same_flavors _ _ _ _ _ c.loop-d-2.invariant.flavors (omega arith) c.seat_at-in-loop-d-2.ensures.same

pub returns-clause-cut : goal.returns-clause-cut
returns-clause-cut c = let b = c.loop-d-2.auto.d-end in let f = c.loop-d-2-test.false in round_cut _ _ _ _ _ _ c.loop-d-2.invariant (omega arith)

pub returns-clause-row : goal.returns-clause-row
returns-clause-row c = let o = c.requires.own in let b = c.loop-d-2.auto.d-end in let f = c.loop-d-2-test.false in
    (moved _ _ (length c.args.owners.now - 1) _ _ _ _ _ c.loop-d-2.invariant (omega arith) refl).row

pub returns-clause-around : goal.returns-clause-around
returns-clause-around c = let o = c.requires.own in let b = c.loop-d-2.auto.d-end in let f = c.loop-d-2-test.false in
    (moved _ _ (length c.args.owners.now - 1) _ _ _ _ _ c.loop-d-2.invariant (omega arith) refl).around
