use Rattle.std.proofs.Common.{arith}
use Rattle.steal_pool.proofs.GivenBack.{next_place, place_parts, seat_parts, row_more}
use Rattle.steal_pool.proofs.giving_back.give_row.Goals as goal

pub give_back-requires-clause-parts : goal.give_back-requires-clause-parts
give_back-requires-clause-parts c = (
  place_parts _ _ _ _ _ _ _ c.loop-seat.invariant c.requires.parts.0
      (next_place _ _ _ _ _ _ _ _ _ c.loop-seat.invariant c.in-Some.ensures.items c.requires.own.0 (omega arith) c.ring_place-place.ensures),
  seat_parts _ _ _ _ _ _ _ c.loop-seat.invariant c.in-Some.ensures.items,
)

pub loop-seat-preserved : goal.loop-seat-preserved
loop-seat-preserved c = row_more _ _ _ _ _ _ _ _ _ _ c.loop-seat.invariant c.in-Some.ensures.items
    (next_place _ _ _ _ _ _ _ _ _ c.loop-seat.invariant c.in-Some.ensures.items c.requires.own.0
    (omega arith) c.ring_place-place.ensures) c.give_back.ensures.same c.give_back.ensures.joined
