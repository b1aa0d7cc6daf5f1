use Rattle.std.proofs.Common.{◌∷◌, [], ◌++◌, ap, ◌∙◌, Option}
use Rattle.std.specs.Global.{Vec}
use Rattle.steal_pool.specs.declared.seat.Seat.{Seat}
use Rattle.steal_pool.proofs.GivenBack.{next_row, still_parts, rows_less, rows_skip}
use Rattle.steal_pool.proofs.giving_back.give_rows.Goals as goal

pub give_row-requires-clause-around : goal.give_row-requires-clause-around
give_row-requires-clause-around c =
    (next_row _ _ _ _ _ _ c.in-Some-row.row c.loop-row.invariant
    (c.in-Some.ensures.items ∙ ap (λ (r : Option (Vec Seat)). c.pop.new.self.items ++ r ∷ []) c.in-Some-row.is) c.len.ensures.value).0

pub give_row-requires-clause-parts : goal.give_row-requires-clause-parts
give_row-requires-clause-parts c = (
  still_parts _ _ _ _ c.loop-row.invariant.back c.requires.parts,
  (next_row _ _ _ _ _ _ c.in-Some-row.row c.loop-row.invariant
      (c.in-Some.ensures.items ∙ ap (λ (r : Option (Vec Seat)). c.pop.new.self.items ++ r ∷ []) c.in-Some-row.is) c.len.ensures.value).1,
)

pub loop-row-preserved-in-Some-row : goal.loop-row-preserved-in-Some-row
loop-row-preserved-in-Some-row c =
    rows_less _ _ _ _ _ _ c.in-Some-row.row c.loop-row.invariant
    (c.in-Some.ensures.items ∙ ap (λ (r : Option
    (Vec Seat)). c.pop.new.self.items ++ r ∷ []) c.in-Some-row.is) c.give_row.ensures.same c.give_row.ensures.back

pub loop-row-preserved : goal.loop-row-preserved
loop-row-preserved c = rows_skip _ _ _ _ _ _ c.loop-row.invariant c.in-Some.ensures.items c.in_default-row.is
