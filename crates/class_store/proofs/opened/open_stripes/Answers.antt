use Rattle.std.proofs.Common.{◌∙◌, ap, sym, subst, refl, length, map, [], List, ap₂, arith}
use Rattle.std.proofs.lemmas.List.{length-map, length-replicate}
use Rattle.stripe_book.specs.Seen.{CallerSide, TableSide}
use Rattle.stripe_turn.specs.Seen.{TurnSide}
use Rattle.class_store.specs.Seen.{fresh_rows}
use Rattle.class_store.specs.Rows.{ArePasses, passes_from}
use Rattle.class_store.proofs.Opening.{opening_next, rows_length, callers_length, all_passes, passes_are}
use Rattle.class_store.proofs.opened.open_stripes.Goals as goal

pub with_column-requires : goal.with_column-requires
with_column-requires c =
    let rows = c.loop.rows.ok.0 ∙ (sym (length-map c.loop.rows.items (λ r. r.items))
    ∙ (ap (λ (l : List (List CallerSide)). length l) c.loop.invariant.opening.filled
    ∙ rows_length (map (λ (t : TableSide). t.table) c.loop.tables.items) c.args.passes)) in
    let column = c.in_ok-table.column.ok.0 ∙ (ap (λ (l : List CallerSide). length l) c.in_ok-table.ensures.callers
    ∙ callers_length c.in_ok-table.table.table c.args.passes) in
    rows ∙ sym column

pub loop-preserved : goal.loop-preserved
loop-preserved c = record {
  opening = opening_next _ _ _ _ _ _ _ _ c.in_ok-table.table _ c.in_ok-table.column.items c.loop.invariant.opening c.in_ok-table.ensures.table
      (ap (λ b. b.table) c.in_ok-table.ensures.book) c.in_ok-table.ensures.callers
      c.push_reserved.ensures.items c.push_reserved-in-loop.ensures.items c.in_ok-rows-2.ensures;
  tables_len = omega arith;
  locked_len = omega arith;
  tables_room = omega arith;
  locked_room = omega arith;
}

pub passes_of-requires-clause-ready : goal.passes_of-requires-clause-ready
passes_of-requires-clause-ready c =
    let o = c.loop.invariant.opening in let ts = map (λ (t : TableSide). t.table) c.loop.tables.items in
    let turn : TurnSide = record { turns = c.in_ok-turns.turns.turns; tables = c.in_ok-turns.turns.tables; held = [] } in
    subst (λ rows. ArePasses rows c.in_ok-turns.seats.items 0) (sym o.filled)
    (subst (λ seats. ArePasses (fresh_rows ts c.args.passes) seats 0) (sym c.in_ok-turns.ensures.seats)
    (all_passes ts turn c.args.passes (c.in_ok-turns.ensures.tables ∙ o.same) refl))

pub passes_of-requires-clause-seats : goal.passes_of-requires-clause-seats
passes_of-requires-clause-seats c =
    let rows = c.loop.rows.ok.0 ∙ (sym (length-map c.loop.rows.items (λ r. r.items))
    ∙ (ap (λ (l : List (List CallerSide)). length l) c.loop.invariant.opening.filled
    ∙ rows_length (map (λ (t : TableSide). t.table) c.loop.tables.items) c.args.passes)) in
    let turn : TurnSide = record { turns = c.in_ok-turns.turns.turns; tables = c.in_ok-turns.turns.tables; held = [] } in
    let seats = c.in_ok-turns.seats.ok.0 ∙ (ap (λ (l : List TurnSide). length l) c.in_ok-turns.ensures.seats ∙ length-replicate c.args.passes turn) in
    rows ∙ sym seats

pub returns-clause-passes : goal.returns-clause-passes
returns-clause-passes c =
    let o = c.loop.invariant.opening in let ts = map (λ (t : TableSide). t.table) c.loop.tables.items in
    let turn : TurnSide = record { turns = c.in_ok-turns.turns.turns; tables = c.in_ok-turns.turns.tables; held = [] } in
    c.in_ok-all.ensures ∙ (ap₂ (λ rows seats. passes_from rows seats 0) o.filled c.in_ok-turns.ensures.seats
    ∙ passes_are ts turn _ c.args.passes (c.in_ok-turns.ensures.tables ∙ o.same) refl)
