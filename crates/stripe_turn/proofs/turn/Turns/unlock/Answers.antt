use Rattle.std.proofs.Common.{◌≡◌, ◌<◌, ◌-◌, ◌∷◌, ap, sym, ◌∙◌, subst, length, slice_index, ℕ, None, remove}
use Rattle.atomic_table.specs.Table.{rest}
use Rattle.stripe_turn.specs.Rule.{tables_of}
use Rattle.stripe_turn.specs.Seen.{IsTurn, TurnSide, turned_by, without}
use Rattle.stripe_turn.proofs.Held.{to_front, to_back, turn_less, without_at}
use Rattle.stripe_turn.proofs.turn.Turns.unlock.Goals as goal

pub give_back-requires-clause-held : goal.give_back-requires-clause-held
give_back-requires-clause-held c =
    let held = c.turn.inside.held.items in let place = c.place_of-place.result in
    let below = subst (λ l. place < length l) c.as_slice.ensures.value c.place_of-place.ensures.within in
    let here = subst (λ l. slice_index l place ≡ c.args.at) c.as_slice.ensures.value c.place_of-place.ensures.here in
    let front = to_front held place c.args.at _ c.turn_by.new.seat.me.1 c.turn.invariant.slots below here (ap (λ m. m.1) c.turn_by.ensures.held) in
    front ∙ sym (ap (λ l. (c.args.at, None) ∷ rest l) front)

pub invariant_of-turn : goal.invariant_of-turn
invariant_of-turn c =
    let held = c.turn.inside.held.items in let place = c.place_of-place.result in
    let below = subst (λ l. place < length l) c.as_slice.ensures.value c.place_of-place.ensures.within in
    let here = subst (λ l. slice_index l place ≡ c.args.at) c.as_slice.ensures.value c.place_of-place.ensures.here in
    let front = to_front held place c.args.at _ c.turn_by.new.seat.me.1 c.turn.invariant.slots below here (ap (λ m. m.1) c.turn_by.ensures.held) in
    let back = to_back held place (c.len.result - 1 - place) (ap (λ (n : ℕ). n - 1 - place) c.len.ensures.value) in
    let slots = ap (λ m. m.1) c.turn_by-2.ensures.held
    ∙ (ap (λ m. turned_by (c.len.result - 1 - place) m.1) c.give_back.ensures.held
    ∙ (ap (λ l. turned_by (c.len.result - 1 - place) (rest l)) front ∙ back)) in
    let tables = c.turn_by-2.ensures.table ∙ (c.give_back.ensures.table ∙ c.turn_by.ensures.table) in
    subst (λ l. IsTurn l c.turn_by-2.new.seat.table_id.words c.turn_by-2.new.seat.me) (sym c.remove.ensures.items)
    (subst (λ t. IsTurn (remove held place) t.words c.turn_by-2.new.seat.me) (sym tables)
    (turn_less held place c.args.at _ c.turn.inside.seat.me _ c.turn.invariant below here slots))

pub returns : goal.returns
returns c =
    let held = c.turn.inside.held.items in let place = c.place_of-place.result in
    let below = subst (λ l. place < length l) c.as_slice.ensures.value c.place_of-place.ensures.within in
    let here = subst (λ l. slice_index l place ≡ c.args.at) c.as_slice.ensures.value c.place_of-place.ensures.here in
    let tables = c.turn_by-2.ensures.table ∙ (c.give_back.ensures.table ∙ c.turn_by.ensures.table) in
    let views = ap (λ m. m.0) c.turn_by-2.ensures.held ∙ (ap (λ m. m.0) c.give_back.ensures.held ∙ ap (λ m. m.0) c.turn_by.ensures.held) in
    let left = c.remove.ensures.items ∙ without_at held place c.args.at c.turn.invariant.apart below here in
    (λ i. record { turns = tables i; tables = tables_of (views i); held = left i })
    ∙ ap (λ (v : TurnSide). record v { held = without c.args.at v.held }) c.turn.view_is
