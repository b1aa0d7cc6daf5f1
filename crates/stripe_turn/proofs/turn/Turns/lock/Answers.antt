use Rattle.std.proofs.Common.{◌<◌, ◌≤◌, ◌∷◌, ap, sym, ◌∙◌, subst, length, ℕ, arith, Contains}
use Rattle.stripe_turn.specs.Seen.{IsTurn}
use Rattle.stripe_turn.proofs.Held.{few_held, turn_more}
use Rattle.stripe_turn.proofs.turn.Turns.lock.Goals as goal

pub insert-requires : goal.insert-requires
insert-requires g c =
    let of = ap (λ v. v.turns) c.turn.view_is ∙ (c.requires.table ∙ sym (ap (λ v. v.turns) c.self.view_is)) in
    let at = subst (λ (n : ℕ). c.args.at < n) (ap (λ v. length v.tables) (sym c.self.view_is)
    ∙ (sym c.self.invariant.0 ∙ ap (λ t. t.words) (sym of))) c.requires.at in
    let free = subst (λ v. ¬ (Contains v.held c.args.at)) (sym c.turn.view_is) c.requires.free in
    let few : length c.turn.inside.held.items < c.turn.inside.seat.table_id.words = few_held _ _ _ c.turn.invariant.apart c.turn.invariant.within free at in
    let most : c.turn.inside.seat.table_id.words ≤ 64 = subst (λ t. t.words ≤ 64) (sym of) c.self.invariant.1 in
    let room : length c.turn.inside.held.items < 64 = omega arith in
    (omega arith, (omega arith, room))

pub invariant_of-turn : goal.invariant_of-turn
invariant_of-turn g c =
    let of = ap (λ v. v.turns) c.turn.view_is ∙ (c.requires.table ∙ sym (ap (λ v. v.turns) c.self.view_is)) in
    let at = subst (λ (n : ℕ). c.args.at < n) (ap (λ v. length v.tables) (sym c.self.view_is)
    ∙ (sym c.self.invariant.0 ∙ ap (λ t. t.words) (sym of))) c.requires.at in
    let free = subst (λ v. ¬ (Contains v.held c.args.at)) (sym c.turn.view_is) c.requires.free in
    let next = c.wait_for-stripe.new.seat in
    subst (λ held. IsTurn held next.table_id.words next.me) (sym c.insert.ensures.items)
    (subst (λ t. IsTurn (c.args.at ∷ c.turn.inside.held.items) t.words next.me) (sym c.wait_for-stripe.ensures.table)
    (turn_more _ _ _ _ _ c.turn.invariant free at c.wait_for-stripe.ensures.held))
