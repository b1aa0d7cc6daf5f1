use Rattle.std.proofs.Common.{ap, ◌∙◌, sym, subst, ◌≤◌, length, ℕ, arith}
use Rattle.stripe_turn.proofs.Turning.{splits_well}
use Rattle.stripe_turn.proofs.turn.Turns.another.Goals as goal

pub split_seat-seat-requires : goal.split_seat-seat-requires
split_seat-seat-requires c =
    let table = ap (λ v. v.turns) c.turn.view_is ∙ (c.requires.table ∙ ap (λ v. v.turns) (sym c.self.view_is)) in
    let some : 1 ≤ c.self.inside.table.shared.table_id.words = subst (λ (n : ℕ). 1 ≤ n) (sym c.self.invariant.0)
    (subst (λ v. 1 ≤ length v.tables) (sym c.self.view_is) c.requires.some) in
    (table, omega arith, splits_well c.self.inside.table.shared.key _ _)
