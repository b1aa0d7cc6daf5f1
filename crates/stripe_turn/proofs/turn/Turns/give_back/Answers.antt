use Rattle.std.proofs.Common.{rules, sym, subst, ◌<◌, length}
use Rattle.stripe_turn.proofs.Turning.{gives_at}
use Rattle.stripe_turn.proofs.turn.Turns.give_back.Goals as goal

pub store-requires : goal.store-requires
store-requires c =
    let at = subst (λ v. c.args.at < length v.tables) (sym c.self.view_is) c.requires.at in (
      search rules,
      subst (λ n. c.args.at < n) (sym c.self.invariant.0) at,
      gives_at c.self.inside.table.shared.key _ _ _ _ _ c.args.stripe _ c.exchange-out.ensures.3 at c.requires.book,
    )
