use Rattle.std.proofs.Common.{ap, ◌∙◌, ◌+◌, arith}
use Rattle.atomic_table.specs.Table.{turned}
use Rattle.stripe_turn.proofs.Held.{turned_by-more}
use Rattle.stripe_turn.proofs.turns.turn_by.Goals as goal

pub loop-preserved : goal.loop-preserved
loop-preserved c = (
  c.turn.ensures.0 ∙ c.loop.invariant.0,
  c.turn.ensures.2
      ∙ (ap (λ m. (m.0, turned m.1)) c.loop.invariant.1
      ∙ ap (λ l. (c.args.seat.now.me.0, l)) (turned_by-more c.loop.counter (c.loop.counter + 1) c.args.seat.now.me.1 (omega arith))),
)
