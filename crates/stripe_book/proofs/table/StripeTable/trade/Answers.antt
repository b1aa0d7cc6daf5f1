use Rattle.std.proofs.Common.{rules, ap, ◌∙◌}
use Rattle.stripe_book.specs.declared.view.View.TheVariants.{Tells}
use Rattle.stripe_book.specs.Steps.{told, note_of}
use Rattle.stripe_book.proofs.Talks.{notices_at, meets_at}
use Rattle.stripe_book.proofs.table.StripeTable.trade.Goals as goal

pub load-requires : goal.load-requires
load-requires c = (
  search rules,
  search rules,
  notices_at _ _ _ _ _ (ap (λ m. m.0) c.pass_note.ensures.to ∙ ap (λ m. told m.0 (Tells (note_of c.args.caller.now.me.0))) c.requires.book),
)

pub load-requires-2 : goal.load-requires-2
load-requires-2 c = (
  search rules,
  search rules,
  meets_at _ _ _ _ _ (ap (λ m. m.0) c.pass_note-2.ensures.to
      ∙ ap (λ m. told m.0 (Tells (note_of c.load.new.seat.me.0))) (c.pass_note.ensures.from ∙ c.requires.caller)),
)
