use Rattle.stripe_turn.proofs.Turning.{begins_well}
use Rattle.stripe_turn.proofs.opened.made.Goals as goal

pub new-requires : goal.new-requires
new-requires c = begins_well c.args.about.now c.args.words.now c.args.slots.items c.requires.slots c.requires.width c.requires.free
