use Rattle.std.proofs.Common.{◌+◌, take, arith, replicate}
use Rattle.stripe_book.proofs.Ending.{opens, zeros, zeros_length}
use Rattle.stripe_book.proofs.ends.open_stripe.Goals as goal

pub of_words-requires : goal.of_words-requires
of_words-requires c = opens c.args.callers (take (c.args.callers + 1) (replicate 65 0))
    (zeros_length (c.args.callers + 1) 65 (let few = c.requires.few in omega arith)) (zeros (c.args.callers + 1) 65)
