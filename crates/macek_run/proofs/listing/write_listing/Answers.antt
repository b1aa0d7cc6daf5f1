use Rattle.std.proofs.Common.{arith}
use Rattle.macek_run.proofs.Begun.{none_begun}
use Rattle.macek_run.proofs.listing.write_listing.Goals as goal

pub returns-in_default-clause-no_memory : goal.returns-in_default-clause-no_memory
returns-in_default-clause-no_memory g c = λ same. none_begun c.args.request.now (g.K.Sink.held c.args.sink.now) (g.K.Sink.held c.args.sink.now)
    (omega (arith, c.laws.ensures.limits.size))
