use Rattle.std.proofs.Common.{map, string_bytes, subst}
use Rattle.command_words.specs.Asking.{IsAsked, StandsAtEither}
use Rattle.command_words.proofs.Readings.{alone_refused, asked_alone}
use Rattle.command_words.proofs.read.read_alone.Goals as goal

pub returns-in-Some-workers-clause-reads : goal.returns-in-Some-workers-clause-reads
returns-in-Some-workers-clause-reads c =
    let asked = rw c.in-Some.is at c.in_ok-asked.ensures.reads in
    let words = map (λ s. string_bytes s) c.args.words.now in
    alone_refused words c.in-Some-workers.field-0 c.in-Some.asked.sample c.in-Some.asked.orderly
    (subst (λ o. IsAsked StandsAtEither words o c.in-Some.asked.sample c.in-Some.asked.orderly) c.in-Some-workers.is asked)

pub returns-in-None-clause-reads : goal.returns-in-None-clause-reads
returns-in-None-clause-reads c =
    let asked = rw c.in-Some.is at c.in_ok-asked.ensures.reads in
    let words = map (λ s. string_bytes s) c.args.words.now in
    asked_alone words c.in-Some.asked.sample c.in-Some.asked.orderly
    (subst (λ o. IsAsked StandsAtEither words o c.in-Some.asked.sample c.in-Some.asked.orderly) c.in-None.is asked)
