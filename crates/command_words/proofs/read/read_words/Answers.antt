use Rattle.std.proofs.Common.{map, string_bytes}
use Rattle.command_words.proofs.Readings.{macek_refused, asked_macek}
use Rattle.command_words.proofs.read.read_words.Goals as goal

pub returns-then-asked-clause-reads : goal.returns-then-asked-clause-reads
returns-then-asked-clause-reads c =
    let asked = rw c.in-Some.is at c.in_ok-asked.ensures.reads in
    macek_refused (map (λ s. string_bytes s) c.args.words.now) c.in-Some.asked.workers c.in-Some.asked.sample c.in-Some.asked.orderly c.if-asked.true asked

pub returns-clause-reads : goal.returns-clause-reads
returns-clause-reads c =
    let asked = rw c.in-Some.is at c.in_ok-asked.ensures.reads in
    asked_macek (map (λ s. string_bytes s) c.args.words.now) c.in-Some.asked.workers c.in-Some.asked.sample c.in-Some.asked.orderly c.if-asked.false asked
