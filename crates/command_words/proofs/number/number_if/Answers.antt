use Rattle.std.proofs.Common.{refl}
use Rattle.command_words.proofs.number.number_if.Goals as goal

pub returns-in-None-number_in : goal.returns-in-None-number_in
returns-in-None-number_in c = (c.in-Some.text.now, rw c.in-Some.is refl, c.in-None-number_in.ensures)
