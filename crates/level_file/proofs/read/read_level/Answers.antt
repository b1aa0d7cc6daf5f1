use Rattle.std.proofs.Common.{arith}
use Rattle.level_file.proofs.Faulty.{none_whole}
use Rattle.level_file.proofs.read.read_level.Goals as goal

pub returns-then-count-eq0-clause-err : goal.returns-then-count-eq0-clause-err
returns-then-count-eq0-clause-err c =
    none_whole c.args.text.now c.in-Some.request c.in-Ok.levels (omega arith) c.in-Ok.ensures.ok (omega (arith, c.len-count.ensures, c.if-count-eq0.true))
