use Rattle.std.proofs.Common.{◌∙◌, Err, ap}
use Rattle.named_matroids.specs.Names.{NamesTooBig}
use Rattle.formats.specs.Statement.{Uniform}
use Rattle.request_lines.proofs.line.name_of.Goals as goal

pub returns-in-Err-TooBig : goal.returns-in-Err-TooBig
returns-in-Err-TooBig c =
    let big : NamesTooBig c.args.word.now = c.named.ensures.too_big.0 (c.in-Err-TooBig.is ∙ ap Err c.in-Err-TooBig.field-0-is) in
    (Uniform big.0 big.1, big.2, big.4, big.3)
