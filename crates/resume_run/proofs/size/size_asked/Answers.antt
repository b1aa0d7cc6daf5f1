use Rattle.std.proofs.Common.{arith}
use Rattle.macek_run.specs.Run.{texts_of}
use Rattle.resume_run.proofs.Runs.{spelled, not_asked}
use Rattle.resume_run.proofs.size.size_asked.Goals as goal

pub returns-then-size-lt1 : goal.returns-then-size-lt1
returns-then-size-lt1 c = λ size.
    not_asked (texts_of c.args.words.now) c.in_ok-size.size size
    (spelled c.args.words.now c.word-item.result c.as_bytes.result.now c.in_ok-size.size (omega arith) c.word-item.is c.as_bytes.ensures.value
    c.in_ok-size.ensures.1)
    c.in_ok-size.ensures.0 c.then-size-lt1.either
