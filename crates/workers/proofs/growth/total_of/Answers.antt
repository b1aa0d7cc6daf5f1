use Rattle.workers.proofs.Ended.{answers_more}
use Rattle.workers.proofs.growth.total_of.Goals as goal

pub loop-answer-preserved : goal.loop-answer-preserved
loop-answer-preserved c =
    let more = answers_more c.args.answers.now c.loop-answer.answer-index c.in_ok-total.field-0 c.loop-answer.total c.loop-answer-test.true c.in_ok-total.was
    c.loop-answer.invariant.there c.loop-answer.invariant.sum in
    record { there = more.0; sum = more.1 }
