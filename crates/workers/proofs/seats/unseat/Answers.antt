use Rattle.std.proofs.Common.{arith}
use Rattle.workers.proofs.Ended.{room_left}
use Rattle.workers.proofs.seats.unseat.Goals as goal

pub push-requires : goal.push-requires
push-requires c =
    let l = room_left c.loop-worker.answers.items c.loop-worker.worker-iterator.rest.items _ c.args.workers.items c.in-Some.worker
    c.loop-worker.invariant.answers c.in-Some.ensures.steps.0 (let f = c.requires.few in let o = c.args.workers.ok.0 in omega arith) in
    (omega arith, omega arith)
