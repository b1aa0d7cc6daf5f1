use Rattle.steal_pool.proofs.Empty.{visited_grow, ended_from, ended_as}
use Rattle.steal_pool.proofs.shift.Shift.next.Goals as goal

pub returns-clause-empty : goal.returns-clause-empty
returns-clause-empty g c = visited_grow _ _ _ _ c.next_number.ensures.done

pub returns-clause-ended : goal.returns-clause-ended
returns-clause-ended g c =
    ended_as c.next_number.result (ended_from _ _ _ c.next_number.result c.next_number.ensures.shift.own c.next_number.ensures.left)
    (λ all. record { every = all }) (λ ended. ended.every)
