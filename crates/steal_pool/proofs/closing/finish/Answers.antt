use Rattle.std.proofs.Common.{◌≡◌, ◌∙◌, ap}
use Rattle.steal_pool.specs.Pool.{pool_parents}
use Rattle.steal_pool.proofs.TakenOnce.{when_back, rows_round, places_parts, all_proper, all_whole}
use Rattle.steal_pool.proofs.closing.finish.Goals as goal

pub settle-requires-clause-rows : goal.settle-requires-clause-rows
settle-requires-clause-rows c = rows_round _ _ _ _ _ c.requires (c.as_mut_slice.ensures.value ∙ c.apart-owners.ensures.owners) c.apart-owners.ensures.rows

pub settle-requires-clause-parts : goal.settle-requires-clause-parts
settle-requires-clause-parts c = places_parts _ _ (c.as_mut_slice.ensures.value ∙ c.apart-owners.ensures.owners)

pub returns-clause-proper : goal.returns-clause-proper
returns-clause-proper c =
    let back = when_back _ _ _ _ _ _ c.requires (c.as_mut_slice.ensures.value
    ∙ c.apart-owners.ensures.owners) c.apart-owners.ensures.rows c.settle.ensures.back c.settle.ensures.learned in
    let parents : c.parents_of-parents.result ≡ pool_parents c.args.shifts.items = c.parents_of-parents.ensures ∙ ap pool_parents c.deref.ensures.value in
    rw (parents, c.of-lists.ensures) (all_proper _ _ _ _ back)

pub returns-clause-whole : goal.returns-clause-whole
returns-clause-whole c =
    let back = when_back _ _ _ _ _ _ c.requires (c.as_mut_slice.ensures.value
    ∙ c.apart-owners.ensures.owners) c.apart-owners.ensures.rows c.settle.ensures.back c.settle.ensures.learned in
    let parents : c.parents_of-parents.result ≡ pool_parents c.args.shifts.items = c.parents_of-parents.ensures ∙ ap pool_parents c.deref.ensures.value in
    rw (parents, c.of-lists.ensures) (λ ended. all_whole _ _ _ _ back ended)
