use Rattle.std.proofs.Common.{map}
use Rattle.request_reader.specs.Filters.{wanted_matroid}
use Rattle.request_reader.proofs.request.Request.laws.Goals as goal

pub returns-clause-forbidden : goal.returns-clause-forbidden
returns-clause-forbidden c = rw (← c.self.view_is) (map (λ item. item.matroid) c.self.inside.forbid.items, c.self.invariant.given)

pub returns-clause-wanted : goal.returns-clause-wanted
returns-clause-wanted c = rw (← c.self.view_is) (wanted_matroid c.self.inside.filters, c.self.invariant.wanted)
