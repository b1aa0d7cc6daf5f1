use Rattle.std.proofs.Common.{ap, sym, ◌∙◌}
use Rattle.class_store.proofs.Batching.{offered_none}
use Rattle.class_store.proofs.level.OpenLevel.offer_batch.Goals as goal

pub returns-then-len-eq0-clause-offered : goal.returns-then-len-eq0-clause-offered
returns-then-len-eq0-clause-offered g c =
    offered_none _ _ _ _ _ _ _ c.pass.invariant c.pass.view_is (ap (λ l. l.tables) c.requires.level) c.requires.stripe (sym c.len.ensures ∙ c.if-len-eq0.true)
