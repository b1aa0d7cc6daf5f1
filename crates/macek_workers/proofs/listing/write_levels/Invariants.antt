use Rattle.std.proofs.Common.{◌≡◌, length}
use Rattle.level_driver.specs.Grown.{IsLevelOf}
use Rattle.macek_run.proofs.Begun.{HaveBegun}
use Rattle.macek_workers.specs.Stored.{HasCallsBelow, HasClosed}
use Rattle.macek_workers.proofs.listing.write_levels.Given as goal

-- the levels up to this size were written, and the last of them is at hand and was the last one grown through the store
abbrev pub invariant-loop-size : goal.invariant-loop-size
invariant-loop-size g l = record {
  begun : HaveBegun l.request l.size (g.K.Sink.held l.fn.sink) (g.K.Sink.held l.sink);
  level : IsLevelOf l.request l.size l.level.forms;
  kept : g.K.Sink.faults l.sink ≡ g.K.Sink.faults l.fn.sink;
  closed : HasClosed l.request l.size l.fn.store l.store;
  callers : HasCallsBelow l.workers l.fn.store l.store;
  stripes : l.store.stripes ≡ l.fn.store.stripes;
  width : length l.fn.store.last ≡ l.fn.store.stripes → length l.store.last ≡ l.store.stripes;
}
