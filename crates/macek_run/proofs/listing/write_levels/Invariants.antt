use Rattle.std.proofs.Common.{◌≡◌, ◌+◌}
use Rattle.macek_run.proofs.Begun.{HaveBegun}
use Rattle.level_driver.specs.Grown.{IsGrown, AreGrown}
use Rattle.macek_run.proofs.listing.write_levels.Given as goal

-- the levels up to this size were written, the last of them is at hand, and those that are left at hand are the next ones
abbrev pub invariant-loop-size : goal.invariant-loop-size
invariant-loop-size g l = record {
  begun : HaveBegun l.request l.size (g.K.Sink.held l.fn.sink) (g.K.Sink.held l.sink);
  level : IsGrown l.request l.size l.level;
  later : AreGrown l.request (l.size + 1) l.later;
  kept : g.K.Sink.faults l.sink ≡ g.K.Sink.faults l.fn.sink;
}
