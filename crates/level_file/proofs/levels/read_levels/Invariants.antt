use Rattle.std.proofs.Common.{◌≡◌, ◌+◌, length}
use Rattle.level_file.proofs.TextLevels.{HaveRead}
use Rattle.level_file.proofs.levels.read_levels.Given as goal

-- the levels below this size were read
abbrev pub invariant-loop-size : goal.invariant-loop-size
invariant-loop-size l = record {
  read : HaveRead l.request l.text l.levels l.rest;
  next : l.size ≡ l.request.rank + length l.levels;
}
