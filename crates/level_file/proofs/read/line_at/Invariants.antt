use Rattle.std.proofs.Common.{◌≡◌, ◌+◌, ◌≤◌, take}
use Rattle.resume_formats.specs.Fronts.{line_ends}
use Rattle.level_file.proofs.read.line_at.Given as goal

-- the line ends so far were counted
abbrev pub invariant-loop-i : goal.invariant-loop-i
invariant-loop-i l = record {
  counted : l.line ≡ line_ends (take l.i l.text) + 1;
  few : l.line ≤ l.i + 1;
}
