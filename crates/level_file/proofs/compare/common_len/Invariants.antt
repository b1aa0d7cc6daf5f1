use Rattle.std.proofs.Common.{◌≡◌, take}
use Rattle.level_file.proofs.compare.common_len.Given as goal

-- so many bytes are the same
abbrev pub invariant-loop-i : goal.invariant-loop-i
invariant-loop-i l = take l.i l.a ≡ take l.i l.b
