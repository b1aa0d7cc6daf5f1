use Rattle.std.proofs.Common.{ℕ, ◌<◌, take}
use Rattle.formats.specs.Request.{Request}
use Rattle.resume_formats.specs.Heads.{IsHeadOf}
use Rattle.level_file.proofs.head.read_head.Given as goal

-- no head ends before this place
abbrev pub invariant-loop-end : goal.invariant-loop-end
invariant-loop-end l = (k : ℕ) → k < l.end → (q : Request) → ¬ (IsHeadOf q (take k l.text))
