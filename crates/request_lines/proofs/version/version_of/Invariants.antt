use Rattle.std.proofs.Common.{◌≡◌, length}
use Rattle.formats.specs.Request.{version_of}
use Rattle.request_lines.proofs.version.version_of.Given as goal

abbrev pub invariant-loop-rest : goal.invariant-loop-rest
invariant-loop-rest l = version_of l.text ≡ version_of l.rest

abbrev pub decreases-loop-rest : goal.decreases-loop-rest
decreases-loop-rest l = length l.rest
