use Rattle.std.proofs.Common.{length}
use Rattle.request_lines.specs.Versions.{version_number}
use Rattle.request_reader.proofs.LinesRead.{HasRead}
use Rattle.request_reader.proofs.read.read_values.Given as goal

abbrev pub invariant-loop-rest : goal.invariant-loop-rest
invariant-loop-rest l = HasRead (version_number l.version) l.text l.values l.number l.rest

abbrev pub decreases-loop-rest : goal.decreases-loop-rest
decreases-loop-rest l = length l.rest
