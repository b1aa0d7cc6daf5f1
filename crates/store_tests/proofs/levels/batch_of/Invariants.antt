use Rattle.std.proofs.Common.{◌≡◌, length}
use Rattle.store_tests.proofs.levels.batch_of.Given as goal

abbrev pub invariant-loop-byte : goal.invariant-loop-byte
invariant-loop-byte l = length l.keys ≡ l.byte-index
