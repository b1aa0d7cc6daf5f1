use Rattle.std.proofs.Common.{◌≡◌, take}
use Rattle.form_key.specs.Packing.{paired}
use Rattle.form_key.proofs.codes.pair_up.Given as goal

abbrev pub invariant-loop-at : goal.invariant-loop-at
invariant-loop-at l = l.bytes.items ≡ take l.at (paired l.codes)
