use Rattle.std.proofs.Common.{map}
use Rattle.std.specs.List.{AllZip}
use Rattle.std.specs.Map.Iter.{deref}
use Rattle.form_key.specs.Packing.{IsPackedAs}
use Rattle.level_driver.proofs.found.Found.to_list.Given as goal

-- the keys so far were unpacked
abbrev pub invariant-loop-key : goal.invariant-loop-key
invariant-loop-key l =
    AllZip (λ M key. IsPackedAs (record { factors = l.factors; rank = l.rank; size = l.size }) key M) l.forms (map deref l.yielded)
