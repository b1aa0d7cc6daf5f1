use Rattle.std.proofs.Common.{take}
use Rattle.std.specs.List.{AllZip}
use Rattle.form_key.specs.Packing.{IsPackedAs}
use Rattle.workers.proofs.forms.forms_of.Given as goal

-- the keys so far were unpacked
abbrev pub invariant-loop-i : goal.invariant-loop-i
invariant-loop-i l = AllZip (λ M key. IsPackedAs (record { factors = l.factors; rank = l.rank; size = l.size }) key M) l.forms (take l.i l.keys)
