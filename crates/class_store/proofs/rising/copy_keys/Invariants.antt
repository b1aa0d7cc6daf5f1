use Rattle.std.proofs.Common.{◌≡◌, ◌++◌, take}
use Rattle.class_store.proofs.rising.copy_keys.Given as goal

abbrev pub invariant-loop-i : goal.invariant-loop-i
invariant-loop-i l = l.keys.items ≡ l.initial.keys.items ++ take l.i l.set.keys
