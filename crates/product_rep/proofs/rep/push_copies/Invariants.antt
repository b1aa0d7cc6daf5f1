use Rattle.std.proofs.Common.{◌≡◌, ◌++◌, replicate}
use Rattle.product_rep.proofs.rep.push_copies.Given as goal

abbrev pub invariant-loop : goal.invariant-loop
invariant-loop l = l.column.items ≡ l.initial.column.items ++ replicate l.counter l.code
