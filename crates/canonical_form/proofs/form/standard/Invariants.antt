use Rattle.std.proofs.Common.{◌≡◌, ◌++◌, take}
use Rattle.canonical_form.proofs.form.standard.Given as goal

-- the unit columns, and the first of the later columns
abbrev pub invariant-loop-column : goal.invariant-loop-column
invariant-loop-column l = l.form ≡ record l.initial.form { columns = l.initial.form.columns ++ take l.column-index l.columns }
