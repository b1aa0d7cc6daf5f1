use Rattle.std.proofs.Common.{◌≡◌, ◌++◌, take}
use Rattle.level_file.specs.Grown.{form_lines}
use Rattle.level_file.proofs.levels.meet_forms.Given as goal

-- the lines of the forms so far were met
abbrev pub invariant-loop-i : goal.invariant-loop-i
invariant-loop-i l = l.rest ≡ form_lines (take l.i l.forms) ++ l.left
