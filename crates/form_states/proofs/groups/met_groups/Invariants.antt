use Rattle.std.proofs.Common.{◌≡◌, length, slice_index}
use Rattle.form_states.specs.Codes.{code}
use Rattle.form_states.specs.Groups.{MarksGroups}
use Rattle.form_states.proofs.groups.met_groups.Given as goal

abbrev pub invariant-loop-i : goal.invariant-loop-i
invariant-loop-i l = record {
  size : length l.met ≡ 6;
  marks : MarksGroups (slice_index l.groups) l.i (code l.column) l.met;
}
