use Rattle.std.proofs.Common.{◌≡◌, length, slice_index}
use Rattle.form_states.specs.Codes.{AreColumnCodes, code}
use Rattle.form_states.proofs.GroupSteps.{AreFactorsSoFar}
use Rattle.form_states.proofs.groups.group_factors.Given as goal

abbrev pub invariant-loop-i : goal.invariant-loop-i
invariant-loop-i l = record {
  size : length l.factors ≡ 6;
  marks : length l.seen ≡ 6;
  codes : AreColumnCodes l.shape.fields l.factors;
  so_far : AreFactorsSoFar l.shape.fields l.shape.count (slice_index l.groups) l.i (code l.column) l.seen (code l.factors);
}
