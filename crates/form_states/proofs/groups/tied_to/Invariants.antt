use Rattle.std.proofs.Common.{◌≡◌, ◌<◌, ◌≤◌, ℕ, false, cond, length, slice_index, slice_index_or}
use Rattle.form_states.specs.States.{AreGroups}
use Rattle.form_states.proofs.groups.tied_to.Given as goal

abbrev pub invariant-loop-i : goal.invariant-loop-i
invariant-loop-i l = record {
  size : length l.tied ≡ 6;
  groups : AreGroups l.tied;
  before : (j : ℕ) → j < l.i → slice_index l.tied j ≡ cond (slice_index_or l.met (slice_index l.groups j) false) l.group (slice_index l.groups j);
  after : (j : ℕ) → l.i ≤ j → slice_index l.tied j ≡ slice_index l.groups j;
}
