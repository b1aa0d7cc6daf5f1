use Rattle.std.proofs.Common.{◌≡◌, ◌+◌, ◌*◌, ◌≤◌, ◌++◌, length, map}
use Rattle.std.specs.List.{join_with_byte}
use Rattle.lister.proofs.words.push_words.Given as goal

abbrev pub invariant-loop-rest : goal.invariant-loop-rest
invariant-loop-rest l = record {
  so_far : l.line.items ++ join_with_byte 32 (map (λ w. w.items) l.rest) ≡ l.initial.line.items ++ join_with_byte 32 (map (λ w. w.items) l.words);
  room : length l.line.items + 7 * length l.rest ≤ length l.initial.line.items + 7 * length l.words;
}

abbrev pub decreases-loop-rest : goal.decreases-loop-rest
decreases-loop-rest l = length l.rest
