use Rattle.std.proofs.Common.{◌≡◌, ◌+◌, ◌*◌, ◌≤◌, ◌∷◌, length, map, take}
use Rattle.std.specs.Prelude.{codes, decimal}
use Rattle.std.specs.List.{join_with_byte}
use Rattle.small_lists.specs.Lists.{lists}
use Rattle.formats.specs.Statement.{column_word}
use Rattle.lister.proofs.name.matrix_words.Given as goal

abbrev pub invariant-loop-column : goal.invariant-loop-column
invariant-loop-column l = record {
  so_far : l.line.items ≡ join_with_byte 32 (codes "matrix" ∷ decimal l.text.order ∷ map column_word (lists (take l.column-index l.column-items)));
  room : length l.line.items ≤ 10 + 7 * l.column-index;
}
