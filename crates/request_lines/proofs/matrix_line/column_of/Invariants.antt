use Rattle.std.proofs.Common.{◌≡◌, ◌<◌, ◌≤◌, length, take}
use Rattle.std.specs.List.{AllByRecursion}
use Rattle.formats.specs.Statement.{column_word}
use Rattle.request_lines.proofs.matrix_line.column_of.Given as goal

abbrev pub invariant-loop-letter : goal.invariant-loop-letter
invariant-loop-letter l =
    record {
      below : AllByRecursion (λ code. code < l.order) l.column.items;
      long : length l.column.items ≡ l.letter-index;
      few : length l.word ≤ 6;
      some : 0 < length l.word;
      spelled : take l.letter-index l.word ≡ column_word l.column.items;
    }
