use Rattle.std.proofs.Common.{◌≡◌, take}
use Rattle.formats.specs.Statement.{column_word}
use Rattle.lister.proofs.words.column_word.Given as goal

abbrev pub invariant-loop-code : goal.invariant-loop-code
invariant-loop-code l = l.word.items ≡ column_word (take l.code-index l.column.items)
