use Rattle.std.proofs.Common.{◌≡◌, map}
use Rattle.std.specs.List.{range_with_len}
use Rattle.matroid_theory.specs.Rep.{column_of}
use Rattle.formats.specs.Statement.{column_word}
use Rattle.lister.proofs.form.factor_words.Given as goal

abbrev pub invariant-loop-j : goal.invariant-loop-j
invariant-loop-j l = map (λ word. word.items) l.words.items ≡ map (λ j. column_word (column_of l.rep l.factor j)) (range_with_len 0 l.j)
