use Rattle.std.proofs.Common.{◌≡◌, codes, map, drop, string_bytes}
use Rattle.std.specs.List.{list_any}
use Rattle.std.specs.Str.{bytes_eq}
use Rattle.command_words.proofs.command.has_dashes.Given as goal

abbrev pub invariant-loop-word : goal.invariant-loop-word
invariant-loop-word l =
    list_any (λ word. bytes_eq word (codes "--")) (map (λ s. string_bytes s) (drop l.word-index l.words))
    ≡ list_any (λ word. bytes_eq word (codes "--")) (map (λ s. string_bytes s) l.words)
