use Rattle.std.proofs.Common.{◌≡◌, ◌∙◌, ◌<◌, ℕ, List, [], ◌∷◌, not, length, take, drop, ap, sym, arith}
use Rattle.std.proofs.lemmas.List.{nil_from_length}
use Rattle.std.proofs.lemmas.Bool.Decides.{nat_tests}
use Rattle.std.specs.List.{position_or_len}
use Rattle.formats.specs.Lines.{words_of, is_blank}
use Rattle.request_lines.proofs.Cuts.{skip_blanks, first_word, front_shown}
use Rattle.request_lines.proofs.cut.next_word.Goals as goal

pub returns-then-is_empty : goal.returns-then-is_empty
returns-then-is_empty c =
    let line = c.args.line.now in
    let none : length c.split_at.result.1.now ≡ 0 = grind (arith, nat_tests) in
    let left : drop (position_or_len (λ b. not (is_blank b)) line) line ≡ [] =
    ap (λ (k : ℕ). drop k line) (sym c.blank_len.ensures.at) ∙ sym c.split_at.ensures.back ∙ nil_from_length _ none in
    record { words = skip_blanks line ∙ ap words_of left }

pub returns : goal.returns
returns c =
    let line = c.args.line.now in
    let rest = c.split_at.result.1.now in
    let some : 0 < length rest = grind (arith, nat_tests) in
    let left : drop (position_or_len (λ b. not (is_blank b)) line) line ≡ rest =
    ap (λ (k : ℕ). drop k line) (sym c.blank_len.ensures.at) ∙ sym c.split_at.ensures.back in
    let shown : position_or_len (λ b. not (is_blank b)) rest ≡ 0 = ap (position_or_len (λ b. not (is_blank b))) (sym left) ∙ front_shown line in
    let word : take (position_or_len is_blank rest) rest ≡ c.split_at-2.result.0.now =
    ap (λ (k : ℕ). take k rest) (sym c.word_len.ensures.at) ∙ sym c.split_at-2.ensures.front in
    let after : drop (position_or_len is_blank rest) rest ≡ c.split_at-2.result.1.now =
    ap (λ (k : ℕ). drop k rest) (sym c.word_len.ensures.at) ∙ sym c.split_at-2.ensures.back in
    record {
      words = skip_blanks line ∙ ap words_of left ∙ first_word rest some shown
          ∙ ap (λ (l : List ℕ). l ∷ words_of (drop (position_or_len is_blank rest) rest)) word
          ∙ ap (λ (l : List ℕ). c.split_at-2.result.0.now ∷ words_of l) after;
    }
