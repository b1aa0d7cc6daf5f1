use Rattle.std.proofs.Common.{◌≡◌, ◌∙◌, ◌<◌, ℕ, List, [], ◌∷◌, length, take, drop, ap, sym, arith}
use Rattle.std.proofs.lemmas.List.{nil_from_length, take_all}
use Rattle.std.proofs.lemmas.Bool.Decides.{nat_tests}
use Rattle.std.specs.List.{position_or_len}
use Rattle.std.specs.Str.Lines.{strip_carriage_return}
use Rattle.formats.specs.Lines.{lines_of}
use Rattle.request_lines.proofs.Cuts.{at_end, first_line, last_line}
use Rattle.request_lines.proofs.cut.next_line.Goals as goal

pub returns-then-is_empty-clause-lines : goal.returns-then-is_empty-clause-lines
returns-then-is_empty-clause-lines c =
    let text = c.args.text.now in
    let none : length c.split_at.result.1.now ≡ 0 = grind (arith, nat_tests) in
    let whole : c.line_len-end.result ≡ length text = omega (arith, c.split_at.ensures.back_len, none) in
    let line : c.without_return.result.now ≡ strip_carriage_return text = c.without_return.ensures
    ∙ ap strip_carriage_return (c.split_at.ensures.front ∙ take_all c.line_len-end.result text (omega arith)) in
    last_line text c.requires (sym c.line_len-end.ensures.at ∙ whole) ∙ ap (λ (l : List ℕ). l ∷ []) (sym line)
    ∙ ap (λ (l : List ℕ). c.without_return.result.now ∷ lines_of l) (sym (nil_from_length _ none))

pub returns-clause-lines : goal.returns-clause-lines
returns-clause-lines c =
    let text = c.args.text.now in
    let some : 0 < length c.split_at.result.1.now = grind (arith, nat_tests) in
    let ends : position_or_len at_end text < length text = omega (arith, c.line_len-end.ensures.at, c.split_at.ensures.back_len) in
    let at : position_or_len at_end text ≡ c.line_len-end.result = sym c.line_len-end.ensures.at in
    let line : strip_carriage_return (take (position_or_len at_end text) text) ≡ c.without_return-2.result.now =
    ap (λ (k : ℕ). strip_carriage_return (take k text)) at
    ∙ sym (c.without_return-2.ensures ∙ ap strip_carriage_return c.split_at.ensures.front) in
    let rest : drop 1 (drop (position_or_len at_end text) text) ≡ c.split_at-2.result.1.now =
    ap (λ (k : ℕ). drop 1 (drop k text)) at ∙ sym (c.split_at-2.ensures.back ∙ ap (λ (l : List ℕ). drop 1 l) c.split_at.ensures.back) in
    first_line text ends ∙ ap (λ (l : List ℕ). l ∷ lines_of (drop 1 (drop (position_or_len at_end text) text))) line
    ∙ ap (λ (l : List ℕ). c.without_return-2.result.now ∷ lines_of l) rest
