use Rattle.std.proofs.Common.{not, sym, arith}
use Rattle.std.proofs.lemmas.List.Sums.{position_or_len_is}
use Rattle.std.proofs.lemmas.Bool.Decides.{nat_tests}
use Rattle.formats.specs.Lines.{is_blank}
use Rattle.request_lines.proofs.cut.blank_len.Goals as goal

pub returns-clause-at : goal.returns-clause-at
returns-clause-at c = sym
    (position_or_len_is (λ b. not (is_blank b)) c.args.line.now _ 0 (omega arith) (λ k lt. c.loop-i.invariant k (omega arith))
    (λ lt. absurd (omega arith)))

pub returns-then-not-is_blank-clause-at : goal.returns-then-not-is_blank-clause-at
returns-then-not-is_blank-clause-at c =
    sym (position_or_len_is (λ b. not (is_blank b)) c.args.line.now _ 0 (omega arith) c.loop-i.invariant (λ lt. grind (arith, nat_tests)))
