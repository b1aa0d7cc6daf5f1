use Rattle.std.proofs.Common.{◌-◌, sym, ◌∙◌, take, drop, length}
use mathlib.Core.Bool.{true≢false}
use Rattle.ask_run.specs.Texts.{texts_of}
use Rattle.ask_run.proofs.Answered.{texts_behind, asked_is_small}
use Rattle.ask_run.proofs.question.dual_asked.Goals as goal

pub returns-then-not-has_small_dual : goal.returns-then-not-has_small_dual
returns-then-not-has_small_dual c = λ M asks.
    let words = c.args.words.now in
    let small = asked_is_small (texts_of words) (texts_of (take (length words - 1) (drop 1 words))) M c.in_ok-rep.rep
    (texts_behind 1 words) c.in_ok-rep.ensures.0 c.in_ok-rep.ensures.1 asks in
    true≢false (sym (c.has_small_dual.ensures.1 small) ∙ c.if-not-has_small_dual.true)
