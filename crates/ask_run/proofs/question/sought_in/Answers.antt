use Rattle.std.proofs.Common.{◌≤◌, ◌∙◌, sym, subst}
use Rattle.matroid_theory.specs.Minor.{Matroid}
use Rattle.named_matroids.specs.Names.{named_by}
use Rattle.ask_run.specs.Texts.{texts_of}
use Rattle.ask_run.proofs.Overs.{no_fault, word_rank}
use Rattle.ask_run.proofs.question.sought_in.Goals as goal
use mathlib.Core.Bool.{true≢false}

pub returns-in_default : goal.returns-in_default
returns-in_default c = λ name h e.
    no_fault (texts_of c.args.words.now) name h e c.text_at.result.now c.text_at.ensures c.named.result
    c.named.ensures.too_big c.named.ensures.unknown c.in_default.field-0 c.in_default.is

pub returns-then-not-may_be_sought : goal.returns-then-not-may_be_sought
returns-then-not-may_be_sought c = λ name h e.
    let both = word_rank (texts_of c.args.words.now) name h e c.text_at.result.now c.text_at.ensures
    (named_by c.in-Ok.item.spelling) c.in-Ok.item.matroid c.laws.ensures.small.is_minor c.in-Ok.ensures.named c.laws.ensures.given in
    let ranks = subst (λ (N : Matroid). (1 ≤ N.rank) × (N.rank ≤ 6)) (sym c.minor.ensures) both in
    true≢false (sym (c.may_be_sought.ensures.1 ranks) ∙ c.if-not-may_be_sought.true)
