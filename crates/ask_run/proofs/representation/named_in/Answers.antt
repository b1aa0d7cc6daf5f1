use Rattle.std.proofs.Common.{sym, ◌∙◌}
use mathlib.Core.Bool.{true≢false}
use Rattle.ask_run.specs.Texts.{texts_of}
use Rattle.ask_run.proofs.Found.{named_alone}
use Rattle.ask_run.proofs.representation.named_in.Goals as goal

pub returns-then-not-may_be_named : goal.returns-then-not-may_be_named
returns-then-not-may_be_named c = λ M may e.
    let both = named_alone (texts_of c.args.words.now) M c.in_ok-rep.rep c.in_ok-rep.ensures.0 c.in_ok-rep.ensures.1 may e in
    true≢false (sym (c.may_be_named.ensures.1 both) ∙ c.if-not-may_be_named.true)
