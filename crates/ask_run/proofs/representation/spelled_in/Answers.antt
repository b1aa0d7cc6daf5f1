use Rattle.std.proofs.Common.{◌∙◌}
use Rattle.matroid_theory.specs.Rep.{size}
use Rattle.ask_run.specs.Texts.{texts_of}
use Rattle.ask_run.proofs.Found.{factors_read, layout_read, no_lack, matrices_spelled}
use Rattle.ask_run.proofs.representation.spelled_in.Goals as goal

pub returns-in_err-factors : goal.returns-in_err-factors
returns-in_err-factors c = rw c.from_residual.ensures (λ M can e.
    c.in_err-factors.ensures M.factors can.limits.fields (factors_read (texts_of c.args.words.now) M can e))

pub returns-in_err-layout : goal.returns-in_err-layout
returns-in_err-layout c = rw c.from_residual-in_err-layout.ensures (λ M can e.
    c.in_err-layout.ensures (size M) M.rank can.some can.limits.size_most can.limits.rank_positive can.limits.rank_most
    (layout_read (texts_of c.args.words.now) M can e c.in_ok-factors.factors c.in_ok-factors.ensures c.count.ensures.are_factors
    c.count.result c.count.ensures.count))

pub returns-in_err-rep : goal.returns-in_err-rep
returns-in_err-rep c = rw c.from_residual-in_err-rep.ensures (λ M can e.
    let (j, l, lack) = c.in_err-rep.ensures in
    no_lack (texts_of c.args.words.now) M can e c.in_ok-factors.factors c.in_ok-factors.ensures c.count.ensures.are_factors
    c.in_ok-layout.layout c.in_ok-layout.ensures.0
    (c.in_ok-layout.ensures.1 ∙ c.count.ensures.count) j l lack)

pub returns : goal.returns
returns c =
    matrices_spelled (texts_of c.args.words.now) c.in_ok-factors.factors c.in_ok-layout.layout c.in_ok-rep.rep c.laws.ensures c.in_ok-factors.ensures
    c.in_ok-layout.ensures.0 (c.in_ok-layout.ensures.1 ∙ c.count.ensures.count) c.in_ok-rep.ensures
