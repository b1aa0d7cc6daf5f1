use Rattle.std.proofs.Common.{◌≡◌, ℕ, suc, ◌+◌, ◌*◌, sym, ◌∙◌, subst, arith, length}
use Rattle.std.specs.Prelude.{string_bytes}
use Rattle.std.proofs.lemmas.List.{length-map}
use mathlib.Core.Bool.{true≢false}
use Rattle.ask_formats.proofs.Readings.{cancelled}
use Rattle.ask_run.specs.Layouts.{AreParted}
use Rattle.ask_run.specs.Texts.{texts_of}
use Rattle.ask_run.proofs.layout.layout_of.Goals as goal

pub returns-then-not-has_bars : goal.returns-then-not-has_bars
returns-then-not-has_bars c = λ columns rows _ _ _ _ read.
    let words = texts_of c.args.words.now in
    let t : length words + 2 ≡ c.args.factors * 2 + c.args.factors * suc columns = read.total in
    let u : length c.args.words.now + 2 ≡ c.args.factors * 2 + c.args.factors * suc c.in_ok-columns.columns = c.in_ok-columns.ensures.2 in
    let e : suc columns ≡ suc c.in_ok-columns.columns =
    cancelled words c.args.factors (suc columns) (suc c.in_ok-columns.columns) c.requires.some (omega (arith, length-map c.args.words.now string_bytes)) in
    let d : columns ≡ c.in_ok-columns.columns = omega arith in
    true≢false (sym (c.has_bars.ensures.1 (subst (λ (n : ℕ). AreParted words c.args.factors n) d read.between)) ∙ c.if-not-has_bars.true)
