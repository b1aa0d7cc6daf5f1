use Rattle.std.proofs.Common.{◌≡◌, ◌∙◌, ℕ, List, length, ◌∷◌, [], ◌++◌, ap, arith, map, codes}
use Rattle.std.specs.List.{range_with_len}
use Rattle.matroid_theory.specs.Rep.{count}
use Rattle.formats.specs.Lines.{joined}
use Rattle.formats.specs.Listing.{factor_text, form_text}
use Rattle.formats.specs.Levels.{columns_of_factor}
use Rattle.lister.proofs.Forms.{factors_more, factors_all}
use Rattle.lister.proofs.form.form_text.Goals as goal

pub loop-factor-preserved : goal.loop-factor-preserved
loop-factor-preserved c = record {
  so_far = factors_more (codes " | ") (λ f. factor_text (columns_of_factor c.args.rep.now f)) c.loop-factor.factor
      c.loop-factor.line.items c.push_factor.new.line.items c.loop-factor.invariant.so_far c.push_factor.ensures.first
      c.push_factor.ensures.later;
  room = c.push_factor.ensures.room;
}

pub returns : goal.returns
unfolding form_text
returns c =
    let end_is : c.count-factor-end.result ≡ count c.args.rep.now = c.count-factor-end.ensures.count ∙ ap length c.factors-factors.ensures in
    let all : c.loop-factor.factor ≡ count c.args.rep.now = omega arith in
    c.push.ensures.items
    ∙ ap (λ (l : List ℕ). l ++ 10 ∷ [])
    (c.loop-factor.invariant.so_far
    ∙ ap (λ n. joined (codes " | ") (map (λ f. factor_text (columns_of_factor c.args.rep.now f)) (range_with_len 0 n))) all
    ∙ factors_all c.args.rep.now (codes " | "))
