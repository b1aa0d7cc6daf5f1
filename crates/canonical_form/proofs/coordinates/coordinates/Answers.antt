use Rattle.std.proofs.Common.{◌≡◌, ◌<◌, ◌≤◌, ◌+◌, ◌*◌, ℕ, List, length, slice_index, sym, ◌∙◌, ap, subst, arith}
use Rattle.arrayvec.specs.ArrayVec.{ArrayVec}
use Rattle.matroid_theory.specs.Rep.{count}
use Rattle.elimination.specs.Columns.{column}
use Rattle.canonical_form.proofs.Picks.{coordinates_are}
use Rattle.canonical_form.proofs.Places.{count_at}
use Rattle.canonical_form.proofs.coordinates.coordinates.Goals as goal

pub returns : goal.returns
returns c =
    let n : c.count-factor-end.result ≡ count c.args.rep.now =
    count_at c.args.rep.now c.factors.result c.count-factor-end.result c.factors.ensures c.count-factor-end.ensures.count in
    let g : c.count-factor-end.result ≤ c.loop-factor.factor = c.loop-factor-test.false in
    let m : c.loop-factor.factor ≤ c.count-factor-end.result = c.loop-factor.auto.factor-end in
    let e : c.loop-factor.factor ≡ count c.args.rep.now = omega arith in
    let v : c.as_slice.result.now ≡ c.loop-factor.by_factor.items = c.as_slice.ensures.value in
    let w : length c.as_slice.result.now ≡ count c.args.rep.now = ap (λ (w : List (ArrayVec ℕ)). length w) v ∙ c.loop-factor.invariant.count ∙ e in
    coordinates_are c.args.rep.now c.args.basis.now c.args.k c.loop-factor.by_factor.items c.interleaved.result.items c.requires.is_rep
    (λ f l. c.loop-factor.invariant.codes f (omega arith)) (λ f l. c.loop-factor.invariant.combined f (omega arith))
    (c.interleaved.ensures.rows ∙ (λ u. c.rank.ensures u * w u))
    (λ i f l m.
    ap (λ (x : ℕ). slice_index c.interleaved.result.items (i * x + f)) (sym w)
    ∙ c.interleaved.ensures.codes i f (subst (λ (r : ℕ). i < r) (sym c.rank.ensures) l) (subst (λ (x : ℕ). f < x) (sym w) m)
    ∙ ap (λ (w : List (ArrayVec ℕ)). slice_index (column w f) i) v)
