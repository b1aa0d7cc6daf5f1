use Rattle.std.proofs.Common.{◌≡◌, ℕ, ◌-◌, ◌*◌, ◌<◌, ◌≤◌, ◌∙◌, ap, subst, arith, List, length, slice_index, ◌/◌, ◌%◌}
use Rattle.matroid_theory.specs.Rep.{size, count}
use Rattle.dual_theory.specs.Dual.{dual_matrix}
use Rattle.dual_form.proofs.Columns.{code-at}
use Rattle.dual_form.proofs.dual.dual_column.Goals as goal

pub returns-clause-codes : goal.returns-clause-codes
returns-clause-codes c =
    let M = c.args.rep.now in
    let n : c.count-count.result ≡ count M = c.count-count.ensures.count ∙ ap (λ (fs : List ℕ). length fs) c.factors.ensures in
    let p : (c.size.result - c.rank.result) * c.count-count.result ≡ (size M - M.rank) * count M = (λ t. (c.size.ensures.value t - c.rank.ensures t) * n t) in
    let w : (size M - M.rank) * count M ≤ c.loop-place.place = omega (arith, p, c.loop-place-test.false) in
    code-at (λ f i. dual_matrix M f i c.args.j) c.loop-place.place (count M) (size M - M.rank) c.loop-place.column.items w
    (subst (λ (m : ℕ). (k : ℕ) → k < c.loop-place.place →
    slice_index c.loop-place.column.items k ≡ dual_matrix M (k % m) (k / m) c.args.j) n c.loop-place.invariant.codes)
