use Rattle.std.proofs.Common.{◌≡◌, ◌<◌, ◌≤◌, ◌+◌, ◌*◌, ℕ, [], ◌++◌, length, List, ◌∷◌, sym, ◌∙◌, ap, subst, arith, map, lit<}
use Rattle.std.specs.List.{slice_index, range_with_len}
use Rattle.matroid_theory.specs.Rep.{Rep, size, count, matrix}
use Rattle.product_rep.specs.declared.rep.Rep.TheInside.{Inside}
use Rattle.product_rep.specs.Pieces.{matrices, KeepsRep}
use Rattle.product_rep.proofs.PiecesLemmas.{column_below, place_within, place_below, factor_column-step, room}
use Rattle.product_rep.proofs.rep.Rep.factor_column.Goals as goal

-- the number of factors, as the function reads it
count_is : (a : Inside) (M : Rep) (c : ℕ) → matrices a ≡ M → c ≡ length a.factors → count M ≡ c
count_is a M c v e = sym (e ∙ ap count v)

-- the codes of a row of a column are among the codes, by the rank and the number of factors that the function reads
within : (a : Inside) (M : Rep) (i j r c : ℕ) (codes : List ℕ) → matrices a ≡ M → KeepsRep a → r ≡ a.rank → c ≡ length a.factors →
    codes ≡ a.codes.items → j < size M → i < r → (j * r + i) * c + c ≤ length codes
within a M i j r c codes v h e g d l m =
    let p : (j * r + i) * c + c ≤ a.size * r * c = place_within (a.size * r) c (j * r + i) (place_below a.size r j i (column_below a M j v l) m) in
    let q : a.size * r * c ≡ a.size * (r * c) = omega arith in
    subst (λ (n : ℕ). (j * r + i) * c + c ≤ n) (q ∙ sym (ap (λ (xs : List ℕ). length xs) d ∙ h.full ∙ (λ t. a.size * (sym e t * sym g t)))) p

pub bounds-deref-j : goal.bounds-deref-j
bounds-deref-j c =
    let b : (c.args.j * c.from-rank.result + c.loop-i.i) * c.count-count.result + c.count-count.result ≤ length c.deref.result.now
    = within c.self.inside _ c.loop-i.i c.args.j _ _ _ c.self.view_is c.self.invariant c.from-rank.ensures
    c.count-count.ensures.count c.deref.ensures.0 c.requires.column c.loop-i-test.true in
    let n : count c.args.self.now ≡ c.count-count.result = count_is _ _ _ c.self.view_is c.count-count.ensures.count in
    omega arith

pub push-requires : goal.push-requires
push-requires c = (lit< tt, room _ c.loop-i.i c.from-rank.result c.loop-i.column.items c.loop-i.invariant c.loop-i-test.true (omega arith))

-- one more code, as the function reads it
step : (a : Inside) (M : Rep) (i j f r c : ℕ) (codes column : List ℕ) → matrices a ≡ M → r ≡ a.rank → c ≡ length a.factors →
    codes ≡ a.codes.items → j < size M → i < r → f < count M → column ≡ map (λ i. matrix M f i j) (range_with_len 0 i) →
    column ++ slice_index codes ((j * r + i) * c + f) ∷ [] ≡ map (λ i. matrix M f i j) (range_with_len 0 (i + 1))
step a M i j f r c codes column v e g d l m o k =
    (λ t. k t ++ slice_index (d t) ((j * e t + i) * g t + f) ∷ [])
    ∙ subst (λ P. map (λ i. matrix P f i j) (range_with_len 0 i) ++ slice_index a.codes.items
    ((j * a.rank + i) * length a.factors + f) ∷ [] ≡ map (λ i. matrix P f i j) (range_with_len 0 (i + 1)))
    v (sym (factor_column-step a f i j (subst (λ (n : ℕ). f < n) (sym (ap count v)) o) (subst (λ (n : ℕ). i < n) e m) (column_below a M j v l)))

pub loop-i-preserved : goal.loop-i-preserved
loop-i-preserved c = c.push.ensures.items
    ∙ step c.self.inside c.args.self.now c.loop-i.i c.args.j c.args.factor _ _ c.deref.result.now c.loop-i.column.items c.self.view_is
    c.from-rank.ensures c.count-count.ensures.count c.deref.ensures.0 c.requires.column c.loop-i-test.true c.requires.factor c.loop-i.invariant
