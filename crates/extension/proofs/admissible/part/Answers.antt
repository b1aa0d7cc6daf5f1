use Rattle.std.proofs.Common.{◌≡◌, ◌+◌, ◌*◌, ◌≤◌, ℕ, List, [], ◌∷◌, ◌++◌, length, sym, ◌∙◌, ap, arith, map, lit<}
use Rattle.std.specs.List.{slice_index, range_with_len}
use Rattle.std.proofs.lemmas.List.FromFn.{map-range_with_len_more}
use Rattle.matroid_theory.specs.Rep.{Rep, size, count, matrix}
use Rattle.matroid_theory.specs.Level.{followed_by}
use Rattle.matroid_laws.proofs.Followed.{matrix_last}
use Rattle.product_rep.proofs.PiecesLemmas.{room}
use Rattle.extension.proofs.admissible.part.Goals as goal

pub push-requires : goal.push-requires
push-requires c = (
  lit< tt,
  room _ c.loop-i.i c.rank-i-end.result c.loop-i.part.items c.loop-i.invariant c.loop-i-test.true
      (let m : c.args.rep.now.rank ≤ 6 = c.requires.is_rep.rank_most in
      let e : c.rank-i-end.result ≡ c.args.rep.now.rank = c.rank-i-end.ensures in omega arith),
)

-- one more code
step : (M : Rep) (v : List ℕ) (f i : ℕ) (part : List ℕ) → part ≡ map (λ i. matrix (followed_by M v) f i (size M)) (range_with_len 0 i) →
    part ++ slice_index v (i * count M + f) ∷ [] ≡ map (λ i. matrix (followed_by M v) f i (size M)) (range_with_len 0 (i + 1))
step M v f i part e =
    (λ t. e t ++ sym (matrix_last M v f i) t ∷ []) ∙ sym (map-range_with_len_more (λ i. matrix (followed_by M v) f i (size M)) 0 i i (omega arith))

pub loop-i-preserved : goal.loop-i-preserved
loop-i-preserved c =
    let n : c.count-count.result ≡ count c.args.rep.now = c.count-count.ensures.count ∙ ap (λ (fs : List ℕ). length fs) c.factors.ensures in
    c.push.ensures.items ∙ (λ t. c.loop-i.part.items ++ slice_index (c.as_slice-codes.ensures.value t)
    (c.loop-i.i * n t + c.args.factor) ∷ [])
    ∙ step c.args.rep.now c.args.column.now.items c.args.factor c.loop-i.i c.loop-i.part.items c.loop-i.invariant
