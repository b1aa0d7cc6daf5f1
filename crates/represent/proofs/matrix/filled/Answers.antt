use Rattle.std.proofs.Common.{◌≡◌, ◌+◌, ◌<◌, ◌≤◌, ◌∷◌, [], ℕ, List, map, sym, ◌∙◌, ap, subst, arith}
use Rattle.std.specs.List.{range_with_len}
use Rattle.std.proofs.lemmas.List.FromFn.{map-range_with_len_more, length-map-range_with_len}
use Rattle.matroid_theory.specs.Rep.{Rep, size, IsProductColumn}
use Rattle.matroid_theory.specs.Minor.{Matroid}
use Rattle.matroid_theory.specs.Level.{followed_by}
use Rattle.represent.specs.Sought.{matroid_of}
use Rattle.represent.specs.Filled.{entry, filled}
use Rattle.represent.proofs.FilledMatrices.{column_fits}
use Rattle.represent.proofs.matrix.filled.Goals as goal

pub push_column-requires-clause-room : goal.push_column-requires-clause-room
push_column-requires-clause-room c =
    let e : size c.loop-j.rep ≡ c.loop-j.j = ap size c.loop-j.invariant ∙ length-map-range_with_len _ 0 c.loop-j.j in
    let m : c.args.target.now.size ≤ 16 = c.requires.sought.size_most in
    let l : c.loop-j.j < c.args.target.now.size = c.loop-j-test.true in
    omega arith

pub push_column-requires-clause-column : goal.push_column-requires-clause-column
push_column-requires-clause-column c =
    subst (λ (P : Rep). IsProductColumn P.factors P.rank c.column.result.items) (sym c.loop-j.invariant)
    (column_fits c.args.target.now.order
    (matroid_of c.args.target.now) c.requires.sought c.args.codes.now.items c.requires.codes c.loop-j.j c.loop-j-test.true
    c.column.result.items c.column.ensures)

-- one more column
one_more : (q : ℕ) (N : Matroid) (codes : List ℕ) (j : ℕ) (v : List ℕ) (old new : Rep) → new ≡ followed_by old v
    → v ≡ map (λ i. entry N.rank codes i j) (range_with_len 0 N.rank)
    → old ≡ filled q (record N { size = j }) codes → new ≡ filled q (record N { size = j + 1 }) codes
one_more q N codes j v old new e d h =
    e ∙ (λ t. followed_by (h t) (d t))
    ∙ ap (λ (columns : List (List ℕ)). record { factors = q ∷ []; rank = N.rank; columns = columns })
    (sym (map-range_with_len_more (λ k. map (λ i. entry N.rank codes i k) (range_with_len 0 N.rank)) 0 j j (omega arith)))

pub loop-j-preserved : goal.loop-j-preserved
loop-j-preserved c =
    one_more c.args.target.now.order
    (matroid_of c.args.target.now) c.args.codes.now.items c.loop-j.j c.column.result.items c.loop-j.rep c.push_column.new.self
    c.push_column.ensures c.column.ensures c.loop-j.invariant
