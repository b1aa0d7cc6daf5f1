use Rattle.std.proofs.Common.{◌≡◌, ◌<◌, ◌+◌, ◌-◌, ◌*◌, ◌/◌, ◌%◌, ◌∷◌, ◌++◌, inl, inr, [], ℕ, List, length, length-append, slice_index, slice_index_or, sym, ◌∙◌, ap, subst, arith}
use Rattle.std.proofs.lemmas.Bool.{cases_lt}
use Rattle.std.proofs.Math.Nat.{mod-lt}
use Rattle.std.proofs.Math.Seq.{ext_get_or, get_or-append_seam}
use Rattle.std.proofs.Math.ListN.{get_or-append}
use Rattle.matroid_theory.specs.Rep.{Rep, count, size, matrix}
use Rattle.matroid_laws.proofs.First.{row_below}
use Rattle.form_trails.specs.Least.{number}
use Rattle.form_trails.specs.Numbers.{weighed}
use Rattle.form_search.specs.Search.{numbers_of}
use Rattle.form_trails.proofs.Numbers.{weighed_same}
use Rattle.form_search.proofs.Found.{numbers_length, numbers_at}
use Rattle.form_states.specs.Codes.{code}
use Rattle.form_states.specs.States.{IsShapeOf}
use Rattle.form_states.proofs.Shapes.{some}
use Rattle.fast_form.proofs.form.own_numbers.Goals as goal

module _ (M : Rep) (fields : List ℕ) (factors rank total : ℕ) (h : IsShapeOf M fields factors rank total) where
  -- the number of a column of the program
  own_number : (columns : List (List (List ℕ))) (e n : ℕ) → e < size M → ((f i : ℕ) → f < count M → i < M.rank → code (slice_index_or columns e []) f i ≡
      matrix M f i e)
      → n ≡ weighed (λ k. code (slice_index_or columns e []) (k % factors) (k / factors)) (rank * factors) → n ≡ number M (λ f i. matrix M f i e)
  own_number columns e n b w z =
      z ∙ (λ t. weighed (λ k. code (slice_index_or columns e []) (k % h.factors_are t) (k / h.factors_are t)) (h.rank_is t * h.factors_are t))
      ∙ weighed_same (λ k. code (slice_index_or columns e []) (k % count M) (k / count M)) (λ k. matrix M (k % count M) (k / count M) e) (M.rank * count M)
      (λ k l. w (k % count M) (k / count M) (mod-lt k (some M fields factors rank total h))
      (row_below k (count M) M.rank (some M fields factors rank total h) l))

  -- one more
  own_more : (numbers longer : List ℕ) (e n : ℕ) → longer ≡ numbers ++ n ∷ [] → rank + length numbers ≡ e → n ≡ number M (λ f i. matrix M f i e)
      → ((j : ℕ) → j < length numbers → slice_index numbers j ≡ number M (λ f i. matrix M f i (rank + j))) → (j : ℕ) → j < length longer → slice_index longer
      j ≡ number M (λ f i. matrix M f i (rank + j))
  own_more numbers longer e n is at z w j l = ap (λ (v : List ℕ). slice_index v j) is ∙
      (let q : length longer ≡ length numbers + 1 = ap (λ (v : List ℕ). length v) is ∙ length-append numbers (n ∷ []) in
      elim (cases_lt j (length numbers)) [
        | inl b ↦ get_or-append numbers (n ∷ []) 0 j b ∙ w j b
        | inr b ↦ (let y : length numbers ≡ j = omega arith in let x : e ≡ rank + j = omega arith in
            ap (slice_index (numbers ++ n ∷ [])) (sym y) ∙ get_or-append_seam numbers n [] 0 ∙ z ∙ ap (λ e. number M (λ f i. matrix M f i e)) x)
      ])

  -- all of them
  own_list : (numbers : List ℕ) → rank + length numbers ≡ total → ((j : ℕ) → j < length numbers → slice_index numbers j ≡ number M
      (λ f i. matrix M f i (rank + j))) → numbers ≡ numbers_of M M
  own_list numbers at w = sym (ext_get_or 0 (numbers_of M M) numbers (numbers_length M M ∙ long)
      (λ j l. let b : j < size M - M.rank = subst (λ n. j < n) (numbers_length M M) l in
      numbers_at M M j b ∙ ap (λ r. number M (λ f i. matrix M f i (r + j))) (sym h.rank_is) ∙ sym (w j (subst (λ n. j < n) long b))))
    where
      long : size M - M.rank ≡ length numbers
      long = let a : rank ≡ M.rank = h.rank_is in let b : total ≡ size M = h.total_is in omega arith

pub loop-e-preserved : goal.loop-e-preserved
loop-e-preserved c = record {
  from = omega (arith, c.loop-e.invariant.from);
  size = (let q : length c.followed_by-numbers.result ≡ length c.loop-e.numbers + 1 = ap (λ (v : List ℕ). length v) c.followed_by-numbers.ensures ∙
      length-append c.loop-e.numbers _ in omega (arith, c.loop-e.invariant.size));
  numbers = own_more _ _ _ _ _ c.requires.shape c.loop-e.numbers c.followed_by-numbers.result c.loop-e.e c.number.result c.followed_by-numbers.ensures
      c.loop-e.invariant.size
      (own_number _ _ _ _ _ c.requires.shape c.args.columns.now c.loop-e.e c.number.result (omega (arith, c.requires.shape.total_is, c.loop-e-test.true))
      (λ f i l b. c.requires.columns c.loop-e.e f i (omega (arith, c.requires.shape.total_is, c.loop-e-test.true)) l b) c.number.ensures)
      c.loop-e.invariant.numbers;
}

pub returns : goal.returns
returns c = own_list _ _ _ _ _ c.requires.shape c.loop-e.numbers (omega (arith, c.loop-e.invariant.size, c.loop-e-test.false)) c.loop-e.invariant.numbers
