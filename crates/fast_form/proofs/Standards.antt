-- Which representations are standard: those that begin with the columns of the unit representation.
use Rattle.std.proofs.Common.{◌≡◌, ℕ, ◌*◌, ◌+◌, ◌<◌, ◌≤◌, List, [], length, slice_index, slice_index_or, sym, ◌∙◌, ap, subst, arith}
use Rattle.matroid_theory.specs.Rep.{Rep, Shape, shape, count, size, IsShaped, IsStandard}
use Rattle.matroid_laws.proofs.First.{same_column}

module _ (M U : Rep) (shaped : IsShaped M) (unit_shaped : IsShaped U) (t : IsStandard U)
    (e : shape U ≡ record { factors = M.factors; rank = M.rank; size = M.rank }) (some : 0 < count M) where
  factor_of : {f : ℕ} → f < count M → f < length U.factors
  factor_of {f} l = subst (λ (S : Shape). f < length S.factors) (sym e) l

  row_of : {i : ℕ} → i < M.rank → i < U.rank
  row_of {i} l = subst (λ (S : Shape). i < S.rank) (sym e) l

  pub all_units : M.rank ≤ size M → ((j : ℕ) → j < M.rank → slice_index_or M.columns j [] ≡ slice_index_or U.columns j []) → IsStandard M
  all_units room w = record {
    room = room;
    units = λ f i j l a b.
        ap (λ (v : List ℕ). slice_index v (i * count M + f)) (w j b)
        ∙ ap (λ (S : Shape). slice_index (slice_index_or U.columns j []) (i * length S.factors + f)) (sym e)
        ∙ t.units f i j (factor_of l) (row_of a) (row_of b);
  }

  pub unit_column : IsStandard M → (j : ℕ) → j < M.rank → slice_index_or M.columns j [] ≡ slice_index_or U.columns j []
  unit_column w j b = same_column M.rank (count M) (slice_index_or M.columns j []) (slice_index_or U.columns j [])
      (shaped.lengths j (let r : M.rank ≤ size M = w.room in omega arith))
      (unit_shaped.lengths j (let n : size U ≡ M.rank = ap (λ (S : Shape). S.size) e in omega arith) ∙ ap (λ (S : Shape). S.rank * length S.factors) e) some
      (λ f i l a. w.units f i j l a b ∙ sym (ap (λ (S : Shape). slice_index (slice_index_or U.columns j []) (i * length S.factors + f)) (sym e) ∙ t.units f i
      j (factor_of l) (row_of a) (row_of b)))
