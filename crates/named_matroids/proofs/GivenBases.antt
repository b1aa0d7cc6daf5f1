-- The masks that a walk lists are the bases of what is given.
use Rattle.std.proofs.Common.{◌≡◌, ℕ, ◌+◌, ◌-◌, ◌^◌, ◌<◌, ◌≤◌, refl, sym, ◌∙◌, ap, subst, arith, Bool, true, not, List, length}
use Rattle.std.specs.Bool.{nat_lt}
use Rattle.std.specs.List.{Contains, slice_index_or}
use Rattle.std.proofs.lemmas.List.Elements.{Contains-get_or}
use Rattle.arrayvec.specs.ArrayVec.{ArrayVec}
use Rattle.matroid_theory.specs.Matrix.{size_below, IsIndependent, IsRankOf}
use Rattle.matroid_theory.specs.Matroid.{members}
use Rattle.matroid_theory.specs.Minor.{Matroid}
use Rattle.matroid_theory.specs.Given.{Given, AllSets, ColumnsOver, DualOfColumns, IsColumnBasis, IsGivenBasis, IsGivenBy}
use Rattle.matroid_theory.specs.Given as given
use Rattle.matrix_lemmas.proofs.Masks.{mask, mask-below, members-mask, size-same, IsIndependent-same}
use Rattle.matrix_lemmas.proofs.Bases.{rank_unique, size_most}
use Rattle.matroid_laws.proofs.Rest.{size_front}
use Rattle.matroid_laws.proofs.Built.{size_both}
use Rattle.elimination.specs.Columns.{matrix_of, height, IsRankOfColumns}
use Rattle.small_lists.specs.Lists.{lists}
use Rattle.named_matroids.specs.SmallMatroids.{IsSmallMatroid, IsDual}
use Rattle.named_matroids.proofs.ColumnLists.{length_codes, independent_codes, rank_codes}
use Rattle.column_sets.specs.Sets.{AreMasks}
use Rattle.column_sets.specs.Picked.{IsBasisOfColumns}
use Rattle.column_sets.proofs.SetLemmas.{masks_same}
use Rattle.column_sets.proofs.Complements.{members_complement}

-- what is given and has few elements is a small matroid
pub given_small : (what : Given) (N : Matroid) → IsGivenBy what N → 0 < N.size → N.size ≤ 10 → IsSmallMatroid N
given_small what N h some few = record {
  size_positive = some;
  size_most = few;
  rising = h.rising;
  below = λ k d l. ((h.exact (slice_index_or N.bases k d)).0 (Contains-get_or N.bases k d l)).0;
  of_rank = λ k d l. h.ranks (slice_index_or N.bases k d) (Contains-get_or N.bases k d l);
  some = (let c = h.some.1 in let l : c.0 < length N.bases = c.1 in omega arith);
}

pub uniform_given : (rank size : ℕ) (masks : List ℕ) → rank ≤ size →
    AreMasks size (λ X. IsGivenBasis (AllSets rank size) (members X)) masks →
    IsGivenBy (AllSets rank size) (record { rank = rank; size = size; bases = masks })
uniform_given rank size masks l h = record {
  sizes = refl;
  rising = h.rising;
  exact = h.exact;
  some = (
    mask size (λ j. nat_lt j rank),
    (h.exact (mask size (λ j. nat_lt j rank))).1 (
      mask-below size (λ j. nat_lt j rank),
      size-same size (members (mask size (λ j. nat_lt j rank))) (λ j. nat_lt j rank) (members-mask size (λ j. nat_lt j rank)) ∙ size_front rank size l,
    ),
  );
  ranks = λ X c. ((h.exact X).0 c).1;
}

module _ (q : ℕ) (columns : List (ArrayVec ℕ)) (k : ℕ) (rank : IsRankOfColumns q (height columns) columns k) where
  -- rank many independent columns are a basis
  column_basis : (S : ℕ → Bool) → size_below (length columns) S ≡ k →
      IsIndependent q (height columns) (length columns) (matrix_of columns) S → IsColumnBasis q (lists columns) S
  column_basis S e d = record {
    independent = subst (λ (T : Type 0). T) (sym (independent_codes q columns S)) d;
    greatest =
        subst (λ (m : ℕ). IsRankOf q (given.column_length (lists columns)) (length (lists columns)) (given.matrix_of_lists (lists columns)) (λ _. true) m)
        (sym (ap (λ n. size_below n S) (length_codes columns) ∙ e)) (subst (λ (T : Type 0). T) (sym (rank_codes q columns (λ _. true) k)) rank);
  }

  basis_independent : (S : ℕ → Bool) → IsColumnBasis q (lists columns) S → IsIndependent q (height columns) (length columns) (matrix_of columns) S
  basis_independent S b = subst (λ (T : Type 0). T) (independent_codes q columns S) b.independent

  basis_full : (S : ℕ → Bool) → IsColumnBasis q (lists columns) S → size_below (length columns) S ≡ k
  basis_full S b =
      sym (ap (λ n. size_below n S) (length_codes columns))
      ∙ rank_unique q (height columns) (length columns) (matrix_of columns) (λ _. true) (size_below (length (lists columns)) S) k
      (subst (λ (T : Type 0). T) (rank_codes q columns (λ _. true) (size_below (length (lists columns)) S)) b.greatest) rank

  given_by_bases : (masks : List ℕ) → AreMasks (length columns) (λ X. IsGivenBasis (ColumnsOver q (lists columns)) (members X)) masks
      → IsGivenBy (ColumnsOver q (lists columns)) (record { rank = k; size = length columns; bases = masks })
  given_by_bases masks h = record {
    sizes = sym (length_codes columns);
    rising = h.rising;
    exact = h.exact;
    some =
        (let I = rank.reached.0 in let p = rank.reached.1 in (
          mask (length columns) I,
          (h.exact (mask (length columns) I)).1 (
            mask-below (length columns) I,
            column_basis (members (mask (length columns) I))
                (size-same (length columns) (members (mask (length columns) I)) I (members-mask (length columns) I) ∙ p.elements)
                (IsIndependent-same q (height columns) (length columns) (matrix_of columns) I (members (mask (length columns) I))
                (λ j l. sym (members-mask (length columns) I j l)) p.independent),
          ),
        ));
    ranks = λ X c. basis_full (members X) ((h.exact X).0 c).1;
  }

  pub columns_given : (masks : List ℕ) → AreMasks (length columns) (λ X. IsBasisOfColumns q k columns (members X)) masks
      → IsGivenBy (ColumnsOver q (lists columns)) (record { rank = k; size = length columns; bases = masks })
  columns_given masks h = given_by_bases masks
      (masks_same (length columns) (λ X. IsBasisOfColumns q k columns (members X))
      (λ X. IsGivenBasis (ColumnsOver q (lists columns)) (members X)) masks
      (λ X _. (
        (λ b. column_basis (members X) b.full b.independent),
        (λ b. record { full = basis_full (members X) b; independent = basis_independent (members X) b }),
      ))
      h)

  -- the rank is at most the number of columns
  pub rank_most : k ≤ length columns
  rank_most = let p = rank.reached.1 in let e : size_below (length columns) rank.reached.0 ≡ k = p.elements in
      let m : size_below (length columns) rank.reached.0 ≤ length columns = size_most (length columns) rank.reached.0 in omega arith

-- a basis is one by its columns alone
basis_same : (q : ℕ) (columns : List (List ℕ)) (S T : ℕ → Bool) → ((j : ℕ) → j < length columns → S j ≡ T j) →
    IsColumnBasis q columns S → IsColumnBasis q columns T
basis_same q columns S T e b = record {
  independent = IsIndependent-same q (given.column_length columns) (length columns) (given.matrix_of_lists columns) S T e b.independent;
  greatest = subst (λ (m : ℕ). IsRankOf q (given.column_length columns) (length columns) (given.matrix_of_lists columns)
      (λ _. true) m) (size-same (length columns) S T e) b.greatest;
}

module _ (N : Matroid) (small : IsSmallMatroid N) where
  few_elements : N.size ≤ 16
  few_elements = let s : N.size ≤ 10 = small.size_most in omega arith

  pub complement_ones : (X : ℕ) → X < 2 ^ N.size → Contains N.bases (2 ^ N.size - 1 - X) → size_below N.size (members X) + N.rank ≡ N.size
  complement_ones X l c =
      let e : size_below N.size (members (2 ^ N.size - 1 - X)) ≡ N.rank =
      (let k = c.0 in subst (λ (x : ℕ). size_below N.size (members x) ≡ N.rank) c.2 (small.of_rank k (2 ^ N.size - 1 - X) c.1)) in
      let s : size_below N.size (members (2 ^ N.size - 1 - X)) ≡ size_below N.size (λ j. not (members X j)) =
      size-same N.size (members (2 ^ N.size - 1 - X)) (λ j. not (members X j)) (λ j m. members_complement N.size few_elements X j l m) in
      let t : size_below N.size (members X) + size_below N.size (λ j. not (members X j)) ≡ N.size = size_both N.size (members X) in
      omega arith

  pub rank_within : N.rank ≤ N.size
  rank_within = let e : size_below N.size (members (slice_index_or N.bases 0 0)) ≡ N.rank = small.of_rank 0 0 small.some in
      let m : size_below N.size (members (slice_index_or N.bases 0 0)) ≤ N.size =
      size_most N.size (members (slice_index_or N.bases 0 0)) in omega arith

  module _ (D : Matroid) (d : IsDual N D) where
    dual_ranks : (X : ℕ) → Contains D.bases X → size_below D.size (members X) ≡ D.rank
    dual_ranks X c =
        let w : (X < 2 ^ N.size) × Contains N.bases (2 ^ N.size - 1 - X) = (d.bases.exact X).0 c in
        let h : size_below N.size (members X) + N.rank ≡ N.size = complement_ones X w.0 w.1 in
        let r : D.rank + N.rank ≡ N.size = d.ranks in
        ap (λ n. size_below n (members X)) d.sizes ∙ omega arith

    -- the complement of a basis
    dual_holds : (X : ℕ) → X < 2 ^ N.size → Contains N.bases X → Contains D.bases (2 ^ N.size - 1 - X)
    dual_holds X l c =
        let e : 2 ^ N.size - 1 - (2 ^ N.size - 1 - X) ≡ X = omega arith in
        let m : 2 ^ N.size - 1 - X < 2 ^ N.size = omega arith in
        (d.bases.exact (2 ^ N.size - 1 - X)).1 (m, subst (λ (x : ℕ). Contains N.bases x) (sym e) c)

    dual_some : (X : ℕ) × Contains D.bases X
    dual_some =
        let X = slice_index_or N.bases 0 0 in
        (2 ^ N.size - 1 - X, dual_holds X (small.below 0 0 small.some) (Contains-get_or N.bases 0 0 small.some))

    pub dual_small : IsSmallMatroid D
    dual_small = record {
      size_positive = (let e : D.size ≡ N.size = d.sizes in let s : 0 < N.size = small.size_positive in omega arith);
      size_most = (let e : D.size ≡ N.size = d.sizes in let s : N.size ≤ 10 = small.size_most in omega arith);
      rising = d.bases.rising;
      below = λ k e l. subst (λ (n : ℕ). slice_index_or D.bases k e < 2 ^ n) (sym d.sizes)
          ((d.bases.exact (slice_index_or D.bases k e)).0 (Contains-get_or D.bases k e l)).0;
      of_rank = λ k e l. dual_ranks (slice_index_or D.bases k e) (Contains-get_or D.bases k e l);
      some = (let c = dual_some.1 in let l : c.0 < length D.bases = c.1 in omega arith);
    }

    -- it is what is given as the dual
    pub dual_given : (q : ℕ) (columns : List (List ℕ)) → IsGivenBy (ColumnsOver q columns) N → IsGivenBy (DualOfColumns q columns) D
    dual_given q columns h = record {
      sizes = d.sizes ∙ h.sizes;
      rising = d.bases.rising;
      exact = λ X. (
        (λ c. let w : (X < 2 ^ N.size) × Contains N.bases (2 ^ N.size - 1 - X) = (d.bases.exact X).0 c in (
          subst (λ (n : ℕ). X < 2 ^ n) (sym d.sizes) w.0,
          basis_same q columns (members (2 ^ N.size - 1 - X)) (λ j. not (members X j))
              (λ j m. members_complement N.size few_elements X j w.0 (subst (λ (n : ℕ). j < n) (sym h.sizes) m))
              ((h.exact (2 ^ N.size - 1 - X)).0 w.1).1,
        )),
        (λ w. let l : X < 2 ^ N.size = subst (λ (n : ℕ). X < 2 ^ n) d.sizes w.0 in
            let m : 2 ^ N.size - 1 - X < 2 ^ N.size = omega arith in
            (d.bases.exact X).1 (
              l,
              (h.exact (2 ^ N.size - 1 - X)).1 (
                m,
                basis_same q columns (λ j. not (members X j)) (members (2 ^ N.size - 1 - X))
                    (λ j o. sym (members_complement N.size few_elements X j l (subst (λ (n : ℕ). j < n) (sym h.sizes) o))) w.1,
              ),
            )),
      );
      some = dual_some;
      ranks = dual_ranks;
    }
