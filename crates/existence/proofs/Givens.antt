-- What is given by all sets of one size, by columns or as their dual is a matroid.
use Rattle.std.proofs.Common.{◌≡◌, ℕ, zero, suc, ◌+◌, ◌-◌, ◌^◌, ◌<◌, ◌≤◌, refl, sym, ◌∙◌, ap}
use Rattle.std.proofs.Common.{subst, arith, Bool, true, false, not, List, [], ◌∷◌, length, inl, inr, slice_index}
use Rattle.std.specs.Bool.{nat_lt}
use Rattle.std.specs.List.Sorted.{IsStrictlyIncreasing}
use Rattle.matroid_theory.specs.Field.{IsOrder}
use Rattle.matroid_theory.specs.Matrix.{size_below, IsRankOf}
use Rattle.matroid_theory.specs.Matroid.{members}
use Rattle.matroid_theory.specs.Minor.{Matroid}
use Rattle.matroid_theory.specs.Given.{Given, AllSets, ColumnsOver, DualOfColumns, elements}
use Rattle.matroid_theory.specs.Given.{column_length, matrix_of_lists, IsColumnBasis, IsGivenBasis, IsGivenBy}
use Rattle.matrix_lemmas.proofs.FieldLaws.{field_laws}
use Rattle.matrix_lemmas.proofs.Masks.{mask, mask-below, members-mask, size-same, IsIndependent-same}
use Rattle.matrix_lemmas.proofs.Bases.{rank_exists, rank_unique}
use Rattle.matroid_laws.proofs.Rest.{size_front}
use Rattle.matroid_laws.proofs.Built.{size_both}
use Rattle.existence.specs.Decided.{IsDecided}
use Rattle.existence.proofs.Deciding.{IsIn, to_contains, from_contains, along, both, equal}
use Rattle.existence.proofs.Bases.{independent_decided}

-- ---- the numbers of a range with a property, in rising order

-- the list of the numbers from a on, n of them, that P holds of
record Numbers (P : ℕ → Type 0) (a n : ℕ) (xs : List ℕ) : Type 0 where
  rising : IsStrictlyIncreasing xs
  sound : (x : ℕ) → IsIn x xs → (a ≤ x) × (x < a + n) × P x
  complete : (x : ℕ) → a ≤ x → x < a + n → P x → IsIn x xs

-- a list rises that begins with a number below all of a rising list
rises_cons : (x : ℕ) (xs : List ℕ) → ((y : ℕ) → IsIn y xs → x < y) → IsStrictlyIncreasing xs → IsStrictlyIncreasing (x ∷ xs)
rises_cons x [] above r k l = absurd (omega arith)
rises_cons x (y ∷ ys) above r zero l = above y (inl refl)
rises_cons x (y ∷ ys) above r (suc k) l = (let e : suc (k + 1) ≡ suc k + 1 = omega arith in
    subst (λ i. slice_index (y ∷ ys) k < slice_index (x ∷ y ∷ ys) i) e (r k (omega arith)))

-- there is such a list where P is decided
numbers : (P : ℕ → Type 0) → ((x : ℕ) → IsDecided (P x)) → (n a : ℕ) → (xs : List ℕ) × Numbers P a n xs
numbers P d zero a = ([], record { rising = λ k l. absurd (omega arith); sound = λ x i. absurd i; complete = λ x l m p. absurd (omega arith) })
numbers P d (suc n) a = (let r = numbers P d n (a + 1) in elim (d a) [
  | inl p ↦ (
    a ∷ r.0,
    record {
      rising = rises_cons a r.0 (λ y i. (let s = r.1.sound y i in let l = s.0 in omega arith)) r.1.rising;
      sound = λ x i. elim i [
        | inl e ↦ ((omega arith), (omega arith), subst P e p)
        | inr j ↦ (let s = r.1.sound x j in ((let l = s.0 in omega arith), (let l = s.1 in omega arith), s.2))
      ];
      complete = λ x l m q. elim (equal a x) [ inl e ↦ inl e | inr other ↦ inr (r.1.complete x (omega arith) (omega arith) q) ];
    },
  )
  | inr never ↦ (
    r.0,
    record {
      rising = r.1.rising;
      sound = λ x i. (let s = r.1.sound x i in ((let l = s.0 in omega arith), (let l = s.1 in omega arith), s.2));
      complete = λ x l m q. elim (equal a x) [ inl e ↦ absurd (never (subst P (sym e) q)) | inr other ↦ r.1.complete x (omega arith) (omega arith) q ];
    },
  )
])

-- ---- a matroid by its bases

module _ (given : Given) (rank : ℕ) (same : (S T : ℕ → Bool) → ((j : ℕ) → j < elements given → S j ≡ T j) → IsGivenBasis given S → IsGivenBasis given T)
    (d : (S : ℕ → Bool) → IsDecided (IsGivenBasis given S)) (B : ℕ → Bool) (b : IsGivenBasis given B) (ranks : (S : ℕ → Bool) → IsGivenBasis given S
    → size_below (elements given) S ≡ rank) where
  matroid_of : (N : Matroid) × IsGivenBy given N
  matroid_of =
      let n = elements given in
      let r = numbers (λ X. IsGivenBasis given (members X)) (λ X. d (members X)) (2 ^ n) 0 in (
        record { rank = rank; size = n; bases = r.0 },
        record {
          sizes = refl;
          rising = r.1.rising;
          exact = λ X. (
            (λ c. (let s = r.1.sound X (from_contains X r.0 c) in ((let l = s.1 in omega arith), s.2))),
            (λ w. to_contains X r.0 (r.1.complete X (omega arith) (let l = w.0 in omega arith) w.1)),
          );
          some = (
            mask n B,
            to_contains (mask n B) r.0 (r.1.complete (mask n B) (omega arith) (let l : mask n B < 2 ^ n = mask-below n B in omega arith)
                (same B (members (mask n B)) (λ j l. sym (members-mask n B j l)) b)),
          );
          ranks = λ X c. ranks (members X) (let s = r.1.sound X (from_contains X r.0 c) in s.2);
        },
      )

-- ---- all sets of one size

-- the first numbers are one basis
pub uniform_given : (rank size : ℕ) → rank ≤ size → (N : Matroid) × IsGivenBy (AllSets rank size) N
uniform_given rank size l =
    matroid_of (AllSets rank size) rank (λ S T h e. sym (size-same size S T h) ∙ e) (λ S. equal (size_below size S) rank) (λ j. nat_lt j rank)
    (size_front rank size l) (λ S e. e)

-- ---- columns and duals

module _ (q : ℕ) (o : IsOrder q) (columns : List (List ℕ)) (codes : (i j : ℕ) → i < column_length columns → j < length columns
    → matrix_of_lists columns i j < q) where
  abbrev n : ℕ
  n = length columns

  -- the number of rows
  abbrev r : ℕ
  r = column_length columns

  -- the rank of all columns
  abbrev HasRank : ℕ → Type 0
  HasRank k = IsRankOf q r n (matrix_of_lists columns) (λ _. true) k

  -- the columns have a rank
  column_rank : (k : ℕ) × HasRank k
  column_rank = rank_exists q (field_laws q o) r n (matrix_of_lists columns) codes (λ _. true)

  -- sets with the same columns are bases together
  basis_same : (S T : ℕ → Bool) → ((j : ℕ) → j < n → S j ≡ T j) → IsColumnBasis q columns S → IsColumnBasis q columns T
  basis_same S T h b = record {
    independent = IsIndependent-same q r n (matrix_of_lists columns) S T h b.independent;
    greatest = subst HasRank (size-same n S T h) b.greatest;
  }

  -- each basis has as many columns as the rank is
  basis_rank : (S : ℕ → Bool) → IsColumnBasis q columns S → size_below n S ≡ column_rank.0
  basis_rank S b = rank_unique q r n (matrix_of_lists columns) (λ _. true) (size_below n S) column_rank.0 b.greatest column_rank.1

  column_basis_decided : (S : ℕ → Bool) → IsDecided (IsColumnBasis q columns S)
  column_basis_decided S =
      along (both (independent_decided q (field_laws q o) r n (matrix_of_lists columns) codes S) (λ _. equal column_rank.0 (size_below n S)))
      (λ w. record { independent = w.0; greatest = subst HasRank w.1 column_rank.1 }) (λ b. (b.independent, sym (basis_rank S b)))

  -- there is a basis
  first_basis : (S : ℕ → Bool) × IsColumnBasis q columns S
  first_basis = (let h = column_rank.1 in let p = h.reached in (
    p.0,
    record {
      independent = p.1.independent;
      greatest = subst HasRank (sym p.1.elements) column_rank.1;
    },
  ))

  -- the bases of the columns are those of a matroid
  pub columns_given : (N : Matroid) × IsGivenBy (ColumnsOver q columns) N
  columns_given = matroid_of (ColumnsOver q columns) column_rank.0 basis_same column_basis_decided first_basis.0 first_basis.1 basis_rank

  -- and so are their complements
  pub dual_given : (N : Matroid) × IsGivenBy (DualOfColumns q columns) N
  dual_given =
      matroid_of (DualOfColumns q columns) (n - column_rank.0) (λ S T h b. basis_same (λ j. not (S j)) (λ j. not (T j)) (λ j l. ap not (h j l)) b)
      (λ S. column_basis_decided (λ j. not (S j)))
      (λ j. not (first_basis.0 j)) (basis_same first_basis.0 (λ j. not (not (first_basis.0 j))) (λ j l. twice (first_basis.0 j)) first_basis.1)
      (λ S b. (let e : size_below n (λ j. not (S j)) ≡ column_rank.0 = basis_rank (λ j. not (S j)) b in
      let a : size_below n S + size_below n (λ j. not (S j)) ≡ n = size_both n S in omega arith))
    where
      twice : (b : Bool) → b ≡ not (not b)
      twice true = refl
      twice false = refl
