-- Each set of columns has one rank; independent sets can be augmented, and sets of one size exchange elements.
use Rattle.std.proofs.Common.{◌≡◌, ◌≢◌, ℕ, zero, suc, ◌+◌, ◌^◌, ◌<◌, ◌≤◌, refl, sym, ◌∙◌, ap, subst, arith, cond, Bool, true, false, inl, inr, ◌⊎◌, ◌&&◌, ◌||◌, not}
use Rattle.std.specs.Bool.{◌==◌}
use Rattle.std.proofs.lemmas.Bool.{cases_lt, cases_eq, cases_Bool}
use mathlib.Core.Bool.{true≢false}
use Rattle.matroid_theory.specs.Field.{plus, times, negative, inverse, IsField}
use Rattle.matroid_theory.specs.Matrix.{Matrix, combination, matrix_product, unit, size_below, AreCoefficients, IsIndependent, IsIndependentPart, IsRankOf}
use Rattle.matroid_theory.specs.Matroid.{members}
use Rattle.matrix_lemmas.proofs.Sums.{zero_below, plus_zero_right, combination-product, combination-scaled, sum_same, sum_zero, times_zero, zero_times, same_number, other_number}
use Rattle.matrix_lemmas.proofs.Steps.{cleared_entry}
use Rattle.matrix_lemmas.proofs.Dimension.{independent_bound, unit_code, times_unit_column, combination_plus}
use Rattle.matrix_lemmas.proofs.Masks.{mask, mask-below, members-mask, size-same, IsIndependent-same}
use Rattle.matrix_lemmas.proofs.Picked.{Picks, size_more, size_stays, size_grows, set_independent}
use Rattle.matrix_lemmas.proofs.Ranks.{Relation, related_dependent, decided, but, but_own, but_other, size_but}
use Rattle.matrix_lemmas.proofs.Invertible.{combination_zero}

-- a number below n with one property, or all have the other
pub search_below : (n : ℕ) (P Q : ℕ → Type 0) → ((j : ℕ) → j < n → P j ⊎ Q j) → ((j : ℕ) × (j < n) × P j) ⊎ ((j : ℕ) → j < n → Q j)
search_below zero P Q h = inr (λ j l. absurd (omega arith))
search_below (suc n) P Q h =
    elim (h n (omega arith)) [
      | inl p ↦ inl (n, omega arith, p)
      | inr z ↦ elim (search_below n P Q (λ j l. h j (omega arith))) [
        | inl w ↦ inl (w.0, (let l = w.1 in omega arith), w.2)
        | inr y ↦ inr (λ j l. elim (cases_lt j n) [ inl b ↦ y j b | inr g ↦ (let e : n ≡ j = omega arith in subst Q e z) ])
      ]
    ]

-- ---- sizes

pub size_most : (n : ℕ) (S : ℕ → Bool) → size_below n S ≤ n
size_most zero S = omega arith
size_most (suc n) S = let h : size_below n S ≤ n = size_most n S in
    elim (S n) as (λ b. size_below n S + cond b 1 0 ≤ suc n) [ true ↦ omega arith | false ↦ omega arith ]

pub size_none : (n : ℕ) → size_below n (λ _. false) ≡ 0
size_none zero = refl
size_none (suc n) = let h : size_below n (λ _. false) ≡ 0 = size_none n in omega arith

-- a set with one more number
abbrev pub with_element : ℕ → (ℕ → Bool) → ℕ → Bool
with_element e I j = (j == e) || I j

pub with_own : (e : ℕ) (I : ℕ → Bool) → with_element e I e ≡ true
with_own e I = ap (λ b. b || I e) (same_number e)

pub with_other : (e : ℕ) (I : ℕ → Bool) (j : ℕ) → j ≢ e → with_element e I j ≡ I j
with_other e I j n = ap (λ b. b || I j) (other_number j e n)

pub size_with : (e n : ℕ) (I : ℕ → Bool) → e < n → I e ≡ false → size_below n (with_element e I) ≡ size_below n I + 1
size_with e n I l f =
    let h : size_below n (but e (with_element e I)) + 1 ≡ size_below n (with_element e I) = size_but e n (with_element e I) l (with_own e I) in
    let k : size_below n (but e (with_element e I)) ≡ size_below n I = size-same n (but e (with_element e I)) I (λ j _. same j) in
    omega arith
  where
    same : (j : ℕ) → but e (with_element e I) j ≡ I j
    same j = elim (cases_eq j e) [
      | inl i ↦ ap (but e (with_element e I)) i ∙ but_own e (with_element e I) ∙ sym f ∙ ap I (sym i)
      | inr i ↦ but_other e (with_element e I) j i ∙ with_other e I j i
    ]

-- a set with y for x, as a test
pub exchanged_set : (x y : ℕ) (B : ℕ → Bool) (j : ℕ) → with_element y (but x B) j ≡ ((j == y) || (not (j == x) && B j))
exchanged_set x y B j = elim (j == x) as (λ c. ((j == y) || cond c false (B j)) ≡ ((j == y) || (not c && B j))) [ true ↦ refl | false ↦ refl ]

-- ---- the members of a set in order

abbrev pub pick : ℕ → (ℕ → Bool) → ℕ → ℕ
pick zero S l = 0
pick (suc n) S l = cond (S n) (cond (l == size_below n S) n (pick n S l)) (pick n S l)

picked_last : (n : ℕ) (S : ℕ → Bool) → S n ≡ true → pick (suc n) S (size_below n S) ≡ n
picked_last n S t = ap (λ b. cond b (cond (size_below n S == size_below n S) n (pick n S (size_below n S)))
    (pick n S (size_below n S))) t ∙ ap (λ b. cond b n (pick n S (size_below n S))) (same_number (size_below n S))

picked_before : (n : ℕ) (S : ℕ → Bool) (l : ℕ) → l < size_below n S → pick (suc n) S l ≡ pick n S l
picked_before n S l m = elim (S n) as (λ b. cond b (cond (l == size_below n S) n (pick n S l)) (pick n S l) ≡ pick n S l) [
  | true ↦ ap (λ b. cond b n (pick n S l)) (other_number l (size_below n S) (λ e. absurd (omega arith)))
  | false ↦ refl
]

-- what holds of each member and its place holds of those picked
picked_each : (n : ℕ) (S : ℕ → Bool) (P : ℕ → ℕ → Type 0) → ((j : ℕ) → j < n → S j ≡ true → P (size_below j S) j) → (l : ℕ) →
    l < size_below n S → P l (pick n S l)
picked_each zero S P h l m = absurd (omega arith)
picked_each (suc n) S P h l m =
    elim (cases_lt l (size_below n S)) [
      | inl b ↦ subst (P l) (sym (picked_before n S l b)) (picked_each n S P (λ j o. h j (omega arith)) l b)
      | inr g ↦ elim (cases_Bool (S n)) [
        | inl t ↦ (let k : size_below (suc n) S ≡ suc (size_below n S) = size_more n S t in let e : l ≡ size_below n S = omega arith in
            subst (λ (x : ℕ). P x (pick (suc n) S x)) (sym e) (subst (P (size_below n S)) (sym (picked_last n S t)) (h n (omega arith) t)))
        | inr f ↦ (let k : size_below (suc n) S ≡ size_below n S = size_stays n S f in absurd (omega arith))
      ]
    ]

pick_place : (n : ℕ) (S : ℕ → Bool) (j : ℕ) → j < n → S j ≡ true → pick n S (size_below j S) ≡ j
pick_place zero S j l t = absurd (omega arith)
pick_place (suc n) S j l t =
    elim (cases_lt j n) [
      | inl b ↦ picked_before n S (size_below j S) (size_grows j n S b t) ∙ pick_place n S j b t
      | inr g ↦ (let e : j ≡ n = omega arith in ap (λ x. pick (suc n) S (size_below x S)) e ∙ picked_last n S (sym (ap S e) ∙ t) ∙ sym e)
    ]

pub pick_picks : (n : ℕ) (S : ℕ → Bool) → Picks n S (pick n S)
pick_picks n S = record {
  below = picked_each n S (λ _ j. j < n) (λ j l _. l);
  member = picked_each n S (λ _ j. S j ≡ true) (λ j _ t. t);
  place = pick_place n S;
  rank = picked_each n S (λ l j. size_below j S ≡ l) (λ j _ _. refl);
}

-- ---- ranks

pub rank_unique : (q r n : ℕ) (A : Matrix) (S : ℕ → Bool) (k l : ℕ) → IsRankOf q r n A S k → IsRankOf q r n A S l → k ≡ l
rank_unique q r n A S k l h g =
    let a : k ≤ l = (let (I, p) = h.reached in g.greatest k I p) in
    let b : l ≤ k = (let (I, p) = g.reached in h.greatest l I p) in
    omega arith

-- the same parts, for sets with the same numbers
pub part-same : (q r n : ℕ) (A : Matrix) (S : ℕ → Bool) (k : ℕ) (I J : ℕ → Bool) → ((j : ℕ) → j < n → I j ≡ J j) →
    IsIndependentPart q r n A S k I → IsIndependentPart q r n A S k J
part-same q r n A S k I J h p = record {
  within = λ j l t. p.within j l (h j l ∙ t);
  elements = sym (size-same n I J h) ∙ p.elements;
  independent = IsIndependent-same q r n A I J h p.independent;
}

-- the empty set is independent, and so is a part of an independent set
pub empty_independent : (q r n : ℕ) (A : Matrix) → IsIndependent q r n A (λ _. false)
empty_independent q r n A = record { only_zero = λ a c z j l. c.outside j l refl }

pub smaller_independent : (q r n : ℕ) (A : Matrix) (S T : ℕ → Bool) → ((j : ℕ) → j < n → T j ≡ false → S j ≡ false) →
    IsIndependent q r n A T → IsIndependent q r n A S
smaller_independent q r n A S T down h =
    record { only_zero = λ a c z. h.only_zero a (record { codes = c.codes; outside = λ j l f. c.outside j l (down j l f) }) z }

module _ (q : ℕ) (F : IsField q) (r n : ℕ) (A : Matrix) (codes : (i j : ℕ) → i < r → j < n → A i j < q) where
  -- whether a set is an independent part of k elements
  part_decided : (S : ℕ → Bool) (k : ℕ) (I : ℕ → Bool) → IsIndependentPart q r n A S k I ⊎ ¬ (IsIndependentPart q r n A S k I)
  part_decided S k I =
      elim (search_below n (λ j. (I j ≡ true) × (S j ≡ false)) (λ j. I j ≡ true → S j ≡ true) (λ j _. member j)) [
        | inl w ↦ inr (λ p. true≢false (sym (p.within w.0 w.1 w.2.0) ∙ w.2.1))
        | inr y ↦ elim (cases_eq (size_below n I) k) [
          | inr ne ↦ inr (λ p. ne p.elements)
          | inl e ↦ elim (decided q F r n A codes I) [
            | inl d ↦ inl (record { within = y; elements = e; independent = d })
            | inr w ↦ inr (λ p. related_dependent q F r n A I w p.independent)
          ]
        ]
      ]
    where
      member : (j : ℕ) → ((I j ≡ true) × (S j ≡ false)) ⊎ (I j ≡ true → S j ≡ true)
      member j = elim (cases_Bool (S j)) [
        | inl t ↦ inr (λ _. t)
        | inr f ↦ elim (cases_Bool (I j)) [ inl t ↦ inl (t, f) | inr g ↦ inr (λ t. absurd (true≢false (sym t ∙ g))) ]
      ]

  -- there is an independent part of k elements, or there is none
  some_part : (S : ℕ → Bool) (k : ℕ) → ((I : ℕ → Bool) × IsIndependentPart q r n A S k I) ⊎ ((I : ℕ → Bool) → ¬ (IsIndependentPart q r n A S k I))
  some_part S k =
      elim (search_below (2 ^ n) (λ X. IsIndependentPart q r n A S k (members X))
      (λ X. ¬ (IsIndependentPart q r n A S k (members X))) (λ X _. part_decided S k (members X))) [
        | inl w ↦ inl (members w.0, w.2)
        | inr y ↦ inr (λ I p. y (mask n I) (mask-below n I) (part-same q r n A S k I (members (mask n I)) (λ j l. sym (members-mask n I j l)) p))
      ]

  none_part : (S : ℕ → Bool) → IsIndependentPart q r n A S 0 (λ _. false)
  none_part S = record {
    within = λ j l t. absurd (true≢false (sym t));
    elements = size_none n;
    independent = empty_independent q r n A;
  }

  rank_from : (S : ℕ → Bool) (k : ℕ) → ((m : ℕ) (I : ℕ → Bool) → IsIndependentPart q r n A S m I → m ≤ k) → (k : ℕ) × IsRankOf q r n A S k
  rank_from S zero h = (0, record { reached = ((λ _. false), none_part S); greatest = h })
  rank_from S (suc k) h =
      elim (some_part S (suc k)) [
        | inl w ↦ (suc k, record { reached = w; greatest = h })
        | inr none ↦ rank_from S k (λ m I p. (let l : m ≤ suc k = h m I p in
            elim (cases_eq m (suc k)) [ inl e ↦ absurd (none I (subst (λ (x : ℕ). IsIndependentPart q r n A S x I) e p)) | inr ne ↦ omega arith ]))
      ]

  pub rank_exists : (S : ℕ → Bool) → (k : ℕ) × IsRankOf q r n A S k
  rank_exists S = rank_from S n (λ m I p. (let l : size_below n I ≤ n = size_most n I in let e : size_below n I ≡ m = p.elements in omega arith))

  -- ---- augmentation

  -- column e is a combination of the columns in I
  abbrev Spanned : (ℕ → Bool) → ℕ → Type 0
  Spanned I e = (x : ℕ → ℕ) × AreCoefficients q n I x × ((i : ℕ) → i < r → combination q n A x i ≡ A i e)

  -- a column in I, by itself
  spanned_own : (I : ℕ → Bool) (e : ℕ) → e < n → I e ≡ true → Spanned I e
  spanned_own I e l t = (
    (λ k. unit k e),
    record {
      codes = λ k _. unit_code q F k e;
      outside = λ k m f. ap (λ b. cond b 1 0) (other_number k e (λ i. true≢false (sym t ∙ ap I (sym i) ∙ f)));
    },
    (λ i m. times_unit_column q F n A i e l (codes i e m l)),
  )

  -- the coefficient of e in a relation of I with e isn't 0
  relation_at : (I : ℕ → Bool) (e : ℕ) → e < n → IsIndependent q r n A I → (w : Relation q r n A (with_element e I)) → w.a e ≢ 0
  relation_at I e l h w z = w.nonzero (h.only_zero w.a (record { codes = w.coefficients.codes; outside = out }) w.zero_combination w.at w.at_below)
    where
      out : (j : ℕ) → j < n → I j ≡ false → w.a j ≡ 0
      out j m f = elim (cases_eq j e) [
        | inl i ↦ ap w.a i ∙ z
        | inr i ↦ w.coefficients.outside j m (with_other e I j i ∙ f)
      ]

  -- a column that makes I dependent, from the relation divided by its coefficient
  spanned_related : (I : ℕ → Bool) (e : ℕ) → e < n → IsIndependent q r n A I → Relation q r n A (with_element e I) → Spanned I e
  spanned_related I e l h w = (
    x,
    record { codes = λ j _. F.plus_below _ _; outside = out },
    (λ i m. combination_plus q F n A (λ j. unit j e) (λ j. times q t (w.a j)) i
        ∙ (λ k. plus q (times_unit_column q F n A i e l (codes i e m l) k)
        ((combination-scaled q F n A t w.a i ∙ ap (times q t) (w.zero_combination i m) ∙ times_zero q F t) k))
        ∙ plus_zero_right q F (A i e) (codes i e m l)),
  )
    where
      t : ℕ
      t = negative q (times q 1 (inverse q (w.a e)))

      x : ℕ → ℕ
      x j = plus q (unit j e) (times q t (w.a j))

      out : (j : ℕ) → j < n → I j ≡ false → x j ≡ 0
      out j m f = elim (cases_eq j e) [
        | inl i ↦ ap x i ∙ ap (λ b. plus q (cond b 1 0) (times q t (w.a e))) (same_number e)
            ∙ cleared_entry q F 1 (w.a e) F.two (w.coefficients.codes e l) (relation_at I e l h w)
        | inr i ↦ (λ k. plus q (cond (other_number j e i k) 1 0)
            ((ap (times q t) (w.coefficients.outside j m (with_other e I j i ∙ f)) ∙ times_zero q F t) k)) ∙ F.plus_zero 0 (zero_below q F)
      ]

  -- independent columns that are all combinations of the columns in I are at most as many: X e has the coefficients of column e
  module _ (I J : ℕ → Bool) (h : IsIndependent q r n A J) (X : ℕ → ℕ → ℕ)
      (X_in : (e : ℕ) → e < n → J e ≡ true → AreCoefficients q n I (X e))
      (X_is : (e : ℕ) → e < n → J e ≡ true → (i : ℕ) → i < r → combination q n A (X e) i ≡ A i e) where
    -- the coefficients as a matrix, with a column for each one in J
    abbrev coefficients : Matrix
    coefficients k l = X (pick n J l) k

    at_column : (l : ℕ) → l < size_below n J → AreCoefficients q n I (X (pick n J l))
    at_column l m = let p : Picks n J (pick n J) = pick_picks n J in X_in (pick n J l) (p.below l m) (p.member l m)

    -- A_J a = A (X a), and X a is 0
    picked_combination : (a : ℕ → ℕ) →
        ((i : ℕ) → i < size_below n I → combination q (size_below n J) (λ i l. coefficients (pick n I i) l) a i ≡ 0) → (i : ℕ) →
        i < r → combination q (size_below n J) (λ i l. A i (pick n J l)) a i ≡ 0
    picked_combination a z i m =
        sum_same q F (size_below n J) (λ l. times q (A i (pick n J l)) (a l))
        (λ l. times q (matrix_product q n A coefficients i l) (a l))
        (λ l o. ap (λ y. times q y (a l)) (sym (X_is (pick n J l) (p.below l o) (p.member l o) i m)))
        ∙ combination-product q F (size_below n J) n A coefficients a i
        ∙ combination_zero q F n A (combination q (size_below n J) coefficients a) i row
      where
        p : Picks n J (pick n J)
        p = pick_picks n J

        c : Picks n I (pick n I)
        c = pick_picks n I

        row : (k : ℕ) → k < n → combination q (size_below n J) coefficients a k ≡ 0
        row k o = elim (cases_Bool (I k)) [
          | inl t ↦ ap (combination q (size_below n J) coefficients a) (sym (c.place k o t)) ∙ z (size_below k I) (size_grows k n I o t)
          | inr f ↦ sum_same q F (size_below n J) (λ l. times q (coefficients k l) (a l)) (λ _. 0)
              (λ l u. ap (λ y. times q y (a l)) ((at_column l u).outside k o f) ∙ zero_times q F (a l)) ∙ sum_zero q F (size_below n J)
        ]

    combinations_bound : size_below n J ≤ size_below n I
    combinations_bound =
        independent_bound q F (size_below n J) (size_below n I) (λ i l. coefficients (pick n I i) l)
        (λ i l o u. (at_column l u).codes (pick n I i) ((pick_picks n I).below i o))
        (record { only_zero = λ a c z. (set_independent q F J (pick n J) r n A (pick_picks n J) h).only_zero a c (picked_combination a z) })

  spanned_bound : (I J : ℕ → Bool) → IsIndependent q r n A J → ((e : ℕ) → e < n → J e ≡ true → Spanned I e) → size_below n J ≤ size_below n I
  spanned_bound I J h s = combinations_bound I J h (λ e. (chosen e).0) (λ e l t. ((chosen e).1 l t).0) (λ e l t. ((chosen e).1 l t).1)
    where
      chosen : (e : ℕ) → (x : ℕ → ℕ) × (e < n → J e ≡ true → AreCoefficients q n I x × ((i : ℕ) → i < r → combination q n A x i ≡ A i e))
      chosen e =
          elim (cases_lt e n) [
            | inr g ↦ ((λ _. 0), (λ l _. absurd (omega arith)))
            | inl l ↦ elim (cases_Bool (J e)) [
              | inr f ↦ ((λ _. 0), (λ _ t. absurd (true≢false (sym t ∙ f))))
              | inl t ↦ (let w = s e l t in (w.0, (λ _ _. (w.1, w.2))))
            ]
          ]

  -- (I3): an independent set of fewer elements than another one can take one of its elements
  pub augmentation : (I J : ℕ → Bool) → IsIndependent q r n A I → IsIndependent q r n A J → size_below n I < size_below n J
      → (e : ℕ) × (e < n) × (J e ≡ true) × (I e ≡ false) × IsIndependent q r n A (with_element e I)
  augmentation I J h g l =
      elim (search_below n (λ e. (J e ≡ true) × (I e ≡ false) × IsIndependent q r n A (with_element e I)) (λ e. J e ≡ true → Spanned I e) case) [
        | inl w ↦ (w.0, w.1, w.2.0, w.2.1, w.2.2)
        | inr s ↦ (let b : size_below n J ≤ size_below n I = spanned_bound I J g s in absurd (omega arith))
      ]
    where
      case : (e : ℕ) → e < n → ((J e ≡ true) × (I e ≡ false) × IsIndependent q r n A (with_element e I)) ⊎ (J e ≡ true → Spanned I e)
      case e m =
          elim (cases_Bool (I e)) [
            | inl t ↦ inr (λ _. spanned_own I e m t)
            | inr f ↦ elim (decided q F r n A codes (with_element e I)) [
              | inr w ↦ inr (λ _. spanned_related I e m h w)
              | inl d ↦ elim (cases_Bool (J e)) [ inl t ↦ inl (t, f, d) | inr o ↦ inr (λ t. absurd (true≢false (sym t ∙ o))) ]
            ]
          ]

  -- (B2): of two independent sets within S of one size, the first can have an element exchanged for one of the second
  pub exchange : (S : ℕ → Bool) (k : ℕ) (B D : ℕ → Bool) → IsIndependentPart q r n A S k B → IsIndependentPart q r n A S k D →
      (x : ℕ) → x < n → B x ≡ true → D x ≡ false
      → (y : ℕ) × (y < n) × (D y ≡ true) × (B y ≡ false) × IsIndependentPart q r n A S k (with_element y (but x B))
  exchange S k B D b d x l t f =
      let s : size_below n (but x B) + 1 ≡ size_below n B = size_but x n B l t in
      let e : size_below n B ≡ k = b.elements in
      let e' : size_below n D ≡ k = d.elements in
      let w = augmentation (but x B) D (smaller_independent q r n A (but x B) B down b.independent) d.independent (omega arith) in
      let (y, m, ty, fy, h) = w in
      let ne : y ≢ x = λ i. true≢false (sym ty ∙ ap D i ∙ f) in
      let z : size_below n (with_element y (but x B)) ≡ size_below n (but x B) + 1 = size_with y n (but x B) m fy in
      (y, m, ty, sym (but_other x B y ne) ∙ fy, record { within = within y ty; elements = z ∙ s ∙ e; independent = h })
    where
      down : (j : ℕ) → j < n → B j ≡ false → but x B j ≡ false
      down j m g = elim (j == x) as (λ c. cond c false (B j) ≡ false) [ true ↦ refl | false ↦ g ]

      within : (y : ℕ) → D y ≡ true → (j : ℕ) → j < n → with_element y (but x B) j ≡ true → S j ≡ true
      within y ty j m o = elim (cases_eq j y) [
        | inl i ↦ d.within j m (ap D i ∙ ty)
        | inr i ↦ b.within j m (elim (cases_Bool (B j)) [ inl u ↦ u | inr g ↦ absurd (true≢false (sym o ∙ with_other y (but x B) j i ∙ down j m g)) ])
      ]

  -- an independent set within S that no column in S can be added to has as many elements as the rank
  pub greatest_part : (S : ℕ → Bool) (k m : ℕ) (B : ℕ → Bool) → IsRankOf q r n A S k → IsIndependentPart q r n A S m B
      → ((e : ℕ) → e < n → S e ≡ true → B e ≡ false → ¬ (IsIndependent q r n A (with_element e B))) → m ≡ k
  greatest_part S k m B h b none =
      elim (cases_lt m k) [
        | inr g ↦ (let l : m ≤ k = h.greatest m B b in omega arith)
        | inl l ↦ (let (D, d) = h.reached in
            let e : size_below n B ≡ m = b.elements in
            let e' : size_below n D ≡ k = d.elements in
            let (y, o, t, f, i) = augmentation B D b.independent d.independent (omega arith) in
            absurd (none y o (d.within y o t) f i))
      ]

  -- independent columns in a set are at most as many as the rows
  pub set_bound : (S : ℕ → Bool) → IsIndependent q r n A S → size_below n S ≤ r
  set_bound S h =
      independent_bound q F (size_below n S) r (λ i l. A i (pick n S l))
      (λ i l m o. codes i (pick n S l) m ((pick_picks n S).below l o)) (set_independent q F S (pick n S) r n A (pick_picks n S) h)
