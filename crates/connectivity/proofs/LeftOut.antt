-- Two columns are left out: the others, and their rank.
use Rattle.std.proofs.Common.{◌≡◌, ◌≢◌, ℕ, ◌+◌, ◌<◌, ◌≤◌, refl, sym, ◌∙◌, ap, arith, Bool, true, false, not, ◌||◌, inl, inr, ◌⊎◌}
use Rattle.std.specs.Bool.{◌==◌}
use Rattle.std.proofs.lemmas.Bool.{cases_lt, cases_Bool}
use mathlib.Core.Bool.{true≢false}
use Rattle.matroid_theory.specs.Field.{IsField}
use Rattle.matroid_theory.specs.Matrix.{size_below}
use Rattle.matroid_theory.specs.Rep.{Rep, size, order, matrix, KeepsLimits}
use Rattle.matroid_theory.specs.Matroid.{members}
use Rattle.matroid_theory.specs.Connection.{IsRank}
use Rattle.matrix_lemmas.proofs.Bases.{with_element, with_own, with_other, set_bound, size_none}
use Rattle.matrix_lemmas.proofs.FieldLaws.{field_laws}
use Rattle.matrix_lemmas.proofs.Masks.{size-same}
use Rattle.matrix_lemmas.proofs.Sums.{same_number, other_number}
use Rattle.connectivity.specs.Sides.{IsSide}
use Rattle.connectivity.proofs.SplitLemmas.{rank_same}

-- all columns but i and j
abbrev pub without : ℕ → ℕ → ℕ → Bool
without i j k = not ((k == i) || (k == j))

without_first : (i j : ℕ) → without i j i ≡ false
without_first i j = ap (λ b. not (b || (i == j))) (same_number i)

or_true : (b : Bool) → (b || true) ≡ true
or_true true = refl
or_true false = refl

without_second : (i j : ℕ) → without i j j ≡ false
without_second i j = ap (λ b. not ((j == i) || b)) (same_number j) ∙ ap not (or_true (j == i))

without_other : (i j k : ℕ) → k ≢ i → k ≢ j → without i j k ≡ true
without_other i j k n m = λ t. not (other_number k i n t || other_number k j m t)

-- the set has the columns before n but for i and j
pub record IsRest (i j n : ℕ) (S : ℕ → Bool) : Type 0 where
  pub before : (k : ℕ) → k < n → S k ≡ without i j k
  pub after : (k : ℕ) → n ≤ k → S k ≡ false

pub none_rest : (i j : ℕ) (S : ℕ → Bool) → ((k : ℕ) → S k ≡ false) → IsRest i j 0 S
none_rest i j S h = record { before = λ k l. absurd (omega arith); after = λ k _. h k }

pub rest_within : (i j n : ℕ) (S : ℕ → Bool) → IsRest i j n S → (k : ℕ) → S k ≡ true → without i j k ≡ true
rest_within i j n S r k t = elim (cases_lt k n) [ inl b ↦ sym (r.before k b) ∙ t | inr g ↦ absurd (true≢false (sym t ∙ r.after k g)) ]

pub rest_with : (i j n : ℕ) (S T : ℕ → Bool) → IsRest i j n S → n ≢ i → n ≢ j → ((k : ℕ) → T k ≡ with_element n S k) → IsRest i j (n + 1) T
rest_with i j n S T r o p h = record {
  before = λ k l. elim (cases_lt k n) [
    | inl b ↦ (let ne : k ≢ n = omega arith in h k ∙ with_other n S k ne ∙ r.before k b)
    | inr g ↦ (let e : k ≡ n = omega arith in ap T e ∙ h n ∙ with_own n S ∙ sym (ap (without i j) e ∙ without_other i j n o p))
  ];
  after = λ k l. (let ne : k ≢ n = omega arith in h k ∙ with_other n S k ne ∙ r.after k (omega arith));
}

pub rest_same : (i j n : ℕ) (S : ℕ → Bool) → IsRest i j n S → (n ≡ i) ⊎ (n ≡ j) → IsRest i j (n + 1) S
rest_same i j n S r o = record {
  before = λ k l. elim (cases_lt k n) [
    | inl b ↦ r.before k b
    | inr g ↦ (let e : k ≡ n = omega arith in ap S e ∙ r.after n (omega arith) ∙ sym (ap (without i j) e ∙ elim o [
      | inl p ↦ ap (without i j) p ∙ without_first i j
      | inr p ↦ ap (without i j) p ∙ without_second i j
    ]))
  ];
  after = λ k l. r.after k (omega arith);
}

-- the columns before n but for i and j, with a basis of them, where they are not of full rank
pub record AreLacking (M : Rep) (i j n set basis : ℕ) : Type 0 where
  pub rest : IsRest i j n (members set)
  pub side : IsSide M set basis
  pub lacking : ¬ (IsRank M (members set) M.rank)

-- a set with a part of full rank has full rank
pub full_rank : (M : Rep) → KeepsLimits M → (S T : ℕ → Bool) → ((j : ℕ) → S j ≡ true → T j ≡ true) → IsRank M S M.rank → IsRank M T M.rank
full_rank M r S T up s =
    let F : IsField (order M 0) = field_laws (order M 0) (r.shaped.orders 0 r.fields.some) in
    record {
      reached = (let (I, p) = s.reached in (I, record { within = λ j l t. up j (p.within j l t); elements = p.elements; independent = p.independent }));
      greatest = λ m I p. (
          let b : size_below (size M) I ≤ M.rank = set_bound (order M 0) F M.rank (size M) (matrix M 0)
          (λ i j l m. r.shaped.codes 0 i j r.fields.some l m) I p.independent in
          let e : size_below (size M) I ≡ m = p.elements in
          omega arith);
    }

-- the empty set hasn't
pub none_lack : (M : Rep) → KeepsLimits M → (S : ℕ → Bool) → ((k : ℕ) → S k ≡ false) → ¬ (IsRank M S M.rank)
none_lack M r S h s =
    let (I, p) = s.reached in
    let outside : (j : ℕ) → j < size M →
    I j ≡ false = λ j l. elim (cases_Bool (I j)) [ inl t ↦ absurd (true≢false (sym (p.within j l t) ∙ h j)) | inr f ↦ f ] in
    let n : size_below (size M) I ≡ 0 = size-same (size M) I (λ _. false) outside ∙ size_none (size M) in
    let e : size_below (size M) I ≡ M.rank = p.elements in
    let positive : 0 < M.rank = r.rank_positive in
    omega arith

-- the rank of all columns but the two
pub rest_rank : (M : Rep) (i j : ℕ) (S : ℕ → Bool) → IsRest i j (size M) S → IsRank M (without i j) M.rank → IsRank M S M.rank
rest_rank M i j S r = rank_same M (without i j) S M.rank (λ k l. sym (r.before k l))

-- the rank of the columns without i and j is that without j and i
turned_without : (i j k : ℕ) → without i j k ≡ without j i k
turned_without i j k = ap not (turned (k == i) (k == j))
  where
    turned : (a b : Bool) → (a || b) ≡ (b || a)
    turned true true = refl
    turned true false = refl
    turned false true = refl
    turned false false = refl

-- the pairs of each column and one that isn't after it are all pairs
pub ranks_both : (M : Rep) → ((j : ℕ) → j < size M → (i : ℕ) → i ≤ j → IsRank M (without i j) M.rank) → (i j : ℕ) → i < size M →
    j < size M → IsRank M (without i j) M.rank
ranks_both M h i j l m = elim (cases_lt j i) [
  | inr b ↦ h j m i b
  | inl g ↦ rank_same M (without j i) (without i j) M.rank (λ k _. turned_without j i k) (h i l j (omega arith))
]
