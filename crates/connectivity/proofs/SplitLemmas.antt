-- Separations that have given columns on their sides.
use Rattle.std.proofs.Common.{◌≡◌, ◌≢◌, ℕ, ◌+◌, ◌<◌, ◌≤◌, refl, sym, ◌∙◌, ap, subst, arith, Bool, true, false, not, inl, inr, ◌⊎◌}
use Rattle.std.proofs.lemmas.Bool.{cases_lt}
use mathlib.Core.Bool.{true≢false}
use Rattle.matroid_theory.specs.Matrix.{size_below}
use Rattle.matroid_theory.specs.Rep.{Rep, size, KeepsLimits}
use Rattle.matroid_theory.specs.Matroid.{Agrees}
use Rattle.matroid_theory.specs.Connection.{IsRank, IsSeparation}
use Rattle.matrix_lemmas.proofs.Bases.{with_element, with_own, with_other, size_most}
use Rattle.matrix_lemmas.proofs.Masks.{size-same}
use Rattle.connectivity.specs.Sides.{AreParts, IsSeparationUpTo}

-- a set has at least the rank of a part of it
pub rank_grows : (M : Rep) (S T : ℕ → Bool) (k l : ℕ) → ((j : ℕ) → j < size M → S j ≡ true → T j ≡ true) → IsRank M S k → IsRank M T l → k ≤ l
rank_grows M S T k l up s t = let (I, p) = s.reached in
    t.greatest k I (record { within = λ j m i. up j m (p.within j m i); elements = p.elements; independent = p.independent })

-- the rank depends on the numbers of columns in the set alone
pub rank_same : (M : Rep) (S T : ℕ → Bool) (k : ℕ) → ((j : ℕ) → j < size M → S j ≡ T j) → IsRank M S k → IsRank M T k
rank_same M S T k e s = record {
  reached = (let (I, p) = s.reached in (I, record { within = λ j m i. sym (e j m) ∙ p.within j m i; elements = p.elements; independent = p.independent }));
  greatest = λ m I p. s.greatest m I (record { within = λ j l i. e j l ∙ p.within j l i; elements = p.elements; independent = p.independent });
}

not_not : (b : Bool) → not (not b) ≡ b
not_not true = refl
not_not false = refl

-- the complement of a separation is one
pub turned : (M : Rep) (k : ℕ) (X : ℕ → Bool) → IsSeparation M k X → IsSeparation M k (λ j. not (X j))
turned M k X s =
    let twice : (λ (j : ℕ). not (not (X j))) ≡ X = λ i j. not_not (X j) i in
    record {
      large = s.other_large;
      other_large = subst (λ (Y : ℕ → Bool). k ≤ size_below (size M) Y) (sym twice) s.large;
      rank = s.other_rank;
      other_rank = s.rank;
      is_rank = s.is_other_rank;
      is_other_rank = subst (λ (Y : ℕ → Bool). IsRank M Y s.rank) (sym twice) s.is_rank;
      small = (let l : s.rank + s.other_rank < M.rank + k = s.small in omega arith);
    }

-- being a separation depends on the numbers of columns in the set alone
separation_same : (M : Rep) (k : ℕ) (X Y : ℕ → Bool) → ((j : ℕ) → j < size M → X j ≡ Y j) → IsSeparation M k X → IsSeparation M k Y
separation_same M k X Y e s =
    let f : (j : ℕ) → j < size M → not (X j) ≡ not (Y j) = λ j l. ap not (e j l) in
    record {
      large = subst (λ (n : ℕ). k ≤ n) (size-same (size M) X Y e) s.large;
      other_large = subst (λ (n : ℕ). k ≤ n) (size-same (size M) (λ j. not (X j)) (λ j. not (Y j)) f) s.other_large;
      rank = s.rank;
      other_rank = s.other_rank;
      is_rank = rank_same M X Y s.rank e s.is_rank;
      is_other_rank = rank_same M (λ j. not (X j)) (λ j. not (Y j)) s.other_rank f s.is_other_rank;
      small = s.small;
    }

pub up_to_same : (M : Rep) (k : ℕ) (X Y : ℕ → Bool) → ((j : ℕ) → j < size M → X j ≡ Y j) → IsSeparationUpTo M k X → IsSeparationUpTo M k Y
up_to_same M k X Y e s =
    record { order = s.order; positive = s.positive; most = s.most; separation = separation_same M s.order X Y e s.separation }

pub up_to_turned : (M : Rep) (k : ℕ) (X : ℕ → Bool) → IsSeparationUpTo M k X → IsSeparationUpTo M k (λ j. not (X j))
up_to_turned M k X s = record { order = s.order; positive = s.positive; most = s.most; separation = turned M s.order X s.separation }

-- the orders are 1, or 1 and 2
pub only_first : (M : Rep) (X : ℕ → Bool) → IsSeparationUpTo M 1 X → IsSeparation M 1 X
only_first M X s =
    let o : 0 < s.order = s.positive in
    let m : s.order ≤ 1 = s.most in
    let e : s.order ≡ 1 = omega arith in
    subst (λ (k : ℕ). IsSeparation M k X) e s.separation

pub first_or_second : (M : Rep) (X : ℕ → Bool) → IsSeparationUpTo M 2 X → IsSeparation M 1 X ⊎ IsSeparation M 2 X
first_or_second M X s = elim (cases_lt s.order 2) [
  | inl l ↦ inl (only_first M X (record { order = s.order; positive = s.positive; most = omega arith; separation = s.separation }))
  | inr l ↦ (let m : s.order ≤ 2 = s.most in let e : s.order ≡ 2 = omega arith in
      inr (subst (λ (k : ℕ). IsSeparation M k X) e s.separation))
]

-- with parts of too large ranks on the sides there is no separation
too_large : (M : Rep) (k n : ℕ) (F S : ℕ → Bool) → AreParts n F S → (a b : ℕ) → IsRank M F a → IsRank M S b → M.rank + k ≤ a + b →
    (X : ℕ → Bool) → IsSeparation M k X → ¬ ((j : ℕ) → j < n → X j ≡ F j)
too_large M k n F S p a b r s l X x same =
    let up : a ≤ x.rank = rank_grows M F X a x.rank
    (λ j _ t. elim (cases_lt j n) [ inl o ↦ same j o ∙ t | inr g ↦ absurd (true≢false (sym t ∙ p.first_below j g)) ]) r x.is_rank in
    let over : b ≤ x.other_rank = rank_grows M S (λ j. not (X j)) b x.other_rank
    (λ j _ t. elim (cases_lt j n)
    [ inl o ↦ ap not (same j o) ∙ sym (p.other j o) ∙ t | inr g ↦ absurd (true≢false (sym t ∙ p.second_below j g)) ]) s x.is_other_rank in
    let small : x.rank + x.other_rank < M.rank + k = x.small in
    omega arith

pub up_to_too_large : (M : Rep) (k n : ℕ) (F S : ℕ → Bool) → AreParts n F S → (a b : ℕ) → IsRank M F a → IsRank M S b → M.rank + k ≤ a + b →
    (X : ℕ → Bool) → IsSeparationUpTo M k X → ¬ ((j : ℕ) → j < n → X j ≡ F j)
up_to_too_large M k n F S p a b r s l X x =
    too_large M x.order n F S p a b r s (let m : x.order ≤ k = x.most in omega arith) X x.separation

-- all columns are on a side: which separation the sides are
module _ (M : Rep) (F S : ℕ → Bool) (p : AreParts (size M) F S) where
  other_size : size_below (size M) S ≡ size_below (size M) (λ j. not (F j))
  other_size = size-same (size M) S (λ j. not (F j)) p.other

  -- one of an order that is not above the sizes and that the ranks are small for
  pub sides_separate : (k order a b : ℕ) → IsRank M F a → IsRank M S b → 0 < order → order ≤ k → order ≤ size_below (size M) F →
      order ≤ size_below (size M) S → a + b < M.rank + order → IsSeparationUpTo M k F
  sides_separate k order a b r s o m l q small = record {
    order = order;
    positive = o;
    most = m;
    separation = record {
      large = l;
      other_large = subst (λ (n : ℕ). order ≤ n) other_size q;
      rank = a;
      other_rank = b;
      is_rank = r;
      is_other_rank = rank_same M S (λ j. not (F j)) b p.other s;
      small = small;
    };
  }

  -- and no other
  pub sides_large : (k : ℕ) → (x : IsSeparationUpTo M k F) → (x.order ≤ size_below (size M) F) × (x.order ≤ size_below (size M) S)
  sides_large k x = let y = x.separation in (y.large, subst (λ (n : ℕ). x.order ≤ n) (sym other_size) y.other_large)

  pub sides_small : (k a b : ℕ) → IsRank M F a → IsRank M S b → (x : IsSeparationUpTo M k F) → a + b < M.rank + x.order
  sides_small k a b r s x = elim (cases_lt (a + b) (M.rank + x.order)) [
    | inl l ↦ l
    | inr l ↦ absurd (too_large M x.order (size M) F S p a b r s l F x.separation (λ _ _. refl))
  ]

-- column n is on the first side
pub with_next : (n : ℕ) (X F G : ℕ → Bool) → X n ≡ true → ((k : ℕ) → G k ≡ with_element n F k) → ((j : ℕ) → j < n → X j ≡ F j) → (j : ℕ) → j < n + 1 → X j ≡ G j
with_next n X F G t g same j l = elim (cases_lt j n) [
  | inl b ↦ (let ne : j ≢ n = omega arith in same j b ∙ sym (with_other n F j ne) ∙ sym (g j))
  | inr o ↦ (let e : j ≡ n = omega arith in ap X e ∙ t ∙ sym (ap G e ∙ g n ∙ with_own n F))
]

-- what agrees with one more column agrees with those before
pub before_next : (n : ℕ) (X F G : ℕ → Bool) → ((k : ℕ) → G k ≡ with_element n F k) → ((j : ℕ) → j < n + 1 → X j ≡ G j) → (j : ℕ) → j < n → X j ≡ F j
before_next n X F G g same j l = let ne : j ≢ n = omega arith in same j (omega arith) ∙ g j ∙ with_other n F j ne

-- column n is on the second side
pub without_next : (n : ℕ) (X F : ℕ → Bool) → X n ≡ false → F n ≡ false → ((j : ℕ) → j < n → X j ≡ F j) → (j : ℕ) → j < n + 1 → X j ≡ F j
without_next n X F t f same j l = elim (cases_lt j n) [
  | inl b ↦ same j b
  | inr o ↦ (let e : j ≡ n = omega arith in ap X e ∙ t ∙ sym (ap F e ∙ f))
]

-- where the factors agree there is a column
pub some_column : (M : Rep) → KeepsLimits M → Agrees M → 0 < size M
some_column M r a = elim (cases_lt 0 (size M)) [
  | inl b ↦ b
  | inr g ↦ (let (S, b) = a.some 0 r.fields.some in
      let full : size_below (size M) S ≡ M.rank = b.full in
      let none : size_below (size M) S ≤ size M = size_most (size M) S in
      let positive : 0 < M.rank = r.rank_positive in
      omega arith)
]
