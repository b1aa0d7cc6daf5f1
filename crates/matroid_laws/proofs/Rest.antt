-- Where the last column of a member is left out, a member is left.
use Rattle.std.proofs.Common.{◌≡◌, ℕ, zero, suc, ◌+◌, ◌<◌, ◌≤◌, refl, sym, ◌∙◌, ap, subst, arith, List, Bool, true, false, inl, inr}
use Rattle.std.specs.Bool.{◌==◌, nat_lt}
use Rattle.std.specs.Prelude.{◌||◌, ◌&&◌}
use Rattle.std.proofs.lemmas.Bool.{cases_lt, lt-ltb, le-ltb}
use Rattle.matroid_theory.specs.Field.{IsField, plus}
use Rattle.matroid_theory.specs.Matrix.{Matrix, combination, size_below, IsIndependent}
use Rattle.matroid_theory.specs.Rep.{Rep, count, size, order, matrix, IsShaped, IsStandard}
use Rattle.matroid_theory.specs.Matroid.{members, IsBasis, Agrees, IsSimple}
use Rattle.matroid_theory.specs.Minor.{Matroid, any_below, image, IsMinor}
use Rattle.matroid_theory.specs.Level.{Family, IsMember, followed_by}
use Rattle.matrix_lemmas.proofs.FieldLaws.{field_laws}
use Rattle.matrix_lemmas.proofs.Sums.{zero_below, plus_zero_right, times_zero, sum_below-code, other_number}
use Rattle.matrix_lemmas.proofs.Masks.{size-same, IsBasis-same}
use Rattle.matroid_laws.proofs.First.{size_every}
use Rattle.matrix_lemmas.proofs.Picked.{size_stays}
use Rattle.matroid_laws.proofs.Followed.{matrix_before, size_followed, shaped_before}
use Rattle.matrix_lemmas.proofs.Units.{units_independent}
use Rattle.matrix_lemmas.proofs.Ranks.{without_last, with_last, last_before, combination_last, last_coefficients, IsIndependent-codes, but, but_own, but_other}

module _ (q : ℕ) (F : IsField q) where
  -- a set without the last column
  first_independent : (r n : ℕ) (A : Matrix) (S : ℕ → Bool) → S n ≡ false → IsIndependent q r (suc n) A S → IsIndependent q r n A S
  first_independent r n A S e d = record {
    only_zero = λ a c z j l.
        sym (last_before q F n a 0 j l) ∙ d.only_zero (with_last q F n a 0) (last_coefficients q F n S a 0 c (zero_below q F) (λ _. refl))
        (λ i m. combination_last q F n A a 0 i ∙ ap (plus q (combination q n A a i)) (times_zero q F (A i n))
        ∙ plus_zero_right q F (combination q n A a i) (sum_below-code q F n _) ∙ z i m) j (omega arith);
  }

-- the numbers below r, among those below n
pub size_front : (r n : ℕ) → r ≤ n → size_below n (λ j. nat_lt j r) ≡ r
size_front r zero l = omega arith
size_front r (suc n) l =
    elim (cases_lt n r) [
      | inl b ↦ (let e : suc n ≡ r = omega arith in size-same (suc n) (λ j. nat_lt j r) (λ _. true) (λ j m. lt-ltb j r (omega arith)) ∙ size_every (suc n) ∙ e)
      | inr g ↦ size_stays n (λ j. nat_lt j r) (le-ltb n r g) ∙ size_front r n g
    ]

-- the unit columns of a standard representation are a basis
pub units_basis : (P : Rep) → IsShaped P → IsStandard P → (f : ℕ) → f < count P → IsBasis P f (λ j. nat_lt j P.rank)
units_basis P shaped s f l = record {
  full = size_front P.rank (size P) s.room;
  independent = units_independent (order P f) (field_laws (order P f) (shaped.orders f l)) P.rank (size P) (matrix P f) s.room (λ i j m n. s.units f i j l m n);
}

module _ (P : Rep) (v : List ℕ) (shaped : IsShaped (followed_by P v)) where
  field : (f : ℕ) → f < count P → IsField (order P f)
  field f l = field_laws (order P f) (shaped.orders f l)

  -- the bases of P are those of P followed by v that don't have the last column
  pub basis_in_whole : (f : ℕ) → f < count P → (T : ℕ → Bool) → T (size P) ≡ false → IsBasis P f T → IsBasis (followed_by P v) f T
  basis_in_whole f l T e b = record {
    full = ap (λ n. size_below n T) (size_followed P v) ∙ size_stays (size P) T e ∙ b.full;
    independent = subst (λ n. IsIndependent (order P f) P.rank n (matrix (followed_by P v) f) T) (sym (size_followed P v))
        (without_last (order P f) (field f l) P.rank (size P) (matrix (followed_by P v) f) T e
        (IsIndependent-codes (order P f) P.rank (size P) (matrix P f) (matrix (followed_by P v) f) T
        (λ i j _ m. sym (matrix_before P v f i j m)) b.independent));
  }

  pub basis_in_part : (f : ℕ) → f < count P → (T : ℕ → Bool) → T (size P) ≡ false → IsBasis (followed_by P v) f T → IsBasis P f T
  basis_in_part f l T e b = record {
    full = sym (size_stays (size P) T e) ∙ ap (λ n. size_below n T) (sym (size_followed P v)) ∙ b.full;
    independent =
        IsIndependent-codes (order P f) P.rank (size P) (matrix (followed_by P v) f) (matrix P f) T (λ i j _ m. matrix_before P v f i j m)
        (first_independent (order P f) (field f l) P.rank (size P) (matrix (followed_by P v) f) T e
        (subst (λ n. IsIndependent (order P f) P.rank n (matrix (followed_by P v) f) T) (size_followed P v) b.independent));
  }

  other : (S : ℕ → Bool) (j : ℕ) → j < size P → but (size P) S j ≡ S j
  other S j l = but_other (size P) S j (λ e. absurd (omega arith))

  -- the factors of P have the same bases
  rest_same : Agrees (followed_by P v) → (f g : ℕ) → f < count P → g < count P → (S : ℕ → Bool) → IsBasis P f S → IsBasis P g S
  rest_same a f g l m S b =
      let w = basis_in_whole f l (but (size P) S) (but_own (size P) S) (IsBasis-same P f S (but (size P) S) (λ j o. sym (other S j o)) b) in
      IsBasis-same P g (but (size P) S) S (other S) (basis_in_part g m (but (size P) S) (but_own (size P) S) (a.same f g l m (but (size P) S) w))

  pub rest_agrees : 0 < count P → (S : ℕ → Bool) → IsBasis P 0 S → Agrees (followed_by P v) → Agrees P
  rest_agrees pos S b a = record {
    some = λ f l. (S, rest_same a 0 f pos l S b);
    same = rest_same a;
  }

  rest_simple : IsSimple (followed_by P v) → IsSimple P
  rest_simple h f i j l m n =
      let k : size (followed_by P v) ≡ suc (size P) = size_followed P v in
      IsIndependent-codes (order P f) P.rank (size P) (matrix (followed_by P v) f) (matrix P f) (λ k. (k == i) || (k == j))
      (λ i' j' _ o. matrix_before P v f i' j' o)
      (first_independent (order P f) (field f l) P.rank (size P) (matrix (followed_by P v) f) (λ k. (k == i) || (k == j))
      (λ t. other_number (size P) i (λ e. absurd (omega arith)) t || other_number (size P) j (λ e. absurd (omega arith)) t)
      (subst (λ n. IsIndependent (order P f) P.rank n (matrix (followed_by P v) f) (λ k. (k == i) || (k == j))) (size_followed P v)
      (h f i j l (omega arith) (omega arith))))

  pub rest_minor : (N : Matroid) → 0 < count P → IsMinor N P → IsMinor N (followed_by P v)
  rest_minor N pos (f, C, h) = (
    f,
    but (size P) C,
    record {
      injection = record {
        below =
            λ x l. (let i = h.injection in let b : f x < size P = i.below x l in
            let k : size (followed_by P v) ≡ suc (size P) = size_followed P v in omega arith);
        apart = (let i = h.injection in i.apart);
      };
      outside = λ x l. (let i = h.injection in other C (f x) (i.below x l)) ∙ h.outside x l;
      contracted = ap (λ s. N.rank + s)
          (ap (λ n. size_below n (but (size P) C)) (size_followed P v) ∙ size_stays (size P) (but (size P) C) (but_own (size P) C)
          ∙ size-same (size P) (but (size P) C) C (other C)) ∙ h.contracted;
      bases = λ X l.
          let T : ℕ → Bool = λ k. image N.size f (members X) k || C k in
          let T' : ℕ → Bool = λ k. image N.size f (members X) k || but (size P) C k in
          let e : T' (size P) ≡ false = λ t. none X t || but_own (size P) C t in
          let b = h.bases X l in (
            (λ m. basis_in_whole 0 pos T' e (IsBasis-same P 0 T T' (λ j o. ap (λ x. image N.size f (members X) j || x) (sym (other C j o))) (b.0 m))),
            (λ w. b.1 (IsBasis-same P 0 T' T (λ j o. ap (λ x. image N.size f (members X) j || x) (other C j o)) (basis_in_part 0 pos T' e w))),
          );
    },
  )
    where
      any_none : (n : ℕ) (p : ℕ → Bool) → ((x : ℕ) → x < n → p x ≡ false) → any_below n p ≡ false
      any_none zero p z = refl
      any_none (suc n) p z = λ t. any_none n p (λ x l. z x (omega arith)) t || z n (omega arith) t

      and_false : (a b : Bool) → b ≡ false → (a && b) ≡ false
      and_false true b e = e
      and_false false b e = refl

      none : (X : ℕ) → image N.size f (members X) (size P) ≡ false
      none X = any_none N.size (λ x. members X x && (f x == size P))
          (λ x l. and_false (members X x) (f x == size P)
          (other_number (f x) (size P) (λ e. (let i = h.injection in let b : f x < size P = i.below x l in absurd (omega arith)))))

  rest_member_of : (q : Family) (n : ℕ) (S : ℕ → Bool) → IsBasis P 0 S → IsMember q n (followed_by P v) → IsMember q (size P) P
  rest_member_of q n S b m =
      let w = m.representation in
      record {
        same_factors = m.same_factors;
        ranks = m.ranks;
        sizes = refl;
        representation = record { some = w.some; shaped = shaped_before P v shaped; agrees = rest_agrees w.some S b w.agrees };
        simple = rest_simple m.simple;
        avoids = λ k d l x. m.avoids k d l (rest_minor _ w.some x);
      }

-- where the last column of a member is left out, and there is still a basis, a member is left
pub rest_member : (q : Family) (n : ℕ) (P : Rep) (v : List ℕ) (S : ℕ → Bool) → IsBasis P 0 S → IsMember q n (followed_by P v) → IsMember q (size P) P
rest_member q n P v S b m = let w = m.representation in rest_member_of P v w.shaped q n S b m
