-- Whether a set is a basis, whether all factors agree, whether a representation is simple, and whether it has a minor.
use Rattle.std.proofs.Common.{◌≡◌, ℕ, ◌+◌, ◌^◌, ◌<◌, sym, ◌∙◌, ap, subst, Bool, false, List, inl, inr, ◌&&◌, ◌||◌}
use Rattle.std.specs.Bool.{◌==◌}
use Rattle.std.specs.Prelude.{◌↔◌}
use Rattle.std.specs.List.{All, Contains}
use Rattle.matroid_theory.specs.Field.{IsField}
use Rattle.matroid_theory.specs.Matrix.{Matrix, size_below, IsIndependent}
use Rattle.matroid_theory.specs.Rep.{Rep, count, size, order, matrix, IsShaped}
use Rattle.matroid_theory.specs.Matroid.{members, IsBasis, IsIndependentIn, Agrees, IsRepresentation, IsSimple}
use Rattle.matroid_theory.specs.Minor.{Matroid, image, IsInjection, IsMinorBy, IsMinor}
use Rattle.matrix_lemmas.proofs.FieldLaws.{field_laws}
use Rattle.matrix_lemmas.proofs.Masks.{size-same, IsBasis-same, any_below-same}
use Rattle.matrix_lemmas.proofs.Ranks.{decided, related_dependent}
use Rattle.existence.specs.Decided.{IsDecided}
use Rattle.existence.proofs.Deciding.{along, both, implied, iff, less, equal, equal_bools, each_below}
use Rattle.existence.proofs.Deciding.{each_two, each_three, some_set, each_set, contained, each_in, at_place, place_of}
use Rattle.existence.proofs.Shaped.{shaped_decided}
use Rattle.existence.proofs.Covers.{some_covered, number_cover, truth_cover, function_cover, pair_cover}

-- a set of columns is independent, or has a relation
pub independent_decided : (q : ℕ) → IsField q → (r n : ℕ) (A : Matrix) → ((i j : ℕ) → i < r → j < n → A i j < q) → (S : ℕ → Bool)
    → IsDecided (IsIndependent q r n A S)
independent_decided q F r n A codes S = elim (decided q F r n A codes S) [ inl h ↦ inl h | inr w ↦ inr (related_dependent q F r n A S w) ]

-- what holds of each element of a list
pub all_decided : {X : Type 0} (P : X → Type 0) → ((x : X) → IsDecided (P x)) → (xs : List X) → IsDecided (All P xs)
all_decided P d xs =
    along (each_in xs P d) (λ w k d l. w _ (at_place xs k d l)) (λ all x i. (let at = place_of x x xs i in subst P at.2 (all at.0 x at.1)))

module _ (M : Rep) (s : IsShaped M) where
  pub independent_in_decided : (f : ℕ) → f < count M → (S : ℕ → Bool) → IsDecided (IsIndependentIn M f S)
  independent_in_decided f l S = independent_decided (order M f) (field_laws (order M f) (s.orders f l)) M.rank (size M) (matrix M f)
      (λ i j a b. s.codes f i j l a b) S

  pub basis_decided : (f : ℕ) → f < count M → (S : ℕ → Bool) → IsDecided (IsBasis M f S)
  basis_decided f l S =
      along (both (equal (size_below (size M) S) M.rank) (λ _. independent_in_decided f l S)) (λ w. record { full = w.0; independent = w.1 })
      (λ b. (b.full, b.independent))

  pub agrees_decided : IsDecided (Agrees M)
  agrees_decided =
      along
      (both (each_below (count M) (λ f. (S : ℕ → Bool) × IsBasis M f S) (λ f l. some_set (size M) (IsBasis M f) (IsBasis-same M f) (basis_decided f l)))
      (λ _. each_two (count M) (count M) (λ f g. (S : ℕ → Bool) → IsBasis M f S → IsBasis M g S)
      (λ f g l m. each_set (size M) (λ S. IsBasis M f S → IsBasis M g S)
      (λ S T e h b. IsBasis-same M g S T e (h (IsBasis-same M f T S (λ j k. sym (e j k)) b)))
      (λ S. implied (basis_decided f l S) (λ _. basis_decided g m S)))))
      (λ w. record { some = w.0; same = w.1 }) (λ a. (a.some, a.same))

  pub simple_decided : IsDecided (IsSimple M)
  simple_decided = each_three (count M) (size M) (size M) (λ f i j. IsIndependentIn M f (λ k. (k == i) || (k == j)))
      (λ f i j l _ _. independent_in_decided f l _)

pub representation_decided : (M : Rep) → IsDecided (IsRepresentation M)
representation_decided M =
    along (both (less 0 (count M)) (λ _. both (shaped_decided M) (agrees_decided M)))
    (λ w. record { some = w.0; shaped = w.1.0; agrees = w.1.1 }) (λ r. (r.some, (r.shaped, r.agrees)))

-- ---- minors

injection_decided : (n m : ℕ) (f : ℕ → ℕ) → IsDecided (IsInjection n m f)
injection_decided n m f =
    along
    (both (each_below n (λ x. f x < m) (λ x _. less _ _)) (λ _. each_two n n (λ x y. f x ≡ f y → x ≡ y)
    (λ x y _ _. implied (equal (f x) (f y)) (λ _. equal x y))))
    (λ w. record { below = w.0; apart = w.1 }) (λ w. (w.below, w.apart))

module _ (N : Matroid) (M : Rep) where
  -- the same embedding
  minor_near : (f g : ℕ → ℕ) (C D : ℕ → Bool) → ((x : ℕ) → x < N.size → f x ≡ g x) → ((j : ℕ) → j < size M → C j ≡ D j) → IsMinorBy N M f C
      → IsMinorBy N M g D
  minor_near f g C D a b w = record {
    injection = record {
      below = λ x l. subst (λ (y : ℕ). y < size M) (a x l) (w.injection.below x l);
      apart = λ x y l m e. w.injection.apart x y l m (a x l ∙ e ∙ sym (a y m));
    };
    outside = λ x l. ap D (sym (a x l)) ∙ sym (b (f x) (w.injection.below x l)) ∙ w.outside x l;
    contracted = ap (λ k. N.rank + k) (sym (size-same (size M) C D b)) ∙ w.contracted;
    bases = λ X l. (let old = w.bases X l in
        ((λ c. IsBasis-same M 0 _ _ (near X) (old.0 c)), (λ c. old.1 (IsBasis-same M 0 _ _ (λ k m. sym (near X k m)) c))));
  }
    where
      near : (X k : ℕ) → k < size M → (image N.size f (members X) k || C k) ≡ (image N.size g (members X) k || D k)
      near X k m t = any_below-same N.size (λ x. members X x && (f x == k)) (λ x. members X x && (g x == k))
          (λ x l s. members X x && (a x l s == k)) t || b k m t

  -- the embeddings and the contracted sets are finitely many, up to what counts of them
  pub minor_decided : IsShaped M → 0 < count M → IsDecided (IsMinor N M)
  minor_decided s some =
      along
      (some_covered _ _ _ (pair_cover _ _ _ _ _ _ (function_cover _ _ _ (number_cover (size M)) 0 N.size) (function_cover _ _ _ truth_cover false (size M)))
      (λ p. IsMinorBy N M p.0 p.1) (λ p w. (w.injection.below, λ j l. tt)) (λ p r e w. minor_near p.0 r.0 p.1 r.1 e.0 e.1 w)
      (λ p. by_decided p.0 p.1))
      (λ w. (w.0.0, w.0.1, w.1)) (λ w. ((w.0, w.1), w.2))
    where
      by_decided : (f : ℕ → ℕ) (C : ℕ → Bool) → IsDecided (IsMinorBy N M f C)
      by_decided f C =
          along
          (both (injection_decided N.size (size M) f)
          (λ _. both (each_below N.size (λ x. C (f x) ≡ false) (λ x _. equal_bools _ _))
          (λ _. both (equal (N.rank + size_below (size M) C) M.rank)
          (λ _. each_below (2 ^ N.size) (λ X. Contains N.bases X ↔ IsBasis M 0 (λ k. image N.size f (members X) k || C k))
          (λ X _. iff (contained equal X N.bases) (basis_decided M s 0 some (λ k. image N.size f (members X) k || C k)))))))
          (λ w. record { injection = w.0; outside = w.1.0; contracted = w.1.1.0; bases = w.1.1.1 }) (λ w. (w.injection, (w.outside, (w.contracted, w.bases))))
