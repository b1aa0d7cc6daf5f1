-- Embeddings of the first elements of a matroid.
use Rattle.std.proofs.Common.{◌≡◌, ◌≢◌, ◌↔◌, ℕ, suc, ◌+◌, ◌-◌, ◌^◌, ◌<◌, ◌≤◌, refl, sym, ◌∙◌, ap, subst, arith, Bool, true, false, inl, inr, ◌||◌, List, [], ◌∷◌, ◌++◌, lit<}
use Rattle.std.specs.List.{Contains}
use Rattle.std.specs.Bool.{◌==◌}
use Rattle.std.proofs.lemmas.Bool.{cases_lt}
use Rattle.std.proofs.Math.Nat.{pow-le-pow_right, two-pow-succ}
use Rattle.std.proofs.lemmas.Nat.Bits.{bit_at_above}
use Rattle.minor_test.specs.declared.search.Search.{Search}
use Rattle.minor_test.specs.Twins.{KeepsOrder}
use Rattle.matroid_theory.specs.Matrix.{size_below}
use Rattle.matroid_theory.specs.Rep.{Rep, size}
use Rattle.matroid_theory.specs.Matroid.{members, IsBasis}
use Rattle.matroid_theory.specs.Minor.{Matroid, image, IsMinorBy}
use Rattle.matrix_lemmas.proofs.Masks.{mask, members-mask, size-same, IsBasis-same}
use Rattle.matrix_lemmas.proofs.Bases.{size_most}
use Rattle.minor_test.specs.Searches.{first, BeginsWith, Embeds, image_with}
use Rattle.minor_test.proofs.Images.{image-same, image_narrower, size_image_with}

-- no embedding that keeps the order of twins begins with these images and this one
abbrev pub IsDone : Search → List ℕ → ℕ → Type 0
IsDone search images j = (f : ℕ → ℕ) → BeginsWith (images ++ j ∷ []) f → KeepsOrder search.twins.now.items f → ¬ (Embeds search f)

-- what a set is a basis exactly with
pub basis_iff : {P : Type 0} (M : Rep) (S T : ℕ → Bool) → ((j : ℕ) → j < size M → S j ≡ T j) → P ↔ IsBasis M 0 S → P ↔ IsBasis M 0 T
basis_iff M S T e h = ((λ p. IsBasis-same M 0 S T e (h.0 p)), (λ b. h.1 (IsBasis-same M 0 T S (λ j l. sym (e j l)) b)))

module _ (N : Matroid) (M : Rep) where
  -- the images of the elements alone count
  pub embedding-same : (f g : ℕ → ℕ) (C : ℕ → Bool) → ((x : ℕ) → x < N.size → f x ≡ g x) → IsMinorBy N M f C → IsMinorBy N M g C
  embedding-same f g C e h = record {
    injection = record {
      below = λ x l. subst (λ (y : ℕ). y < size M) (e x l) (h.injection.below x l);
      apart = λ x y l m i. h.injection.apart x y l m (e x l ∙ i ∙ sym (e y m));
    };
    outside = λ x l. ap C (sym (e x l)) ∙ h.outside x l;
    contracted = h.contracted;
    bases = λ X l. basis_iff M (image_with N.size f C (members X)) (image_with N.size g C (members X))
        (λ j _. ap (λ a. a || C j) (image-same N.size f g (members X) (members X) j e (λ _ _. refl))) (h.bases X l);
  }

  -- and of the contracted set the numbers of columns
  contracted-same : (f : ℕ → ℕ) (C D : ℕ → Bool) → ((j : ℕ) → j < size M → C j ≡ D j) → IsMinorBy N M f C → IsMinorBy N M f D
  contracted-same f C D e h = record {
    injection = h.injection;
    outside = λ x l. sym (e (f x) (h.injection.below x l)) ∙ h.outside x l;
    contracted = ap (λ k. N.rank + k) (sym (size-same (size M) C D e)) ∙ h.contracted;
    bases = λ X l. basis_iff M (image_with N.size f C (members X)) (image_with N.size f D (members X))
        (λ j m. ap (λ a. image N.size f (members X) j || a) (e j m)) (h.bases X l);
  }

  -- so it is a mask
  pub contracted_mask : (f : ℕ → ℕ) (C : ℕ → Bool) → IsMinorBy N M f C → IsMinorBy N M f (members (mask (size M) C))
  contracted_mask f C = contracted-same f C (members (mask (size M) C)) (λ j l. sym (members-mask (size M) C j l))

  -- there are columns for the elements and for the contracted set
  pub room : (f : ℕ → ℕ) (C : ℕ → Bool) → IsMinorBy N M f C → N.size + size_below (size M) C ≤ size M
  room f C h =
      let e : size_below (size M) (image_with N.size f C (λ _. true)) ≡ N.size + size_below (size M) C =
      size_image_with N.size (size M) f C h.injection.below h.injection.apart h.outside in
      let m : size_below (size M) (image_with N.size f C (λ _. true)) ≤ size M = size_most (size M) (image_with N.size f C (λ _. true)) in
      omega arith

  -- an embedding is one of the first elements
  pub narrower : (k : ℕ) (f : ℕ → ℕ) (C : ℕ → Bool) → k ≤ N.size → IsMinorBy N M f C → IsMinorBy (first N k) M f C
  narrower k f C m h = record {
    injection = record { below = λ x l. h.injection.below x (omega arith); apart = λ x y l o. h.injection.apart x y (omega arith) (omega arith) };
    outside = λ x l. h.outside x (omega arith);
    contracted = h.contracted;
    bases = λ X l. basis_iff M (image_with N.size f C (members X)) (image_with k f C (members X))
        (λ j _. ap (λ a. a || C j) (image_narrower k N.size f (members X) j m (λ x o _. ap (λ b. b == 1) (bit_at_above X k x l o))))
        (h.bases X (let p : 2 ^ k ≤ 2 ^ N.size = pow-le-pow_right (lit< tt) m in omega arith));
  }

  -- none of the elements
  pub none_embedded : (f : ℕ → ℕ) (C : ℕ → Bool) → N.rank + size_below (size M) C ≡ M.rank → (Contains N.bases 0 ↔ IsBasis M 0 C) → IsMinorBy (first N 0) M f C
  none_embedded f C e h = record {
    injection = record { below = λ x l. absurd (omega arith); apart = λ x y l. absurd (omega arith) };
    outside = λ x l. absurd (omega arith);
    contracted = e;
    bases = λ X l. let z : 0 ≡ X = omega arith in subst (λ (x : ℕ). Contains N.bases x ↔ IsBasis M 0 (image_with 0 f C (members x))) z h;
  }

  -- one more
  pub one_more_embedded : (k : ℕ) (f : ℕ → ℕ) (C : ℕ → Bool) → f k < size M → C (f k) ≡ false → ((x : ℕ) → x < k → f x ≢ f k)
      → ((X : ℕ) → X < 2 ^ k → Contains N.bases (2 ^ k + X) ↔ IsBasis M 0 (image_with (suc k) f C (members (2 ^ k + X))))
      → IsMinorBy (first N k) M f C → IsMinorBy (first N (suc k)) M f C
  one_more_embedded k f C l out free step h = record {
    injection = record {
      below = λ x m. elim (cases_lt x k) [ inl b ↦ h.injection.below x b | inr g ↦ (let e : k ≡ x = omega arith in subst (λ (y : ℕ). f y < size M) e l) ];
      apart = λ x y m o i. elim (cases_lt x k) [
        | inl b ↦ elim (cases_lt y k) [
          | inl c ↦ h.injection.apart x y b c i
          | inr g ↦ (let e : y ≡ k = omega arith in absurd (free x b (i ∙ ap f e)))
        ]
        | inr g ↦ (let e : x ≡ k = omega arith in elim (cases_lt y k) [
          | inl c ↦ absurd (free y c (sym i ∙ ap f e))
          | inr g ↦ omega arith
        ])
      ];
    };
    outside = λ x m. elim (cases_lt x k) [ inl b ↦ h.outside x b | inr g ↦ (let e : x ≡ k = omega arith in ap (λ y. C (f y)) e ∙ out) ];
    contracted = h.contracted;
    bases = λ X m. elim (cases_lt X (2 ^ k)) [
      | inl b ↦ basis_iff M (image_with k f C (members X)) (image_with (suc k) f C (members X))
          (λ j _. ap (λ a. a || C j) (sym (image_narrower k (suc k) f (members X) j (omega arith) (λ x o _. ap (λ b. b == 1) (bit_at_above X k x b o)))))
          (h.bases X b)
      | inr g ↦ (let (Y, o, e) = split X m g in subst (λ (x : ℕ). Contains N.bases x ↔ IsBasis M 0 (image_with (suc k) f C (members x))) e (step Y o))
    ];
  }
    where
      split : (X : ℕ) → X < 2 ^ suc k → 2 ^ k ≤ X → (Y : ℕ) × (Y < 2 ^ k) × (2 ^ k + Y ≡ X)
      split X m g = let d : 2 ^ suc k ≡ 2 ^ k + 2 ^ k = two-pow-succ k in (X - 2 ^ k, omega arith, omega arith)
