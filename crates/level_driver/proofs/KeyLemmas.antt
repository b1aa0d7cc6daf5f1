-- Insertions into a set of keys, and the representations that keys stand for.
use Rattle.std.proofs.Common.{Bor, ◌≡◌, ◌⊎◌, ℕ, zero, suc, List, [], ◌∷◌, ◌++◌, map, inl, inr, refl, sym, subst, arith}
use Rattle.std.specs.List.{Contains, AllZip}
use Rattle.std.specs.Map.Iter.{deref}
use Rattle.std.proofs.lemmas.List.{map-append}
use Rattle.std.specs.Cmp.Lexicographic.{slice_cmp}
use Rattle.std.specs.Ordering.{nat_cmp, match_ordering}
use Rattle.std.specs.declared.cmp.Ordering.{Ordering}
use Rattle.std.specs.declared.cmp.Ordering.TheVariants.{Less, Equal, Greater}
use Rattle.std.specs.BTreeSet.{insert_key}
use Rattle.std.proofs.lemmas.Map.Lookups.{CmpEqualImpliesEq, exact_bytes}
use Rattle.std.proofs.lemmas.Slice.Zip.{all_zipped_more}
use Rattle.matroid_theory.specs.Rep.{Rep, Shape}
use Rattle.form_key.specs.Packing.{IsPackedAs, packing}
use Rattle.level_driver.specs.Children.{Adds}
use Rattle.matrix_lemmas.proofs.Lists.{here, there, found}

module _ {K : Type 0} (R : K → K → Ordering) (exact : CmpEqualImpliesEq R) (k : K) where
  -- an insertion adds the key and nothing else
  inserted : (ks : List K) (q : K) → Contains (insert_key R ks k) q → Contains ks q ⊎ (q ≡ k)
  inserted [] q c = elim (found k q [] c) [ inl e ↦ inr (sym e) | inr (i, l, e) ↦ absurd (omega arith) ]
  inserted (x ∷ xs) q c = by_order (inserted xs q) (R k x) c
    where
      by_order : (Contains (insert_key R xs k) q → Contains xs q ⊎ (q ≡ k)) → (r : Ordering) →
          Contains (match_ordering r (k ∷ x ∷ xs) (x ∷ xs) (x ∷ insert_key R xs k)) q → Contains (x ∷ xs) q ⊎ (q ≡ k)
      by_order more Less c = elim (found k q (x ∷ xs) c) [ inl e ↦ inr (sym e) | inr d ↦ inl d ]
      by_order more Equal c = inl c
      by_order more Greater c =
          elim (found x q (insert_key R xs k) c) [
            | inl e ↦ inl (subst (Contains (x ∷ xs)) e (here x xs))
            | inr d ↦ elim (more d) [ inl b ↦ inl (there x q xs b) | inr e ↦ inr e ]
          ]

  kept : (ks : List K) (q : K) → Contains ks q → Contains (insert_key R ks k) q
  kept [] q (i, l, e) = absurd (omega arith)
  kept (x ∷ xs) q c = by_order (kept xs q) (R k x)
    where
      by_order : (Contains xs q → Contains (insert_key R xs k) q) → (r : Ordering) → Contains (match_ordering r (k ∷ x ∷ xs) (x ∷ xs) (x ∷ insert_key R xs k)) q
      by_order more Less = there k q (x ∷ xs) c
      by_order more Equal = c
      by_order more Greater =
          elim (found x q xs c) [
            | inl e ↦ subst (Contains (x ∷ insert_key R xs k)) e (here x (insert_key R xs k))
            | inr d ↦ there x q (insert_key R xs k) (more d)
          ]

  added : (ks : List K) → Contains (insert_key R ks k) k
  added [] = here k []
  added (x ∷ xs) = by_order (added xs) (R k x) refl
    where
      by_order : Contains (insert_key R xs k) k → (r : Ordering) → R k x ≡ r → Contains (match_ordering r (k ∷ x ∷ xs) (x ∷ xs) (x ∷ insert_key R xs k)) k
      by_order more Less e = here k (x ∷ xs)
      by_order more Equal e = subst (Contains (x ∷ xs)) (sym (exact k x e)) (here x xs)
      by_order more Greater e = there x k (insert_key R xs k) more

-- the keys after an insertion
pub adds : (old : List (List ℕ)) (key : List ℕ) → Adds old (insert_key (slice_cmp nat_cmp) old key) key
adds old key other = (
  inserted (slice_cmp nat_cmp) exact_bytes key old other,
  λ h.
      elim h [
        | inl c ↦ kept (slice_cmp nat_cmp) exact_bytes key old other c
        | inr e ↦ subst (Contains (insert_key (slice_cmp nat_cmp) old key)) (sym e) (added (slice_cmp nat_cmp) exact_bytes key old)
      ],
)

-- one more key is unpacked
pub packed_more : (s : Shape) (forms new : List Rep) (keys : List (List ℕ)) (M : Rep) (key : List ℕ) → AllZip (λ M key. IsPackedAs s key M) forms keys
    → IsPackedAs s key M → new ≡ forms ++ M ∷ [] → AllZip (λ M key. IsPackedAs s key M) new (keys ++ key ∷ [])
packed_more s forms new keys M key z p is =
    subst (λ (new : List Rep). AllZip (λ M key. IsPackedAs s key M) new (keys ++ key ∷ [])) (sym is)
    (all_zipped_more (λ (M : Rep) (key : List ℕ). IsPackedAs s key M) forms keys M key z p)

-- the same, where the keys are gone through by reference
pub packed_next : (s : Shape) (forms new : List Rep) (yielded : List (Bor (List ℕ))) (key : Bor (List ℕ)) →
    AllZip (λ M key. IsPackedAs s key M) forms (map deref yielded) → (M : Rep) × IsPackedAs s key.now M × (new ≡ forms ++ M ∷ []) →
    AllZip (λ M key. IsPackedAs s key M) new (map deref (yielded ++ key ∷ []))
packed_next s forms new yielded key z (M, p, is) =
    subst (AllZip (λ M key. IsPackedAs s key M) new) (sym (map-append deref yielded (key ∷ [])))
    (packed_more s forms new (map deref yielded) M key.now z p is)

-- a list that is packed place by place
pub packed_is : (s : Shape) (forms : List Rep) (keys : List (List ℕ)) → AllZip (λ M key. IsPackedAs s key M) forms keys → map packing forms ≡ keys
packed_is s [] [] z = refl
packed_is s [] (k ∷ ks) z = absurd z
packed_is s (M ∷ Ms) [] z = absurd z
packed_is s (M ∷ Ms) (k ∷ ks) z = λ i. z.0.packs i ∷ packed_is s Ms ks z.1 i

pub packed_each : (s : Shape) (forms : List Rep) (keys : List (List ℕ)) → AllZip (λ M key. IsPackedAs s key M) forms keys
    → (M : Rep) → Contains forms M → IsPackedAs s (packing M) M
packed_each s [] keys z M (k, l, e) = absurd (omega arith)
packed_each s (N ∷ Ns) [] z M c = absurd z
packed_each s (N ∷ Ns) (k ∷ ks) z M (zero, l, e) =
    subst (λ (M : Rep). IsPackedAs s (packing M) M) e (subst (λ key. IsPackedAs s key N) (sym z.0.packs) z.0)
packed_each s (N ∷ Ns) (k ∷ ks) z M (suc i, l, e) = packed_each s Ns ks z.1 M (i, omega arith, e)
