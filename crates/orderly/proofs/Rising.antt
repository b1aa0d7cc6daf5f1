-- Lists of representations that rise.
use Rattle.std.proofs.Common.{◌≡◌, ◌∙◌, ℕ, ◌+◌, ◌<◌, List, [], ◌∷◌, ◌++◌, length, take, get_or, suc, sym, ap, subst, arith, inl, inr}
use Rattle.std.specs.List.{Contains, AllPairs, All}
use Rattle.std.specs.Cmp.Lexicographic.{slice_cmp}
use Rattle.std.specs.Ordering.{nat_cmp, ordering_then}
use Rattle.std.specs.declared.cmp.Ordering.{Ordering}
use Rattle.std.specs.declared.cmp.Ordering.TheVariants.{Less, Equal}
use Rattle.std.proofs.lemmas.Cmp.{tied_itself}
use Rattle.std.proofs.lemmas.List.{take_more, take_all}
use Rattle.std.proofs.lemmas.List.Elements.{Contains-get_or, Contains-append_cases}
use Rattle.std.proofs.lemmas.List.Kept.{AllPairs-cons}
use Rattle.matroid_theory.specs.Rep.{Rep, size}
use Rattle.matroid_theory.specs.Order.{rep_cmp}
use Rattle.matroid_theory.specs.Level.{followed_by}
use Rattle.matroid_laws.proofs.Levels.{columns_total}
use Rattle.matroid_laws.proofs.Prefix.{slice_cmp-append}
use Rattle.matrix_lemmas.proofs.Lists.{there}

-- ---- a list after another

module _ {X : Type 0} (R : X → X → Type 0) where
  pub all_pairs_append : (xs ys : List X) → AllPairs R xs → AllPairs R ys → ((x y : X) → Contains xs x → Contains ys y → R x y) →
      AllPairs R (xs ++ ys)
  all_pairs_append [] ys a b across = b
  all_pairs_append (x ∷ xs) ys a b across =
      AllPairs-cons R x (xs ++ ys) first
      (all_pairs_append xs ys (λ i j d l m. a (suc i) (suc j) d (omega arith) (omega arith)) b (λ z y c. across z y (there x z xs c)))
    where
      later : (k : ℕ) (l : k < length xs) (z : X) → get_or xs k z ≡ z → R x z
      later k l z e = subst (R x) e (a 0 (suc k) z (omega arith) (omega arith))

      first : All (R x) (xs ++ ys)
      first k d l =
          elim (Contains-append_cases xs ys (get_or (xs ++ ys) k d) (Contains-get_or (xs ++ ys) k d l)) [
            | inl (n, m, e) ↦ later n m (get_or (xs ++ ys) k d) e
            | inr c ↦ across x (get_or (xs ++ ys) k d) (0, omega arith, λ i. x) c
          ]

-- ---- followed by a column

-- below what is below, whatever columns follow
pub before_followed : (P Q : Rep) (v w : List ℕ) → size P ≡ size Q → rep_cmp P Q ≡ Less → rep_cmp (followed_by P v) (followed_by Q w) ≡ Less
before_followed P Q v w same less =
    slice_cmp-append (slice_cmp nat_cmp) P.columns (v ∷ []) Q.columns (w ∷ []) same
    ∙ ap (λ (o : Ordering). ordering_then o (slice_cmp (slice_cmp nat_cmp) (v ∷ []) (w ∷ []))) less

-- of two columns that follow one representation
pub followed_before : (P : Rep) (v w : List ℕ) → slice_cmp nat_cmp v w ≡ Less → rep_cmp (followed_by P v) (followed_by P w) ≡ Less
followed_before P v w less =
    slice_cmp-append (slice_cmp nat_cmp) P.columns (v ∷ []) P.columns (w ∷ []) (λ i. length P.columns)
    ∙ ap (λ (o : Ordering). ordering_then o (slice_cmp (slice_cmp nat_cmp) (v ∷ []) (w ∷ []))) (tied_itself columns_total P.columns)
    ∙ ap (λ (o : Ordering). ordering_then o Equal) less

-- a representation is its columns but the last, followed by the last
pub last_split : (N : Rep) (n : ℕ) → size N ≡ n + 1 → N ≡ followed_by (record N { columns = take n N.columns }) (get_or N.columns n [])
last_split N n s = λ i. record N { columns = (sym (take_all (n + 1) N.columns (omega arith)) ∙ take_more N.columns n [] (omega arith)) i }
