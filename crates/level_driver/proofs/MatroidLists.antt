-- The matroids of the forms of a list, one after another.
use Rattle.std.proofs.Common.{◌≡◌, ◌∙◌, ℕ, zero, suc, ◌+◌, ◌<◌, List, [], ◌∷◌, ◌++◌, length, get_or, take, Some, refl, sym, ap, subst, arith, inl, inr, length-append}
use Rattle.std.specs.Prelude.{slice_get}
use Rattle.std.proofs.lemmas.Bool.{cases_lt}
use Rattle.std.proofs.lemmas.List.{take_more}
use Rattle.std.proofs.lemmas.Option.{slice_get_within}
use Rattle.matroid_theory.specs.Rep.{Rep}
use Rattle.matroid_theory.specs.Minor.{Matroid, IsMatroidOf}
use Rattle.level_driver.specs.Listed.{AreMatroidsOf, IsFirst}
use Rattle.level_driver.proofs.Earlier.{IsEarliest, earliest, first}

module _ {X : Type 0} where
  -- an element of a list with one more behind it
  get_before : (xs : List X) (y : X) (k : ℕ) → k < length xs → slice_get (xs ++ y ∷ []) k ≡ slice_get xs k
  get_before [] y k l = absurd (omega arith)
  get_before (x ∷ xs) y zero l = refl
  get_before (x ∷ xs) y (suc k) l = get_before xs y k (omega arith)

  get_last : (xs : List X) (y : X) → slice_get (xs ++ y ∷ []) (length xs) ≡ Some y
  get_last [] y = refl
  get_last (x ∷ xs) y = get_last xs y

  -- an element of a front
  pub get_in_front : (xs : List X) (n k : ℕ) → k < n → slice_get (take n xs) k ≡ slice_get xs k
  get_in_front xs zero k l = absurd (omega arith)
  get_in_front [] (suc n) k l = refl
  get_in_front (x ∷ xs) (suc n) zero l = refl
  get_in_front (x ∷ xs) (suc n) (suc k) l = get_in_front xs n k (omega arith)

pub none_yet : AreMatroidsOf [] []
none_yet = record { number = refl; each = λ k M N e f. cc }

pushed : (forms : List Rep) (matroids : List Matroid) (M : Rep) (N : Matroid) → AreMatroidsOf forms matroids → IsMatroidOf M N →
    AreMatroidsOf (forms ++ M ∷ []) (matroids ++ N ∷ [])
pushed forms matroids M N h is = record { number = number; each = each }
  where
    number : length (matroids ++ N ∷ []) ≡ length (forms ++ M ∷ [])
    number = let s : length matroids ≡ length forms = h.number in length-append matroids (N ∷ []) ∙ ap (λ n. n + 1) s ∙ sym (length-append forms (M ∷ []))

    each : (k : ℕ) (L : Rep) (A : Matroid) → slice_get (forms ++ M ∷ []) k ≡ Some L → slice_get (matroids ++ N ∷ []) k ≡ Some A → IsMatroidOf L A
    each k L A e f =
        let s : length matroids ≡ length forms = h.number in
        let within : k < length (forms ++ M ∷ []) = slice_get_within (forms ++ M ∷ []) k L e in
        elim (cases_lt k (length forms)) [
          | inl l ↦ h.each k L A (sym (get_before forms M k l) ∙ e) (sym (get_before matroids N k (omega arith)) ∙ f)
          | inr g ↦ (let at : k ≡ length forms = omega (arith, length-append forms (M ∷ [])) in
              let also_at : k ≡ length matroids = omega arith in
              let is_L : M ≡ L = (let d : slice_get (forms ++ M ∷ []) k ≡ Some M = ap (slice_get (forms ++ M ∷ [])) at ∙ get_last forms M in cc) in
              let is_A : N ≡ A = (let d : slice_get (matroids ++ N ∷ []) k ≡ Some N = ap (slice_get (matroids ++ N ∷ [])) also_at
              ∙ get_last matroids N in cc) in
              subst (λ (L : Rep). IsMatroidOf L A) is_L (subst (IsMatroidOf M) is_A is))
        ]

-- one more
pub more_matroids : (forms : List Rep) (i : ℕ) (M : Rep) → i < length forms → M ≡ get_or forms i M →
    (matroids new : List Matroid) (N : Matroid) → AreMatroidsOf (take i forms) matroids → IsMatroidOf M N → new ≡ matroids ++ N ∷ [] →
    AreMatroidsOf (take (i + 1) forms) new
more_matroids forms i M l e matroids new N so_far is new_is =
    subst (λ (fs : List Rep). AreMatroidsOf fs new) (sym (take_more forms i M l ∙ ap (λ (L : Rep). take i forms ++ L ∷ []) (sym e)))
    (subst (AreMatroidsOf (take i forms ++ M ∷ [])) (sym new_is) (pushed (take i forms) matroids M N so_far is))

pub same_lists : (forms others : List Rep) (matroids more : List Matroid) → forms ≡ others → more ≡ matroids →
    AreMatroidsOf forms matroids → AreMatroidsOf others more
same_lists forms others matroids more e f h = subst (λ (fs : List Rep). AreMatroidsOf fs more) e (subst (AreMatroidsOf forms) (sym f) h)

-- the forms up to one tell whether it is the first with its matroid
module _ (forms : List Rep) (i : ℕ) (M : Rep) (at : slice_get forms i ≡ Some M) (matroids : List Matroid)
    (h : AreMatroidsOf (take (i + 1) forms) matroids) where
  in_front : slice_get (take (i + 1) forms) i ≡ Some M
  in_front = get_in_front forms (i + 1) i (omega arith) ∙ at

  pub front_earliest : IsFirst matroids i → IsEarliest forms i M
  front_earliest f j N l e = earliest (take (i + 1) forms) matroids h i M in_front f j N l (get_in_front forms (i + 1) j (omega arith) ∙ e)

  pub front_first : IsEarliest forms i M → IsFirst matroids i
  front_first e = first (take (i + 1) forms) matroids h i M in_front (λ j N l at_j. e j N l (sym (get_in_front forms (i + 1) j (omega arith)) ∙ at_j))
