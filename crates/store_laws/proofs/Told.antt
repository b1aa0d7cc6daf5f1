-- The keys of the tries of a size above the rank are those of the level, so these are told New.
use Rattle.std.proofs.Common.{◌≡◌, ◌≢◌, ◌↔◌, ℕ, suc, zero, ◌<◌, refl, sym, ◌∙◌, ap, subst, arith, List, [], ◌∷◌, length, map, Contains}
use Rattle.std.specs.List.{All, AllPairs, AllZip, slice_index_or}
use Rattle.std.specs.Cmp.Lexicographic.{slice_cmp}
use Rattle.std.specs.Ordering.{nat_cmp}
use Rattle.std.specs.Ordering.{ordering_reverse}
use Rattle.std.specs.declared.cmp.Ordering.{Ordering}
use Rattle.std.specs.declared.cmp.Ordering.TheVariants.{Less, Equal, Greater}
use Rattle.std.proofs.lemmas.Cmp.{nat_list_cmp_total}
use Rattle.std.proofs.lemmas.List.{length-map}
use Rattle.matroid_theory.specs.Rep.{Rep}
use Rattle.matroid_theory.specs.Level.{Family, IsLevel, IsLevelForm, IsTryFor}
use Rattle.matroid_laws.proofs.Equivalence.{equivalent-symmetric, equivalent-transitive}
use Rattle.matroid_laws.proofs.Forms.{one_form}
use Rattle.matroid_laws.proofs.Levels.{count_unique}
use Rattle.existence.proofs.Classes.{form_has_try, form_of_try}
use Rattle.histories.specs.declared.entry.Entry.{Entry}
use Rattle.histories.specs.History.{IsLegal}
use Rattle.histories.specs.Counts.{AreItsKeys, new_keys}
use Rattle.histories.proofs.Once.{new_apart, new_listed}
use Rattle.form_key.specs.Packing.{packing}
use Rattle.form_key.specs.Keys.{AreLevelKeys, IsStandardOf}
use Rattle.form_key.proofs.LevelKeys.{keys_of_level, level_of_keys}
use Rattle.store_laws.specs.TryKeys.{AreTryKeys, IsTryKey}

-- ---- two lists of which each place fits
-- an element of the second fits one of the first
from_second : {A B : Type 0} (R : A → B → Type 0) (xs : List A) (ys : List B) (y : B) → AllZip R xs ys → Contains ys y → (x : A) × Contains xs x × R x y
from_second R [] [] y z (k, l, e) = absurd (omega arith)
from_second R [] (b ∷ ys) y z c = absurd z
from_second R (a ∷ xs) [] y z c = absurd z
from_second R (a ∷ xs) (b ∷ ys) y z (zero, l, e) = (a, (0, omega arith, refl), subst (R a) e z.0)
from_second R (a ∷ xs) (b ∷ ys) y z (suc k, l, e) =
    let (x, (i, m, d), r) = from_second R xs ys y z.1 (k, omega arith, e) in (x, (suc i, omega arith, d), r)

-- an element of the first fits one of the second
from_first : {A B : Type 0} (R : A → B → Type 0) (xs : List A) (ys : List B) (x : A) → AllZip R xs ys → Contains xs x → (y : B) × Contains ys y × R x y
from_first R [] [] x z (k, l, e) = absurd (omega arith)
from_first R [] (b ∷ ys) x z c = absurd z
from_first R (a ∷ xs) [] x z c = absurd z
from_first {B = B} R (a ∷ xs) (b ∷ ys) x z (zero, l, e) = (b, (0, omega arith, refl), subst (λ a. R a b) e z.0)
from_first R (a ∷ xs) (b ∷ ys) x z (suc k, l, e) =
    let (y, (i, m, d), r) = from_first R xs ys x z.1 (k, omega arith, e) in (y, (suc i, omega arith, d), r)

-- ---- the keys of tries
-- a try has one form
one_form_of_try : (q : Family) (n : ℕ) (M N : Rep) (try : Rep × List ℕ) → IsTryFor q n M try → IsTryFor q n N try → M ≡ N
one_form_of_try q n M N try a b =
    one_form q.mode M N a.form b.form (equivalent-transitive q.mode M _ N (equivalent-symmetric q.mode _ M a.equivalent) b.equivalent)

abbrev IsLevelKey : Family → ℕ → List ℕ → Type 0
IsLevelKey q n key = (M : Rep) × IsLevelForm q n M × (packing M ≡ key)

-- the keys of the tries are those of the level's forms
level_keys : (q : Family) (n : ℕ) (keys : List (List ℕ)) (key : List ℕ) → q.rank < n → AreTryKeys q n keys → Contains keys key ↔ IsLevelKey q n key
level_keys q n keys key room tried = (
  (λ c. let (try, _, (N, f, e)) = from_second (IsTryKey q n) tried.tries.list keys key tried.packed c in (N, form_of_try q n N try f, e)),
  (λ (M, h, e).
      let (P, v, _, f) = form_has_try q n M room h in
      let (found, c, (N, g, d)) = from_first (IsTryKey q n) tried.tries.list keys (P, v) tried.packed ((tried.tries.exact (P, v)).1 f.is_try) in
      subst (Contains keys) (sym d ∙ (ap packing (one_form_of_try q n N M (P, v) g f) ∙ e)) c),
)

pub told_exact : (q : Family) (n : ℕ) (keys : List (List ℕ)) (history : List Entry) (key : List ℕ) → q.rank < n → AreTryKeys q n keys → IsLegal history
    → AreItsKeys keys history → Contains (new_keys history) key ↔ ((M : Rep) × IsLevelForm q n M × (packing M ≡ key))
told_exact q n keys history key room tried legal counts =
    let a = new_listed keys history key legal counts in
    let b = level_keys q n keys key room tried in
    ((λ c. b.0 (a.0 c)), (λ h. a.1 (b.1 h)))

-- ---- in rising order
pub told_sorted : (q : Family) (n : ℕ) (keys : List (List ℕ)) (history : List Entry) (sorted : List (List ℕ)) → q.rank < n → AreTryKeys q n keys
    → IsLegal history → AreItsKeys keys history → AllPairs (λ a b. slice_cmp nat_cmp a b ≡ Less) sorted
    → ((key : List ℕ) → Contains sorted key ↔ Contains (new_keys history) key) → AreLevelKeys q n sorted
told_sorted q n keys history sorted room tried legal counts rising same = record {
  rising = rising;
  exact = λ key.
      let a = same key in
      let b = told_exact q n keys history key room tried legal counts in
      ((λ c. b.0 (a.0 c)), (λ h. a.1 (b.1 h)));
}

pub told_level : (q : Family) (n : ℕ) (keys : List (List ℕ)) (history : List Entry) (forms : List Rep) → q.rank < n → AreTryKeys q n keys
    → IsLegal history → AreItsKeys keys history → All (IsStandardOf q n) forms → AllPairs (λ a b. slice_cmp nat_cmp a b ≡ Less) (map packing forms)
    → ((key : List ℕ) → Contains (map packing forms) key ↔ Contains (new_keys history) key) → IsLevel q n forms
told_level q n keys history forms room tried legal counts standard rising same =
    level_of_keys q n forms standard (told_sorted q n keys history (map packing forms) room tried legal counts rising same)

-- ---- how many
-- no key is below itself
not_below_itself : (key : List ℕ) → slice_cmp nat_cmp key key ≢ Less
not_below_itself key h = at (slice_cmp nat_cmp key key) (nat_list_cmp_total.antisymm key key) h
  where
    at : (o : Ordering) → o ≡ ordering_reverse o → o ≢ Less
    at Less e l = cc
    at Equal e l = cc
    at Greater e l = cc

rising_apart : (keys : List (List ℕ)) → AllPairs (λ a b. slice_cmp nat_cmp a b ≡ Less) keys → AllPairs (λ a b. a ≢ b) keys
rising_apart keys rising i j d l m same = not_below_itself (slice_index_or keys i d) (ap (slice_cmp nat_cmp (slice_index_or keys i d)) same ∙ rising i j d l m)

pub told_count : (q : Family) (n : ℕ) (keys : List (List ℕ)) (history : List Entry) (forms : List Rep) → q.rank < n → AreTryKeys q n keys
    → IsLegal history → AreItsKeys keys history → IsLevel q n forms → length (new_keys history) ≡ length forms
told_count q n keys history forms room tried legal counts level =
    let of_level = keys_of_level q n forms level in
    count_unique (IsLevelKey q n) (length (new_keys history)) (length (map packing forms))
    (record {
      list = new_keys history;
      apart = new_apart history legal;
      exact = λ key. told_exact q n keys history key room tried legal counts;
      number = refl;
    })
    (record { list = map packing forms; apart = rising_apart (map packing forms) of_level.rising; exact = of_level.exact; number = refl })
    ∙ length-map forms packing
