-- Orderings, and the order of lists of numbers.
use Rattle.std.proofs.Common.{◌≡◌, ◌≢◌, ℕ, zero, suc, ◌<◌, ◌≤◌, refl, sym, ◌∙◌, ap, arith, List, [], ◌∷◌, length, true, false, slice_index}
use Rattle.std.specs.Bool.{◌==◌}
use Rattle.std.specs.Cmp.{IsTotalOrder}
use Rattle.std.specs.Cmp.Lexicographic.{slice_cmp}
use Rattle.std.specs.Ordering.{is_gt, nat_cmp, ordering_index, ordering_reverse, ordering_then}
use Rattle.std.specs.declared.cmp.Ordering.{Ordering}
use Rattle.std.specs.declared.cmp.Ordering.TheVariants.{Less, Equal, Greater}
use Rattle.std.proofs.lemmas.Cmp.{ranked, tied_itself, upto}
use Rattle.std.proofs.lemmas.Map.Lookups.{exact_unsigned}
use mathlib.Core.Bool.{true≢false}

-- the tests that one is below another, and above it
pub is_less : (r : Ordering) → (ordering_index r == 0) ≡ true → r ≡ Less
is_less Less e = refl
is_less Equal e = cc
is_less Greater e = cc

pub is_not_less : (r : Ordering) → (ordering_index r == 0) ≡ false → r ≢ Less
is_not_less Less e h = cc
is_not_less Equal e h = cc
is_not_less Greater e h = cc

pub at_most_test : (o : Ordering) → o ≢ Greater → is_gt o ≡ false
at_most_test Less n = refl
at_most_test Equal n = refl
at_most_test Greater n = absurd (n refl)

pub at_most_tested : (o : Ordering) → is_gt o ≡ false → o ≢ Greater
at_most_tested o t e = true≢false (ap is_gt (sym e) ∙ t)

module _ {X : Type 0} (R : X → X → Ordering) (o : IsTotalOrder R) where
  -- nothing is above itself
  pub at_most_itself : (x : X) → R x x ≢ Greater
  at_most_itself x g = let e : Equal ≡ Greater = sym (tied_itself o x) ∙ g in cc

  pub at_most_chain : (x y z : X) → R x y ≢ Greater → R y z ≢ Greater → R x z ≢ Greater
  at_most_chain x y z h g = at_most_tested (R x z) (upto o x y z (at_most_test (R x y) h) (at_most_test (R y z) g))

-- of two, neither of which is above the other, both are equal
pub neither : (r s : Ordering) → s ≡ ordering_reverse r → r ≢ Greater → s ≢ Greater → r ≡ Equal
neither Less s e a b = absurd (b e)
neither Equal s e a b = refl
neither Greater s e a b = absurd (a refl)

-- the first pair decides, unless it is level
pub then_at_most : (o p : Ordering) → o ≢ Greater → (o ≡ Equal → p ≢ Greater) → ordering_then o p ≢ Greater
then_at_most Less p n h e = cc
then_at_most Equal p n h e = h refl e
then_at_most Greater p n h e = n refl

pub then_assoc : (r s t : Ordering) → ordering_then (ordering_then r s) t ≡ ordering_then r (ordering_then s t)
then_assoc Less s t = refl
then_assoc Equal s t = refl
then_assoc Greater s t = refl

pub nat_cmp-at_most : (x y : ℕ) → x ≤ y → nat_cmp x y ≢ Greater
nat_cmp-at_most x y l e = let g : y < x = ranked x y Greater (sym e) in absurd (omega arith)

-- of two lists as long, one is not above the other if at the first place where they may differ it isn't
pub least_at_first : (xs ys : List ℕ) → length xs ≡ length ys →
    ((k : ℕ) → k < length xs → ((e : ℕ) → e < k → slice_index xs e ≡ slice_index ys e) → slice_index xs k ≤ slice_index ys k) →
    slice_cmp nat_cmp xs ys ≢ Greater
least_at_first [] [] d h = λ e. cc
least_at_first [] (y ∷ ys) d h = absurd (omega arith)
least_at_first (x ∷ xs) [] d h = absurd (omega arith)
least_at_first (x ∷ xs) (y ∷ ys) d h =
    then_at_most (nat_cmp x y) (slice_cmp nat_cmp xs ys) (nat_cmp-at_most x y (h 0 (omega arith) (λ e l. absurd (omega arith))))
    (λ c. least_at_first xs ys (omega arith) (λ k l g. h (suc k) (omega arith) (before k (exact_unsigned x y c) g)))
  where
    before : (k : ℕ) → x ≡ y → ((e : ℕ) → e < k → slice_index xs e ≡ slice_index ys e) → (e : ℕ) → e < suc k → slice_index (x ∷ xs) e ≡ slice_index (y ∷ ys) e
    before k c g zero l = c
    before k c g (suc e) l = g e (omega arith)
