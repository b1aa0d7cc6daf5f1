-- The order of lists of short lists.
use Rattle.std.proofs.Common.{◌≡◌, ℕ, refl, ap, List, [], ◌∷◌}
use Rattle.std.specs.Cmp.Lexicographic.{slice_cmp}
use Rattle.std.specs.Ordering.{nat_cmp, ordering_then}
use Rattle.std.specs.declared.cmp.Ordering.{Ordering}
use Rattle.arrayvec.specs.ArrayVec.{ArrayVec}
use Rattle.small_lists.specs.Lists.{lists}

-- the order of short lists of codes, by their codes
abbrev pub vector_cmp : ArrayVec ℕ → ArrayVec ℕ → Ordering
vector_cmp v w = slice_cmp nat_cmp v.items w.items

pub lists_cmp : (xs ys : List (ArrayVec ℕ)) → slice_cmp vector_cmp xs ys ≡ slice_cmp (slice_cmp nat_cmp) (lists xs) (lists ys)
lists_cmp [] [] = refl
lists_cmp [] (y ∷ ys) = refl
lists_cmp (x ∷ xs) [] = refl
lists_cmp (x ∷ xs) (y ∷ ys) = ap (ordering_then (slice_cmp nat_cmp x.items y.items)) (lists_cmp xs ys)
