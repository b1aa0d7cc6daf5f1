-- The order of lists of columns.
use Rattle.std.proofs.Common.{◌≡◌, ◌≢◌, ℕ, ◌+◌, sym, ◌∙◌, ap, arith, List, length}
use Rattle.std.specs.Cmp.Lexicographic.{slice_cmp}
use Rattle.std.specs.Ordering.{nat_cmp, is_lt, ordering_reverse}
use Rattle.std.specs.declared.cmp.Ordering.TheVariants.{Less, Greater}
use Rattle.std.specs.List.Sorted.{IsSorted}
use Rattle.std.proofs.Math.ListN.{get_or-map}
use Rattle.std.proofs.lemmas.List.{length-map}
use Rattle.arrayvec.specs.ArrayVec.{ArrayVec}
use Rattle.matroid_laws.proofs.Levels.{columns_total}
use Rattle.canonical_form.specs.Search.{columns_cmp}
use Rattle.small_lists.specs.Lists.{lists}
use Rattle.small_lists.proofs.Orders.{vector_cmp}

pub lists_sorted : (xs : List (ArrayVec ℕ)) → IsSorted vector_cmp xs → IsSorted (slice_cmp nat_cmp) (lists xs)
lists_sorted xs h k d l m =
    let blank : ArrayVec ℕ = record { items = d } in
    let n : length (lists xs) ≡ length xs = length-map xs (λ v. v.items) in
    (λ u. is_lt (slice_cmp nat_cmp (get_or-map (λ (v : ArrayVec ℕ). v.items) xs (k + 1) blank u) (get_or-map (λ (v : ArrayVec ℕ). v.items) xs k blank u)))
    ∙ h k blank l (omega arith)

-- of two lists one is not above the other
pub above_reversed : (x y : List (List ℕ)) → columns_cmp x y ≡ Greater → columns_cmp y x ≢ Greater
above_reversed x y e g =
    let t = columns_total in
    let h : columns_cmp y x ≡ ordering_reverse (columns_cmp x y) = t.antisymm y x in
    let k : ordering_reverse (columns_cmp x y) ≡ Less = ap ordering_reverse e in
    let n : Greater ≡ Less = sym g ∙ h ∙ k in cc
