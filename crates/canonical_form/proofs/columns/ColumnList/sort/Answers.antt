use Rattle.std.proofs.Common.{◌≡◌, ◌∙◌, ℕ, List, length, subst, sym, refl, ap}
use Rattle.std.specs.List.{refill}
use Rattle.std.specs.List.Sorted.{IsPermutation, IsSorted}
use Rattle.std.specs.Cmp.Lexicographic.{slice_cmp}
use Rattle.std.specs.Ordering.{nat_cmp}
use Rattle.std.proofs.lemmas.List.Sorted.{IsPermutation-map}
use Rattle.arrayvec.specs.ArrayVec.{ArrayVec}
use Rattle.elimination.proofs.Lists.{refill_whole}
use Rattle.small_lists.specs.Lists.{lists}
use Rattle.canonical_form.proofs.Orders.{lists_sorted}
use Rattle.canonical_form.proofs.columns.ColumnList.sort.Goals as goal

pub returns-clause-permutation : goal.returns-clause-permutation
returns-clause-permutation c =
    let v : c.as_mut_slice.result.now ≡ c.self.inside.columns.items = c.as_mut_slice.ensures.value in
    let e : refill (length c.self.inside.columns.items) c.self.inside.columns.items c.sort_unstable.new.self ≡ c.sort_unstable.new.self =
    refill_whole _ _ _ refl (c.sort_unstable.ensures.len ∙ ap (λ (w : List (ArrayVec ℕ)). length w) v) in
    subst (λ (w : List (List ℕ)). IsPermutation w
    (lists (refill (length c.self.inside.columns.items) c.self.inside.columns.items c.sort_unstable.new.self))) c.self.view_is
    (subst (λ w. IsPermutation (lists c.self.inside.columns.items) (lists w)) (sym e)
    (IsPermutation-map (λ (w : ArrayVec ℕ). w.items) _ _ (subst (λ w. IsPermutation w c.sort_unstable.new.self) v c.sort_unstable.ensures.permutation)))

pub returns-clause-rising : goal.returns-clause-rising
returns-clause-rising c =
    let v : c.as_mut_slice.result.now ≡ c.self.inside.columns.items = c.as_mut_slice.ensures.value in
    let e : refill (length c.self.inside.columns.items) c.self.inside.columns.items c.sort_unstable.new.self ≡ c.sort_unstable.new.self =
    refill_whole _ _ _ refl (c.sort_unstable.ensures.len ∙ ap (λ (w : List (ArrayVec ℕ)). length w) v) in
    subst (λ w. IsSorted (slice_cmp nat_cmp) (lists w)) (sym e) (lists_sorted c.sort_unstable.new.self c.sort_unstable.ensures.sorted)
