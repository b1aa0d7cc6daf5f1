-- The standard representation with given later columns.
use Rattle.std.proofs.Common.{◌≡◌, ℕ, ◌+◌, ◌-◌, ◌<◌, ◌≤◌, sym, ◌∙◌, ap, subst, arith, List, [], length, drop, length-drop}
use Rattle.std.specs.List.{slice_index_or}
use Rattle.std.proofs.lemmas.List.{get_or-drop}
use Rattle.matroid_theory.specs.Rep.{Rep, Shape, shape, size, IsShaped, IsProductColumn}
use Rattle.canonical_form.specs.Search.{AreOfClass}

module _ (M : Rep) (columns : List (List ℕ)) (c : AreOfClass M columns) where
  same_shape : shape c.member ≡ shape M
  same_shape = c.equivalent.takes.same_shape

  shaped : IsShaped c.member
  shaped = c.equivalent.takes.shaped

  pub numbers : M.rank + length columns ≡ size M
  numbers =
      let room : c.member.rank ≤ size c.member = c.standard.room in
      let r : c.member.rank ≡ M.rank = ap (λ (S : Shape). S.rank) same_shape in
      let s : size c.member ≡ size M = ap (λ (S : Shape). S.size) same_shape in
      let l : length (drop c.member.rank c.member.columns) ≡ length columns = ap (λ (w : List (List ℕ)). length w) c.later_are in
      let d : length (drop c.member.rank c.member.columns) ≡ size c.member - c.member.rank = length-drop c.member.rank c.member.columns in
      omega arith

  pub later_column : (i : ℕ) → i < length columns → IsProductColumn M.factors M.rank (slice_index_or columns i [])
  later_column i l =
      let r : c.member.rank ≡ M.rank = ap (λ (S : Shape). S.rank) same_shape in
      let s : size c.member ≡ size M = ap (λ (S : Shape). S.size) same_shape in
      let n : M.rank + length columns ≡ size M = numbers in
      let b : c.member.rank + i < size c.member = omega arith in
      let e : slice_index_or c.member.columns (c.member.rank + i) [] ≡ slice_index_or columns i [] =
      sym (get_or-drop c.member.rank c.member.columns i []) ∙ ap (λ (w : List (List ℕ)). slice_index_or w i []) c.later_are in
      subst (λ (fs : List ℕ). IsProductColumn fs M.rank (slice_index_or columns i [])) (ap (λ (S : Shape). S.factors) same_shape)
      (subst (λ (r : ℕ). IsProductColumn c.member.factors r (slice_index_or columns i [])) r
      (subst (IsProductColumn c.member.factors c.member.rank) e (record {
        rows = shaped.lengths (c.member.rank + i) b;
        codes = λ k f m o. shaped.codes f k (c.member.rank + i) o m b;
      })))
