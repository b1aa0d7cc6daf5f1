-- The first frame of the program is that of the search.
use Rattle.std.proofs.Common.{◌≡◌, ◌≢◌, refl, ℕ, ◌<◌, ◌≤◌, Bool, true, false, not, List, [], slice_index_or, sym, ◌∙◌, ap, subst, arith}
use Rattle.std.proofs.lemmas.Bool.{leb-true}
use Rattle.matroid_theory.specs.Field.{times}
use Rattle.matroid_theory.specs.Rep.{Rep, count, size, order, matrix, IsShaped}
use Rattle.matrix_lemmas.proofs.Sums.{times_zero}
use Rattle.form_search.specs.Search.{IsThere, IsLed, IsFrame}
use Rattle.form_search.specs.Start.{zero_layer, others_of, IsZeroTest, zero_test, IsStarted}
use Rattle.form_trails.proofs.Entries.{field}
use Rattle.form_trails.proofs.Supports.{same_support}
use Rattle.form_search.proofs.Placing.{and_true}
use Rattle.form_search.proofs.Rows.{next_frame}
use Rattle.form_search.proofs.Starts.{start_trail, start_ordered, start_coordinates}
use Rattle.form_states.specs.Codes.{code, IsNormalisedFrom}
use Rattle.form_states.specs.States.{IsShapeOf, entries_of}
use Rattle.form_states.proofs.Shapes.{shaped, some, few}
use Rattle.form_states.proofs.Moves.{first_nonzero}

module _ (M : Rep) (fields : List ℕ) (factors rank total : ℕ) (h : IsShapeOf M fields factors rank total) (columns : List (List (List ℕ))) (marks : List Bool)
    (codes_are : (e f i : ℕ) → e < size M → f < count M → i < M.rank → code (slice_index_or columns e []) f i ≡ matrix M f i e)
    (zeros : (e : ℕ) → e < total → slice_index_or marks e false ≡ false → (i : ℕ) → i < rank → code (slice_index_or columns e []) 0 i ≡ 0)
    (nonzero : (e : ℕ) → e < total → slice_index_or marks e false ≡ true → (i : ℕ) × (i < rank) × (code (slice_index_or columns e []) 0 i ≢ 0)) where
  abbrev s : IsShaped M
  s = shaped M fields factors rank total h

  abbrev one_factor : 0 < count M
  one_factor = some M fields factors rank total h

  supported : (e : ℕ) → e < size M → (f g i : ℕ) → f < count M → g < count M → i < M.rank → matrix M f i e ≡ 0 → matrix M g i e ≡ 0
  supported e b f g i l m o = same_support M s h.agrees start_trail (start_ordered M s h.standard) e b (λ f i. matrix M f i e)
      (start_coordinates M s h.standard e b) f g i l m o

  in_total : {e : ℕ} → e < size M → e < total
  in_total {e} l = subst (λ n. e < n) (sym h.total_is) l

  not_true : (v : Bool) → not v ≡ true → v ≡ false
  not_true true e = sym e
  not_true false e = refl

  not_false : (v : Bool) → not v ≡ false → v ≡ true
  not_false true e = refl
  not_false false e = sym e

  pub zero_test_is : IsZeroTest M (zero_test marks)
  zero_test_is = record {
    zeros = λ e b z f i l o. supported e b 0 f i one_factor l o (sym (codes_are e 0 i b one_factor o) ∙ zeros e (in_total b)
        (not_true (slice_index_or marks e false) z) i (subst (λ n. i < n) (sym h.rank_is) o));
    some = λ e b z. (let (i, l, n) = nonzero e (in_total b) (not_false (slice_index_or marks e false) z) in let o : i < M.rank = subst (λ n. i < n) h.rank_is
        l in
        (0, i, one_factor, o, λ y. n (codes_are e 0 i b one_factor o ∙ y)));
  }

  module _ (groups : ℕ → ℕ) (settled : List ℕ) (after : List (List (List ℕ))) (normalised : (e : ℕ) → e < total → IsNormalisedFrom fields factors rank
      (code (slice_index_or columns e [])) (code (slice_index_or after e [])))
      (w : IsStarted M groups (zero_test marks) total settled) where
    three : {f : ℕ} → f < count M → f < 3
    three {f} l = let q : count M ≤ 3 = few M fields factors rank total h in omega arith

    in_factors : {f : ℕ} → f < count M → f < factors
    in_factors {f} l = subst (λ n. f < n) (sym h.factors_are) l

    in_rank : {i : ℕ} → i < M.rank → i < rank
    in_rank {i} l = subst (λ n. i < n) (sym h.rank_is) l

    twice : (v : Bool) → not (not v) ≡ v
    twice true = refl
    twice false = refl

    led : (e : ℕ) → e < size M → slice_index_or marks e false ≡ true → IsLed M M.rank (code (slice_index_or after e []))
    led e b z =
        let (i, l, n) = nonzero e (in_total b) z in
        let (p, pb, pz, pn) = first_nonzero (code (slice_index_or columns e []) 0) M.rank (i, subst (λ n. i < n) h.rank_is l, n) in
        let u = normalised e (in_total b) in
        record {
          lead = p;
          lead_before = pb;
          zeros = λ f j l c. u.multiples f j (in_factors l) (in_rank (omega arith)) ∙ ap
              (λ o. times o (u.multiple f) (code (slice_index_or columns e []) f j)) (h.fields_are f l)
              ∙ ap (times (order M f) (u.multiple f)) (codes_are e f j b l (omega arith) ∙ supported e b 0 f j one_factor l (omega arith)
              (sym (codes_are e 0 j b one_factor (omega arith)) ∙ pz j c))
              ∙ times_zero (order M f) (field M s f l) (u.multiple f);
          ones = λ f l. u.leads p (in_rank pb) pz pn f (in_factors l) (λ y. pn (codes_are e 0 p b one_factor pb ∙ supported e b f 0 p l one_factor pb
              (sym (codes_are e f p b l pb) ∙ y)));
        }

    pub first_frame : IsFrame M M.rank groups settled (entries_of M after marks) w.trail
    first_frame = next_frame M s M.rank groups settled (zero_layer M (zero_test marks) total) (others_of M (zero_test marks)) (entries_of M after marks)
        w.trail w.state
        (λ e t. (let e' : size M ≤ total = (let z : total ≡ size M = h.total_is in omega arith) in none_left e e' t))
        (record {
          same_total = refl;
          same_element = refl;
          there = λ e t. record { below = t.below; passes = twice (slice_index_or marks e false) ∙ t.passes };
          back = λ e t. record { below = t.below; passes = sym (twice (slice_index_or marks e false)) ∙ t.passes };
          multiple = λ e t. (let u = normalised e (in_total t.below) in (
            u.multiple,
            (λ f l. record { code = subst (λ o. u.multiple f < o) (h.fields_are f l) (u.multiple_code f (three l)); nonzero = u.multiple_nonzero f (three l) }),
            (λ f i l b. u.multiples f i (in_factors l) (in_rank b) ∙ (λ v. times (h.fields_are f l v) (u.multiple f) (codes_are e f i t.below l b v))),
          ));
          led = λ e t. led e t.below t.passes;
        })
      where
        none_left : (e : ℕ) → size M ≤ total → IsThere (zero_layer M (zero_test marks) total) e → ⊥
        none_left e l t = (let (a, b) = and_true _ _ t.passes in let o : total ≤ e = leb-true total e a in let q : e < size M = t.below in omega arith)
