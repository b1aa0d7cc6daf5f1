-- What is known after some of the parents were extended.
use Rattle.std.proofs.Common.{◌≡◌, ℕ, ◌+◌, ◌<◌, ◌≤◌, List, [], ◌∷◌, ◌++◌, length, take, inl, inr, sym, ◌∙◌, ap, subst, arith, get_or}
use Rattle.std.specs.List.{Contains, AllPairs}
use Rattle.std.specs.declared.cmp.Ordering.TheVariants.{Less}
use Rattle.std.proofs.lemmas.List.{take_more, take_all, get_or-take, get_or_default, length-take-le}
use Rattle.std.proofs.lemmas.List.Elements.{Contains-append_left, Contains-append_right, Contains-append_cases, Contains-push}
use Rattle.matroid_theory.specs.declared.Mode.{Mode}
use Rattle.matroid_theory.specs.Rep.{Rep, size}
use Rattle.matroid_theory.specs.Order.{rep_cmp, IsForm}
use Rattle.matroid_theory.specs.Level.{IsCount, IsRisingList, followed_by}
use Rattle.matroid_theory.specs.Minor.{Matroid}
use Rattle.matroid_laws.proofs.Levels.{rep_cmp-irreflexive}
use Rattle.level_driver.specs.Children.{IsCandidate}
use Rattle.level_driver.proofs.Counts.{count_none, count_both, count_images}
use Rattle.level_driver.proofs.Tries.{IsExtension, two_kinds}
use Rattle.orderly.specs.Kept.{AddsKept}
use Rattle.orderly.proofs.Rising.{all_pairs_append, before_followed}

-- one of the parents followed by a column, that makes none of the matroids a minor, and a form
pub record IsKept (mode : Mode) (Ns : List Matroid) (parents : List Rep) (N : Rep) : Type 0 where
  pub try : Rep × List ℕ
  pub extension : IsExtension Ns parents try
  pub is : N ≡ followed_by try.0 try.1
  pub form : IsForm mode N

-- these parents were extended by all columns, and the forms kept
pub record HasKeptAll (mode : Mode) (Ns : List Matroid) (parents : List Rep) (tried : ℕ) (forms : List Rep) : Type 0 where
  pub count : IsCount (IsExtension Ns parents) tried
  pub are : IsRisingList (IsKept mode Ns parents) forms

pub all_none : (mode : Mode) (Ns : List Matroid) (forms : List Rep) → forms ≡ [] → HasKeptAll mode Ns [] 0 forms
all_none mode Ns forms empty = subst (HasKeptAll mode Ns [] 0) (sym empty) record {
  count = count_none (IsExtension Ns []) (λ try e. let l = e.0.1 in absurd (omega arith));
  are = record {
    rising = λ i j d l m. absurd (omega arith);
    exact = λ N. (λ c. (let l = c.1 in absurd (omega arith)), λ k. (let c = k.extension.0 in let l = c.1 in absurd (omega arith)));
  };
}

-- a parent that comes before P
record ComesBefore (P M : Rep) : Type 0 where
  pub sizes : size M ≡ size P
  pub below : rep_cmp M P ≡ Less

-- one parent more
module _ (mode : Mode) (Ns : List Matroid) (parents : List Rep) (P : Rep) (before : (M : Rep) → Contains parents M → ComesBefore P M) where
  new_one : ¬ (Contains parents P)
  new_one c = rep_cmp-irreflexive P ((before P c).below)

  module _ (tried k : ℕ) (forms new : List Rep) (h : HasKeptAll mode Ns parents tried forms) (count : IsCount (IsCandidate Ns P) k)
      (adds : AddsKept mode Ns P forms new) where
    -- what was kept of a parent before is below what is kept of this one
    across : (M N : Rep) → Contains forms M → Contains adds.added N → rep_cmp M N ≡ Less
    across M N c d =
        let k = (h.are.exact M).0 c in
        let a = (adds.are.exact N).0 d in
        let b = before k.try.0 k.extension.0 in
        (λ i. rep_cmp (k.is i) (a.is i)) ∙ before_followed k.try.0 P k.try.1 a.column b.sizes b.below

    kept_here : (N : Rep) → Contains (forms ++ adds.added) N → IsKept mode Ns (parents ++ P ∷ []) N
    kept_here N c = elim (Contains-append_cases forms adds.added N c) [
      | inl b ↦ (let k = (h.are.exact N).0 b in
          record { try = k.try; extension = (two_kinds mode Ns parents P new_one k.try).1 (inl k.extension); is = k.is; form = k.form })
      | inr b ↦ (let a = (adds.are.exact N).0 b in
          record { try = (P, a.column); extension = (Contains-push parents P, a.candidate); is = a.is; form = a.form })
    ]

    is_here : (N : Rep) → IsKept mode Ns (parents ++ P ∷ []) N → Contains (forms ++ adds.added) N
    is_here N k = elim ((two_kinds mode Ns parents P new_one k.try).0 k.extension) [
      | inl e ↦ Contains-append_left forms adds.added N ((h.are.exact N).1 (record { try = k.try; extension = e; is = k.is; form = k.form }))
      | inr (v, a, same) ↦ Contains-append_right forms adds.added N
          ((adds.are.exact N).1 record {
            column = v;
            candidate = a;
            is = k.is ∙ ap (λ (t : Rep × List ℕ). followed_by t.0 t.1) (sym same);
            form = k.form;
          })
    ]

    all_more : HasKeptAll mode Ns (parents ++ P ∷ []) (tried + k) new
    all_more = record {
      count = count_both (IsExtension Ns parents) (λ try. (v : List ℕ) × IsCandidate Ns P v × ((P, v) ≡ try))
          (IsExtension Ns (parents ++ P ∷ [])) tried k h.count
          (count_images (λ (v : List ℕ). (P, v)) (IsCandidate Ns P) k (λ v w e. ap (λ t. t.1) e) count)
          (λ try e l. new_one (subst (Contains parents) (sym (ap (λ t. t.0) l.2)) e.0)) (two_kinds mode Ns parents P new_one);
      are = subst (IsRisingList (IsKept mode Ns (parents ++ P ∷ []))) (sym adds.at_end) record {
        rising = all_pairs_append (λ M N. rep_cmp M N ≡ Less) forms adds.added h.are.rising adds.are.rising across;
        exact = λ N. (kept_here N, is_here N);
      };
    }

-- in a rising list of representations of one size those before a place come before the one there
module _ (parents : List Rep) (rising : AllPairs (λ M N. rep_cmp M N ≡ Less) parents)
    (one_size : (M N : Rep) → Contains parents M → Contains parents N → size M ≡ size N) (i : ℕ) (P : Rep) (l : i < length parents)
    (is : P ≡ get_or parents i P) where
  come_before : (M : Rep) → Contains (take i parents) M → ComesBefore P M
  come_before M (k, m, e) =
      let n : length (take i parents) ≡ i = length-take-le i parents (omega arith) in
      let k' : k < i = omega arith in
      let same : get_or parents k M ≡ M = sym (get_or-take i parents k M k') ∙ e in
      record {
        sizes = one_size M P (k, omega arith, same) (i, l, sym is);
        below = subst (λ (N : Rep). rep_cmp M N ≡ Less) (get_or_default parents i M P l ∙ sym is)
            (subst (λ (N : Rep). rep_cmp N (get_or parents i M) ≡ Less) same (rising k i M k' l));
      }

  -- the next parent
  pub all_step : (mode : Mode) (Ns : List Matroid) (tried k : ℕ) (forms new : List Rep) → HasKeptAll mode Ns (take i parents) tried forms →
      IsCount (IsCandidate Ns P) k → AddsKept mode Ns P forms new → HasKeptAll mode Ns (take (i + 1) parents) (tried + k) new
  all_step mode Ns tried k forms new h count adds =
      subst (λ (done : List Rep). HasKeptAll mode Ns done (tried + k) new)
      (ap (λ (M : Rep). take i parents ++ M ∷ []) is ∙ sym (take_more parents i P l))
      (all_more mode Ns (take i parents) P come_before tried k forms new h count adds)

-- all parents
pub all_done : (mode : Mode) (Ns : List Matroid) (parents : List Rep) (i tried : ℕ) (forms : List Rep) → length parents ≤ i →
    HasKeptAll mode Ns (take i parents) tried forms → HasKeptAll mode Ns parents tried forms
all_done mode Ns parents i tried forms l h = subst (λ (done : List Rep). HasKeptAll mode Ns done tried forms) (take_all i parents l) h
