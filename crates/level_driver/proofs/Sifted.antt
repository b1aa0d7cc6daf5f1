-- Those of the forms of a level that pass.
use Rattle.std.proofs.Common.{◌≡◌, ◌∙◌, ℕ, suc, ◌+◌, ◌<◌, ◌≤◌, List, [], ◌∷◌, ◌++◌, length, take, get_or, None, Some, sym, ap, subst, arith, inl, inr, length-append}
use Rattle.std.specs.Prelude.{◌↔◌, slice_get, AllPairs, Contains}
use Rattle.std.proofs.Math.ListN.{get_or-append}
use Rattle.std.proofs.lemmas.List.{take_more, take_all, get_or_default}
use Rattle.std.proofs.lemmas.List.Elements.{Contains-append_left, Contains-append_cases, Contains-push}
use Rattle.std.proofs.lemmas.List.Quantifiers.{all_pairs_push}
use Rattle.std.proofs.lemmas.Option.{slice_get_within, slice_get_cases, get_or_from_slice_get}
use Rattle.matroid_theory.specs.Rep.{Rep}
use Rattle.matroid_theory.specs.Order.{rep_cmp}
use Rattle.std.specs.declared.cmp.Ordering.TheVariants.{Less}
use Rattle.matroid_theory.specs.Level.{IsRisingList}
use Rattle.matrix_lemmas.proofs.Lists.{found}

module _ {X : Type 0} where
  -- each pair of the front is one of the whole, and each element of the front is before the last
  pairs_front : (R : X → X → Type 0) (xs : List X) (y : X) → AllPairs R (xs ++ y ∷ []) → AllPairs R xs
  pairs_front R xs y pairs i j d l m =
      let a = get_or-append xs (y ∷ []) d i (omega arith) in
      let b = get_or-append xs (y ∷ []) d j m in
      subst (R (get_or xs i d)) b (subst (λ x. R x (get_or (xs ++ y ∷ []) j d)) a (pairs i j d l (omega (arith, length-append xs (y ∷ [])))))

  pairs_last : (R : X → X → Type 0) (xs : List X) (y z : X) → AllPairs R (xs ++ y ∷ []) → Contains xs z → R z y
  pairs_last R [] y z pairs (k, l, e) = absurd (omega arith)
  pairs_last R (x ∷ xs) y z pairs at =
      elim (found x z xs at) [
        | inl e ↦ (let (k, l, s) = Contains-push xs y in
            subst (R z) s (subst (λ w. R w (get_or (xs ++ y ∷ []) k y)) e (pairs 0 (suc k) y (omega arith) (omega arith))))
        | inr p ↦ pairs_last R xs y z (λ i j d l m. pairs (suc i) (suc j) d (omega arith) (omega arith)) p
      ]

-- these are those of the forms with P, in their order
pub record AreThose (P : Rep → Type 0) (forms those : List Rep) : Type 0 where
  pub rising : AllPairs (λ M N. rep_cmp M N ≡ Less) forms → AllPairs (λ M N. rep_cmp M N ≡ Less) those
  pub exact : (M : Rep) → Contains those M ↔ (Contains forms M × P M)

pub none_yet : (P : Rep → Type 0) → AreThose P [] []
none_yet P = record {
  rising = λ pairs. pairs;
  exact = λ M. (λ at. (let l = at.1 in absurd (omega arith)), λ both. both.0);
}

-- the next form is one of them
kept : (P : Rep → Type 0) (forms those : List Rep) (M : Rep) → AreThose P forms those → P M → AreThose P (forms ++ M ∷ []) (those ++ M ∷ [])
kept P forms those M so_far holds = record {
  rising = λ pairs. all_pairs_push (λ M N. rep_cmp M N ≡ Less) those M (so_far.rising (pairs_front (λ M N. rep_cmp M N ≡ Less) forms M pairs)) (λ k d l.
      let both = (let e = so_far.exact (get_or those k d) in e.0 (there k d l)) in
      pairs_last (λ M N. rep_cmp M N ≡ Less) forms M (get_or those k d) pairs both.0);
  exact = λ N. (forth N, back N);
}
  where
    there : (k : ℕ) (d : Rep) → k < length those → Contains those (get_or those k d)
    there k d l = (k, l, get_or_default those k (get_or those k d) d l)

    last : (xs : List Rep) (N : Rep) → M ≡ N → Contains (xs ++ M ∷ []) N
    last xs N e = subst (Contains (xs ++ M ∷ [])) e (Contains-push xs M)

    one : (N : Rep) → Contains (M ∷ []) N → M ≡ N
    one N at = elim (found M N [] at) [ inl e ↦ e | inr none ↦ (let l = none.1 in absurd (omega arith)) ]

    forth : (N : Rep) → Contains (those ++ M ∷ []) N → Contains (forms ++ M ∷ []) N × P N
    forth N at =
        elim (Contains-append_cases those (M ∷ []) N at) [
          | inl before ↦ (let e = so_far.exact N in let both = e.0 before in (Contains-append_left forms (M ∷ []) N both.0, both.1))
          | inr here ↦ (last forms N (one N here), subst P (one N here) holds)
        ]

    back : (N : Rep) → Contains (forms ++ M ∷ []) N × P N → Contains (those ++ M ∷ []) N
    back N both =
        elim (Contains-append_cases forms (M ∷ []) N both.0) [
          | inl before ↦ (let e = so_far.exact N in Contains-append_left those (M ∷ []) N (e.1 (before, both.1)))
          | inr here ↦ last those N (one N here)
        ]

-- or it is not
left_out : (P : Rep → Type 0) (forms those : List Rep) (M : Rep) → AreThose P forms those → ¬ (P M) → AreThose P (forms ++ M ∷ []) those
left_out P forms those M so_far fails = record {
  rising = λ pairs. so_far.rising (pairs_front (λ M N. rep_cmp M N ≡ Less) forms M pairs);
  exact = λ N. (λ at. (let e = so_far.exact N in let both = e.0 at in (Contains-append_left forms (M ∷ []) N both.0, both.1)), back N);
}
  where
    back : (N : Rep) → Contains (forms ++ M ∷ []) N × P N → Contains those N
    back N both =
        elim (Contains-append_cases forms (M ∷ []) N both.0) [
          | inl before ↦ (let e = so_far.exact N in e.1 (before, both.1))
          | inr here ↦ elim (found M N [] here) [
            | inl e ↦ absurd (fails (subst P (sym e) both.1))
            | inr none ↦ (let l = none.1 in absurd (omega arith))
          ]
        ]

module _ (P : Rep → Type 0) (forms those : List Rep) (i : ℕ) (M : Rep) (at : slice_get forms i ≡ Some M) (so_far : AreThose P (take i forms) those) where
  one_more : take (i + 1) forms ≡ take i forms ++ M ∷ []
  one_more = take_more forms i M (slice_get_within forms i M at) ∙ ap (λ (N : Rep). take i forms ++ N ∷ []) (get_or_from_slice_get forms i M M at)

  -- one more form passes
  pub next_kept : P M → AreThose P (take (i + 1) forms) (those ++ M ∷ [])
  next_kept holds = subst (λ (fs : List Rep). AreThose P fs (those ++ M ∷ [])) (sym one_more) (kept P (take i forms) those M so_far holds)

  -- one more form fails
  pub next_left_out : ¬ (P M) → AreThose P (take (i + 1) forms) those
  next_left_out fails = subst (λ (fs : List Rep). AreThose P fs those) (sym one_more) (left_out P (take i forms) those M so_far fails)

-- all forms were looked at
pub all_seen : (Q P : Rep → Type 0) (forms those : List Rep) (i : ℕ) → length forms ≤ i → AreThose P (take i forms) those →
    IsRisingList Q forms → IsRisingList (λ M. Q M × P M) those
all_seen Q P forms those i l sifted level =
    let all : AreThose P forms those = subst (λ (fs : List Rep). AreThose P fs those) (take_all i forms l) sifted in
    record {
      rising = all.rising level.rising;
      exact = λ M. let e = all.exact M in let f = level.exact M in (λ at. (let both = e.0 at in (f.0 both.0, both.1)), λ both. e.1 (f.1 both.0, both.1));
    }

-- no form is left
pub past : (forms : List Rep) (i : ℕ) → slice_get forms i ≡ None → length forms ≤ i
past forms i none =
    elim ((slice_get_cases forms i).1) [
      | inl here ↦ (let at : slice_get forms i ≡ Some here.0 = here.2 in cc (at, none))
      | inr gone ↦ gone.0
    ]
