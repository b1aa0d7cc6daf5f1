-- What is known after the keys for some of the columns of a parent were offered, and after all of them.
use Rattle.std.proofs.Common.{◌≡◌, ◌⊎◌, ◌↔◌, ℕ, ◌+◌, ◌-◌, ◌<◌, ◌≤◌, List, [], ◌∷◌, ◌++◌, length, inl, inr, refl, sym, ◌∙◌, ap, subst, arith, length-append, bytes_eq, cond}
use Rattle.std.specs.Ordering.{ordering_reverse}
use Rattle.std.proofs.lemmas.Cmp.{nat_list_cmp_total}
use Rattle.std.proofs.lemmas.List.Sums.{sum_by-append}
use Rattle.matroid_theory.specs.declared.Mode.{Mode}
use Rattle.matroid_theory.specs.Rep.{Rep}
use Rattle.matroid_theory.specs.Minor.{Matroid}
use Rattle.matroid_theory.specs.Level.{IsCount, followed_by}
use Rattle.class_store.specs.Seen.{PassSide, calls_with}
use Rattle.extension.specs.Admissible.{ColumnsAfter, IsNextColumn, IsLastColumn, value, above_values}
use Rattle.level_driver.specs.Children.{IsCandidate, IsChildKey}
use Rattle.level_driver.specs.Forbidden.{Avoids}
use Rattle.level_driver.proofs.Tried.{IsTriedUpTo, IsUpTo, HasTried, tried_none, one_more, not_yet}
use Rattle.workers.specs.Keys.{AreKeysOf, times}
use Rattle.workers.specs.Offered.{AreEmpty, OffersChildren, gathered_with}
use Rattle.workers.proofs.KeyLists.{keys_both, keys_none, keys_one, keys_same}
use Rattle.workers.proofs.Calls.{empty_with}

-- the keys for the columns up to the last one were offered, or are gathered
pub record HasOffered (mode : Mode) (Ns : List Matroid) (old : PassSide) (columns : ColumnsAfter) (tried : ℕ) (pass : PassSide)
    (batches : List (List (List ℕ))) : Type 0 where
  pub keys : List (List ℕ)
  pub are_keys : AreKeysOf (IsTriedUpTo Ns columns) (IsChildKey mode columns.parent) keys
  pub count : tried ≡ length keys
  pub bound : tried + (above_values - value columns.last) ≤ above_values
  pub calls : (key : List ℕ) → calls_with key pass + gathered_with key batches ≡ calls_with key old + times key keys

no_value : {X : Type 0} (P : X → Type 0) → IsCount P 0 → (x : X) → ¬ (P x)
no_value P none x p = let e = none.exact x in let c = e.1 p in let l = c.1 in let n = none.number in absurd (omega arith)

-- at the start none is up to the last one
pub offered_none : (mode : Mode) (Ns : List Matroid) (P : Rep) (pass : PassSide) (batches : List (List (List ℕ))) → 0 < length P.factors → AreEmpty batches
    → (columns : ColumnsAfter) → columns ≡ record { parent = P; last = [] } → HasOffered mode Ns pass columns 0 pass batches
offered_none mode Ns P pass batches some none columns is =
    let tried : HasTried mode Ns [] columns 0 [] = tried_none mode Ns [] P some columns is in record {
      keys = [];
      are_keys = keys_none (IsChildKey mode columns.parent) (IsTriedUpTo Ns columns) (no_value (IsTriedUpTo Ns columns) tried.count);
      count = refl;
      bound = tried.bound;
      calls = λ key. let z = empty_with key batches none in let t : times key [] ≡ 0 = refl in omega arith;
    }

module _ (mode : Mode) (Ns : List Matroid) (old : PassSide) (columns following : ColumnsAfter) (v : List ℕ) (next : IsNextColumn columns v)
    (is : following ≡ record { parent = columns.parent; last = v }) (falls : above_values - value following.last < above_values - value columns.last) where
  same_parent : following.parent ≡ columns.parent
  same_parent = ap (λ (c : ColumnsAfter). c.parent) is

  up_to : (w : List ℕ) → IsUpTo following w ↔ (IsUpTo columns w ⊎ (w ≡ v))
  up_to w = subst (λ (c : ColumnsAfter). IsUpTo c w ↔ (IsUpTo columns w ⊎ (w ≡ v))) (sym is) (one_more columns v next w)

  -- the next one was tried too, and its key offered or gathered
  pub offered_more : (tried more : ℕ) (pass now : PassSide) (batches after : List (List (List ℕ))) (key : List ℕ) → Avoids Ns (followed_by columns.parent v)
      → IsChildKey mode columns.parent v key → HasOffered mode Ns old columns tried pass batches → more ≡ tried + 1
      → ((k : List ℕ) → calls_with k now + gathered_with k after ≡ calls_with k pass + gathered_with k batches + times k (key ∷ []))
      → HasOffered mode Ns old following more now after
  offered_more tried more pass now batches after key avoids child h one calls = record {
    keys = h.keys ++ key ∷ [];
    are_keys =
        subst (λ (P : Rep). AreKeysOf (IsTriedUpTo Ns following) (IsChildKey mode P) (h.keys ++ key ∷ [])) (sym same_parent)
        (keys_both (IsChildKey mode columns.parent) (IsTriedUpTo Ns columns) (λ w. w ≡ v) (IsTriedUpTo Ns following) h.keys (key ∷ []) h.are_keys
        (keys_one (IsChildKey mode columns.parent) v key child) (λ w u. not_yet columns v next w u.0) tried_up_to);
    count = let c = h.count in let l = length-append h.keys (key ∷ []) in omega arith;
    bound = let b = h.bound in let f = falls in omega arith;
    calls = λ k.
        let c = calls k in let b = h.calls k in
        let t : times k (h.keys ++ key ∷ []) ≡ times k h.keys + times k (key ∷ []) =
        sum_by-append (λ (l : List ℕ). cond (bytes_eq k l) 1 0) h.keys (key ∷ []) in
        omega arith;
  }
    where
      tried_up_to : (w : List ℕ) → IsTriedUpTo Ns following w ↔ (IsTriedUpTo Ns columns w ⊎ (w ≡ v))
      tried_up_to w = (
        λ u. elim ((up_to w).0 u.0) [
          | inl b ↦ inl (b, subst (λ (P : Rep). Avoids Ns (followed_by P w)) same_parent u.1)
          | inr e ↦ inr e
        ],
        λ h. elim h [
          | inl b ↦ ((up_to w).1 (inl b.0), subst (λ (P : Rep). Avoids Ns (followed_by P w)) (sym same_parent) b.1)
          | inr e ↦ (
            (up_to w).1 (inr e),
            subst (λ (P : Rep). Avoids Ns (followed_by P w)) (sym same_parent)
                (subst (λ w. Avoids Ns (followed_by columns.parent w)) (sym e) avoids),
          )
        ],
      )

  -- the next one makes one of the matroids a minor
  pub offered_same : (tried : ℕ) (pass : PassSide) (batches : List (List (List ℕ))) → ¬ (Avoids Ns (followed_by columns.parent v))
      → HasOffered mode Ns old columns tried pass batches → HasOffered mode Ns old following tried pass batches
  offered_same tried pass batches has h = record {
    keys = h.keys;
    are_keys =
        subst (λ (P : Rep). AreKeysOf (IsTriedUpTo Ns following) (IsChildKey mode P) h.keys) (sym same_parent)
        (keys_same (IsChildKey mode columns.parent) (IsTriedUpTo Ns columns) (IsTriedUpTo Ns following) h.keys tried_up_to h.are_keys);
    count = h.count;
    bound = let b = h.bound in let f = falls in omega arith;
    calls = h.calls;
  }
    where
      tried_up_to : (w : List ℕ) → IsTriedUpTo Ns columns w ↔ IsTriedUpTo Ns following w
      tried_up_to w = (
        λ u. ((up_to w).1 (inl u.0), subst (λ (P : Rep). Avoids Ns (followed_by P w)) (sym same_parent) u.1),
        λ u.
            let avoids : Avoids Ns (followed_by columns.parent w) = subst (λ (P : Rep). Avoids Ns (followed_by P w)) same_parent u.1 in
            elim ((up_to w).0 u.0) [
              | inl b ↦ (b, avoids)
              | inr e ↦ absurd (has (subst (λ w. Avoids Ns (followed_by columns.parent w)) e avoids))
            ],
      )

-- where no column comes after the last one, and no key is gathered any more, all were offered
pub offered_all : (mode : Mode) (Ns : List Matroid) (old : PassSide) (columns : ColumnsAfter) (tried : ℕ) (pass now : PassSide) (batches : List (List (List ℕ)))
    → HasOffered mode Ns old columns tried pass batches → IsLastColumn columns
    → ((k : List ℕ) → calls_with k now ≡ calls_with k pass + gathered_with k batches) → OffersChildren mode Ns columns.parent old now tried
offered_all mode Ns old columns tried pass now batches h last calls = record {
  keys = h.keys;
  are_keys = keys_same (IsChildKey mode columns.parent) (IsTriedUpTo Ns columns) (IsCandidate Ns columns.parent) h.keys all h.are_keys;
  calls = λ k. let c = calls k in let b = h.calls k in omega arith;
  count = h.count;
  few = let b = h.bound in omega arith;
}
  where
    all : (w : List ℕ) → IsTriedUpTo Ns columns w ↔ IsCandidate Ns columns.parent w
    all w = (
      λ u. record { admissible = u.0.0; avoids = u.1 },
      λ a. ((a.admissible, λ g. last w a.admissible (let t = nat_list_cmp_total in t.antisymm columns.last w ∙ ap ordering_reverse g)), a.avoids),
    )
