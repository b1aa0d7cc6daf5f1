-- The keys of a closed level that were told New.
use Rattle.std.proofs.Common.{◌≡◌, ◌↔◌, ℕ, zero, suc, true, ◌==◌, List, [], ◌∷◌, slice_get, refl, ap, sym, ◌∙◌, subst, Some, option_map, Contains, bytes_eq, ⊎_elim, IsPermutation, IsSorted, rules}
use Rattle.std.specs.List.{AllByRecursion, flat_map, dedup}
use Rattle.std.specs.List.Retain.{IsFiltered, DiffersFromLast}
use Rattle.std.specs.List.Sorted.{IsStrictlySortedBy}
use Rattle.std.specs.Cmp.{nat_cmp_total, nat_eq_equiv}
use Rattle.std.specs.Cmp.Lexicographic.{pointwise, slice_cmp, lists_total, lists_ties, lists_equiv}
use Rattle.std.specs.Ordering.{nat_cmp, eq_by_cmp}
use Rattle.std.specs.Cmp.Rules.{comparing}
use Rattle.std.proofs.lemmas.Bool.{false≢true, or_cases, or_left, or_right}
use Rattle.std.proofs.lemmas.List.Folds.{list_any-append}
use Rattle.std.proofs.lemmas.List.Filters.{dedup_is}
use Rattle.std.proofs.lemmas.List.Kept.{IsStrictlySortedBy-dedup, Contains-dedup, Contains-from_dedup}
use Rattle.std.proofs.lemmas.List.Sorted.{Contains-permutation}
use Rattle.std.proofs.lemmas.Option.{slice_get-map}
use Rattle.std.proofs.lemmas.Slice.Eq.{bytes_eq-Decides}
use Rattle.list_lemmas.proofs.Lists.{all_got}
use Rattle.histories.specs.SetObject.{has_key}
use Rattle.histories.specs.Counts.{new_keys}
use Rattle.histories.proofs.Keys.{has_from_contains, contains_from_has}
use Rattle.histories.proofs.News.{kept_keys}
use Rattle.class_store.specs.declared.closed.ClosedStripe.{ClosedStripe}
use Rattle.class_store.specs.Closed.{IsReplayed, histories_of}
use Rattle.class_store.specs.Seen.{IsNewIn}
use Rattle.class_store.proofs.Ends.{history_from}

-- ---- sorted, and each once
nat_ties : (x y : ℕ) → (x == y) ≡ eq_by_cmp nat_cmp x y
nat_ties x y = search (comparing, rules)

pub rises : (xs ys zs : List (List ℕ)) → IsSorted (slice_cmp nat_cmp) ys → IsFiltered (DiffersFromLast (pointwise (λ x y. x == y))) [] ys zs
    → IsStrictlySortedBy (slice_cmp nat_cmp) zs
rises xs ys zs sorted filtered = subst (IsStrictlySortedBy (slice_cmp nat_cmp)) (sym (dedup_is (pointwise (λ x y. x == y)) ys zs filtered))
    (IsStrictlySortedBy-dedup (lists_total nat_cmp_total) (lists_ties nat_cmp nat_ties) ys sorted)

pub same_keys : (xs ys zs : List (List ℕ)) (key : List ℕ) → IsPermutation xs ys → IsPermutation ys xs
    → IsFiltered (DiffersFromLast (pointwise (λ x y. x == y))) [] ys zs → Contains zs key ↔ Contains xs key
same_keys xs ys zs key there back filtered =
    let is : zs ≡ dedup (pointwise (λ x y. x == y)) ys = dedup_is (pointwise (λ x y. x == y)) ys zs filtered in (
      (λ c. Contains-permutation ys xs key back (Contains-from_dedup (pointwise (λ x y. x == y)) ys key (subst (λ l. Contains l key) is c))),
      (λ c. subst (λ l. Contains l key) (sym is)
          (Contains-dedup (lists_equiv nat_eq_equiv) (λ x y e. (bytes_eq-Decides x y).0 e) ys key (Contains-permutation xs ys key there c))),
    )

-- ---- the keys of all sets
in_a_set : (stripes : List ClosedStripe) (key : List ℕ) → has_key (flat_map (λ (c : ClosedStripe). c.set.keys) stripes) key ≡ true
    → (s : ℕ) × (c : ClosedStripe) × (slice_get stripes s ≡ Some c) × (has_key c.set.keys key ≡ true)
in_a_set [] key e = absurd (false≢true e)
in_a_set (c ∷ cs) key e = ⊎_elim
    (λ (here : has_key c.set.keys key ≡ true). (0, c, refl, here))
    (λ (there : has_key (flat_map (λ (c : ClosedStripe). c.set.keys) cs) key ≡ true). let r = in_a_set cs key there in (suc r.0, r.1, r.2, r.3))
    (or_cases (has_key c.set.keys key) (has_key (flat_map (λ (c : ClosedStripe). c.set.keys) cs) key)
    (sym (list_any-append (bytes_eq key) c.set.keys (flat_map (λ (c : ClosedStripe). c.set.keys) cs)) ∙ e))

in_all_sets : (stripes : List ClosedStripe) (key : List ℕ) (s : ℕ) (c : ClosedStripe) → slice_get stripes s ≡ Some c → has_key c.set.keys key ≡ true
    → has_key (flat_map (λ (c : ClosedStripe). c.set.keys) stripes) key ≡ true
in_all_sets [] key s c e h = absurd (cc e)
in_all_sets (d ∷ ds) key zero c e h = let same : d ≡ c = cc e in
    list_any-append (bytes_eq key) d.set.keys (flat_map (λ (c : ClosedStripe). c.set.keys) ds)
    ∙ or_left (has_key d.set.keys key) (has_key (flat_map (λ (c : ClosedStripe). c.set.keys) ds) key)
    (ap (λ (k : ClosedStripe). has_key k.set.keys key) same ∙ h)
in_all_sets (d ∷ ds) key (suc s) c e h =
    list_any-append (bytes_eq key) d.set.keys (flat_map (λ (c : ClosedStripe). c.set.keys) ds)
    ∙ or_right (has_key d.set.keys key) (has_key (flat_map (λ (c : ClosedStripe). c.set.keys) ds) key) (in_all_sets ds key s c e h)

pub new_in : (stripes : List ClosedStripe) (key : List ℕ) → AllByRecursion IsReplayed stripes
    → Contains (flat_map (λ (c : ClosedStripe). c.set.keys) stripes) key ↔ IsNewIn (histories_of stripes) key
new_in stripes key all = (
  (λ there.
      let r = in_a_set stripes key (has_from_contains (flat_map (λ (c : ClosedStripe). c.set.keys) stripes) key there) in
      let c : ClosedStripe = r.1 in
      let p : IsReplayed c = all_got IsReplayed stripes r.0 c all r.2 in (
        r.0,
        c.ended.history,
        slice_get-map (λ (c : ClosedStripe). c.ended.history) stripes r.0 ∙ ap (option_map (λ (c : ClosedStripe). c.ended.history)) r.2,
        subst (λ l. Contains l key) (p.keys ∙ kept_keys c.ended.history p.legal) (contains_from_has c.set.keys key r.3),
      )),
  (λ new.
      let at = history_from stripes new.0 new.1 new.2 in
      let c : ClosedStripe = at.0 in
      let p : IsReplayed c = all_got IsReplayed stripes new.0 c all at.1 in
      contains_from_has (flat_map (λ (c : ClosedStripe). c.set.keys) stripes) key
      (in_all_sets stripes key new.0 c at.1 (has_from_contains c.set.keys key
      (subst (λ l. Contains l key) (ap new_keys (sym at.2) ∙ sym (p.keys ∙ kept_keys c.ended.history p.legal)) new.3)))),
)
