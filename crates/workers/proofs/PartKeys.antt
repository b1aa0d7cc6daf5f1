-- What is known after a worker has taken some numbers, and when it has ended its part.
use Rattle.std.proofs.Common.{◌≡◌, ◌⊎◌, ◌↔◌, ℕ, ◌+◌, ◌*◌, ◌^◌, ◌<◌, ◌≤◌, List, [], ◌∷◌, ◌++◌, map, length, Some, slice_get, slice_index_or, inl, inr, refl, sym, ◌∙◌, ap, subst, arith, length-append, append-nil, append_assoc, bytes_eq, cond, ⊎_elim}
use Rattle.std.specs.List.{Contains, AllPairs}
use Rattle.std.specs.declared.cmp.Ordering.TheVariants.{Less}
use Rattle.std.proofs.lemmas.Bool.{cases_lt}
use Rattle.std.proofs.lemmas.List.Elements.{Contains-append_left, Contains-append_right, Contains-push, Contains-push_cases}
use Rattle.std.proofs.lemmas.List.Sums.{sum_by-append}
use Rattle.std.proofs.lemmas.Option.{get_or_from_slice_get, slice_get_within}
use Rattle.matroid_theory.specs.declared.Mode.{Mode}
use Rattle.matroid_theory.specs.Rep.{Rep}
use Rattle.matroid_theory.specs.Order.{rep_cmp, IsForm}
use Rattle.matroid_theory.specs.Move.{AreEquivalent}
use Rattle.matroid_theory.specs.Minor.{Matroid}
use Rattle.matroid_theory.specs.Level.{Family, followed_by}
use Rattle.matroid_laws.proofs.Levels.{rep_cmp-irreflexive}
use Rattle.formats.specs.Request.{Request}
use Rattle.formats.specs.Levels.{AreGivenBy, Grows}
use Rattle.formats.specs.Minors.{given_as}
use Rattle.extension.specs.Admissible.{above_values}
use Rattle.class_store.specs.Seen.{PassSide}
use Rattle.steal_deque.specs.Deque.{times as often}
use Rattle.store_laws.specs.TryKeys.{IsTryKey}
use Rattle.level_driver.specs.Children.{IsCandidate, IsChildKey}
use Rattle.level_driver.specs.Grown.{IsParentLevel}
use Rattle.level_driver.proofs.NextLevel.{tries_are}
use Rattle.level_driver.proofs.UnitLevel.{forbidden_are}
use Rattle.workers.specs.Keys.{AreKeysOf, times}
use Rattle.workers.specs.Offered.{MadeCalls, OffersChildren}
use Rattle.workers.specs.Parts.{IsTryFrom, IsPart, DoesPart}
use Rattle.workers.proofs.KeyLists.{keys_both, keys_by, keys_images, keys_none, keys_same}
use Rattle.workers.proofs.Numbers.{once_more, short}

-- a parent with one of these numbers and a column that make a candidate
pub record IsExtensionFrom (Ns : List Matroid) (parents : List Rep) (numbers : List ℕ) (try : Rep × List ℕ) : Type 0 where
  pub number : ℕ
  pub taken : Contains numbers number
  pub there : slice_get parents number ≡ Some try.0
  pub candidate : IsCandidate Ns try.0 try.1

abbrev pub IsExtensionKey : Mode → Rep × List ℕ → List ℕ → Type 0
IsExtensionKey mode try key = IsChildKey mode try.0 try.1 key

-- the parents of the numbers that were taken so far were extended by all columns, and the keys offered
pub record HasTaken (mode : Mode) (Ns : List Matroid) (parents : List Rep) (before now : List ℕ) (old pass : PassSide) (tried : ℕ) : Type 0 where
  pub numbers : List ℕ
  pub took : now ≡ before ++ numbers
  pub keys : List (List ℕ)
  pub are_keys : AreKeysOf (IsExtensionFrom Ns parents numbers) (IsExtensionKey mode) keys
  pub calls : MadeCalls old pass keys
  pub count : tried ≡ length keys
  pub few : tried ≤ length numbers * above_values
  pub below : (x : ℕ) → Contains numbers x → x < 2 ^ 64
  pub once : (x : ℕ) → often x numbers ≤ 1

pub taken_none : (mode : Mode) (Ns : List Matroid) (parents : List Rep) (before : List ℕ) (pass : PassSide) → HasTaken mode Ns parents before before pass pass 0
taken_none mode Ns parents before pass = record {
  numbers = [];
  took = sym (append-nil before);
  keys = [];
  are_keys = keys_none (IsExtensionKey mode) (IsExtensionFrom Ns parents []) (λ try e. let t = e.taken in let l = t.1 in absurd (omega arith));
  calls = λ key. let t : times key [] ≡ 0 = refl in omega arith;
  count = refl;
  few = omega arith;
  below = λ x c. let l = c.1 in absurd (omega arith);
  once = λ x. omega arith;
}

-- in a rising list a form has one place
one_place : (parents : List Rep) → AllPairs (λ M N. rep_cmp M N ≡ Less) parents → (i j : ℕ) (P : Rep) →
    slice_get parents i ≡ Some P → slice_get parents j ≡ Some P
    → ¬ (i < j)
one_place parents rising i j P a b l =
    let less = rising i j P l (slice_get_within parents j P b) in
    let first : slice_index_or parents i P ≡ P = get_or_from_slice_get parents i P P a in
    let second : slice_index_or parents j P ≡ P = get_or_from_slice_get parents j P P b in
    rep_cmp-irreflexive P (subst (λ N. rep_cmp P N ≡ Less) second (subst (λ M. rep_cmp M (slice_index_or parents j P) ≡ Less) first less))

pub same_place : (parents : List Rep) → AllPairs (λ M N. rep_cmp M N ≡ Less) parents → (i j : ℕ) (P : Rep) →
    slice_get parents i ≡ Some P → slice_get parents j ≡ Some P
    → i ≡ j
same_place parents rising i j P a b =
    let left = one_place parents rising i j P a b in
    let right = one_place parents rising j i P b a in
    ⊎_elim (λ (l : i < j). absurd (left l))
    (λ (m : j ≤ i). ⊎_elim (λ (l : j < i). absurd (right l)) (λ (n : i ≤ j). omega arith) (cases_lt j i)) (cases_lt i j)

module _ (mode : Mode) (Ns : List Matroid) (parents : List Rep) (rising : AllPairs (λ M N. rep_cmp M N ≡ Less) parents)
    (before now : List ℕ) (old pass : PassSide) (tried : ℕ)
    (h : HasTaken mode Ns parents before now old pass tried) (p : ℕ) (P : Rep) (there : slice_get parents p ≡ Some P)
    (fresh : ¬ (Contains now p)) (small : p < 2 ^ 64) where
  new_one : ¬ (Contains h.numbers p)
  new_one c = fresh (subst (λ (l : List ℕ). Contains l p) (sym h.took) (in_back before h.numbers c))
    where
      in_back : (xs ys : List ℕ) → Contains ys p → Contains (xs ++ ys) p
      in_back xs ys c = Contains-append_right xs ys p c

  of_last : Rep × List ℕ → Type 0
  of_last try = (v : List ℕ) × IsCandidate Ns P v × ((P, v) ≡ try)

  two_kinds : (try : Rep × List ℕ) → IsExtensionFrom Ns parents (h.numbers ++ p ∷ []) try
      ↔ (IsExtensionFrom Ns parents h.numbers try ⊎ ((v : List ℕ) × IsCandidate Ns P v × ((P, v) ≡ try)))
  two_kinds try = (to, back)
    where
      to : IsExtensionFrom Ns parents (h.numbers ++ p ∷ []) try →
          IsExtensionFrom Ns parents h.numbers try ⊎ ((v : List ℕ) × IsCandidate Ns P v × ((P, v) ≡ try))
      to e =
          elim (Contains-push_cases h.numbers p e.number e.taken) [
            | inl c ↦ inl record { number = e.number; taken = c; there = e.there; candidate = e.candidate }
            | inr same ↦ (
                let at : slice_get parents p ≡ Some try.0 = subst (λ (k : ℕ). slice_get parents k ≡ Some try.0) (sym same) e.there in
                let is : P ≡ try.0 = cc (at, there) in
                inr (try.1, subst (λ (M : Rep). IsCandidate Ns M try.1) (sym is) e.candidate, λ i. (is i, try.1)))
          ]

      back : IsExtensionFrom Ns parents h.numbers try ⊎ ((v : List ℕ) × IsCandidate Ns P v × ((P, v) ≡ try)) →
          IsExtensionFrom Ns parents (h.numbers ++ p ∷ []) try
      back c =
          elim c [
            | inl e ↦ record {
              number = e.number;
              taken = Contains-append_left h.numbers (p ∷ []) e.number e.taken;
              there = e.there;
              candidate = e.candidate;
            }
            | inr (v, a, same) ↦ subst (IsExtensionFrom Ns parents (h.numbers ++ p ∷ [])) same
                record { number = p; taken = Contains-push h.numbers p; there = there; candidate = a }
          ]

  -- one parent more
  pub taken_more : (after : List ℕ) (next : PassSide) (more sum : ℕ) → after ≡ now ++ p ∷ [] → OffersChildren mode Ns P pass next more → sum ≡ tried + more
      → HasTaken mode Ns parents before after old next sum
  taken_more after next more sum is offers adds = record {
    numbers = h.numbers ++ p ∷ [];
    took = is ∙ (ap (λ (l : List ℕ). l ++ p ∷ []) h.took ∙ append_assoc before h.numbers (p ∷ []));
    keys = h.keys ++ offers.keys;
    are_keys =
        keys_both (IsExtensionKey mode) (IsExtensionFrom Ns parents h.numbers) (λ try. (v : List ℕ) × IsCandidate Ns P v × ((P, v) ≡ try))
        (IsExtensionFrom Ns parents (h.numbers ++ p ∷ [])) h.keys offers.keys h.are_keys
        (keys_images (λ (v : List ℕ). (P, v)) (IsChildKey mode P) (IsExtensionKey mode) (IsCandidate Ns P) offers.keys
        (λ v w e. ap (λ t. t.1) e) (λ v key a k. k) offers.are_keys)
        (λ try e l. new_one (subst (Contains h.numbers)
        (same_place parents rising e.number p P (e.there ∙ ap Some (sym (ap (λ t. t.0) l.2))) there) e.taken)) two_kinds;
    calls = λ key.
        let a = h.calls key in let b = offers.calls key in
        let t : times key (h.keys ++ offers.keys) ≡ times key h.keys + times key offers.keys =
        sum_by-append (λ (l : List ℕ). cond (bytes_eq key l) 1 0) h.keys offers.keys in omega arith;
    count = let a = h.count in let b = offers.count in let l = length-append h.keys offers.keys in omega arith;
    few = let a = h.few in let b = offers.few in let l = length-append h.numbers (p ∷ []) in omega arith;
    below = λ x c. elim (Contains-push_cases h.numbers p x c) [
      | inl d ↦ h.below x d
      | inr e ↦ subst (λ (k : ℕ). k < 2 ^ 64) e small
    ];
    once = once_more h.numbers p h.once new_one;
  }

-- so many tries fit
pub tries_fit : (mode : Mode) (Ns : List Matroid) (parents : List Rep) (before now : List ℕ) (old pass : PassSide) (tried : ℕ) →
    HasTaken mode Ns parents before now old pass tried
    → tried < 2 ^ 128
tries_fit mode Ns parents before now old pass tried h =
    let s = short (2 ^ 64) h.numbers h.below h.once in let f = h.few in omega arith

-- the part of a worker, by the tries of the size after the parents'
pub part_done : (q : Request) (Ns : List Matroid) → AreGivenBy (map given_as q.forbid) Ns →
    (parents : List Rep) (before now : List ℕ) (old pass : PassSide) (tried : ℕ)
    → HasTaken q.mode Ns parents before now old pass tried → DoesPart q parents before now old pass tried
part_done q Ns given parents before now old pass tried h = record { numbers = h.numbers; took = h.took; part = part; few = h.few }
  where
    part : (n : ℕ) (family : Family) → IsParentLevel q n parents → Grows q family → IsPart family (n + 1) parents h.numbers old pass tried
    part n family level grows = record {
      keys = h.keys;
      are_keys =
          keys_by (IsTryFrom family (n + 1) parents h.numbers) (IsExtensionKey q.mode) (IsTryKey family (n + 1)) h.keys key_of
          (keys_same (IsExtensionKey q.mode) (IsExtensionFrom Ns parents h.numbers) (IsTryFrom family (n + 1) parents h.numbers) h.keys same h.are_keys);
      calls = h.calls;
      count = h.count;
    }
      where
        are : Ns ≡ family.forbidden
        are = forbidden_are q Ns family given grows

        inside : (number : ℕ) (P : Rep) → slice_get parents number ≡ Some P → Contains parents P
        inside number P at = (number, slice_get_within parents number P at, get_or_from_slice_get parents number P P at)

        same : (try : Rep × List ℕ) → IsExtensionFrom Ns parents h.numbers try ↔ IsTryFrom family (n + 1) parents h.numbers try
        same try = (
          λ e. record {
            is_try = (tries_are q family grows n parents (level.level family grows) try).0
                (inside e.number try.0 e.there, subst (λ (Ms : List Matroid). IsCandidate Ms try.0 try.1) are e.candidate);
            number = e.number;
            taken = e.taken;
            there = e.there;
          },
          λ t.
              let both = (tries_are q family grows n parents (level.level family grows) try).1 t.is_try in
              record {
                number = t.number;
                taken = t.taken;
                there = t.there;
                candidate =
                    subst (λ (Ms : List Matroid). IsCandidate Ms try.0 try.1) (sym are) both.1;
              },
        )

        key_of : (try : Rep × List ℕ) (key : List ℕ) → IsTryFrom family (n + 1) parents h.numbers try →
            IsExtensionKey q.mode try key → IsTryKey family (n + 1) try key
        key_of try key t (N, form, equivalent, packed) = (
          N,
          record {
            is_try = t.is_try;
            form = subst (λ mode. IsForm mode N) (sym grows.mode_is) form;
            equivalent = subst (λ mode. AreEquivalent mode (followed_by try.0 try.1) N) (sym grows.mode_is) equivalent;
          },
          packed,
        )
