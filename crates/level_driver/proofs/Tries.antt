-- What is known after some of the parents were extended.
use Rattle.std.proofs.Common.{◌≡◌, ◌⊎◌, ◌↔◌, ℕ, ◌+◌, ◌<◌, ◌≤◌, List, [], ◌∷◌, ◌++◌, length, take, inl, inr, sym, ◌∙◌, ap, subst, arith, get_or}
use Rattle.std.specs.List.{Contains, AllPairs}
use Rattle.std.specs.declared.cmp.Ordering.TheVariants.{Less}
use Rattle.std.proofs.lemmas.List.{take_more, take_all, get_or-take, length-take-le}
use Rattle.std.proofs.lemmas.List.Elements.{Contains-append_left, Contains-push, Contains-push_cases}
use Rattle.matroid_theory.specs.declared.Mode.{Mode}
use Rattle.matroid_theory.specs.Rep.{Rep}
use Rattle.matroid_theory.specs.Order.{rep_cmp}
use Rattle.matroid_theory.specs.Level.{IsCount}
use Rattle.matroid_theory.specs.Minor.{Matroid}
use Rattle.matroid_laws.proofs.Levels.{rep_cmp-irreflexive}
use Rattle.level_driver.specs.Children.{IsChildKey, IsCandidate, AddsChildren}
use Rattle.level_driver.proofs.Counts.{count_none, count_both, count_images}

-- one of the parents and a column that make a candidate
abbrev pub IsExtension : List Matroid → List Rep → Rep × List ℕ → Type 0
IsExtension Ns parents try = Contains parents try.0 × IsCandidate Ns try.0 try.1

-- these parents were extended by all columns, and the forms added
pub record HasGrown (mode : Mode) (Ns : List Matroid) (parents : List Rep) (tried : ℕ) (found : List (List ℕ)) : Type 0 where
  pub count : IsCount (IsExtension Ns parents) tried
  pub sound : (key : List ℕ) → Contains found key → (try : Rep × List ℕ) × IsExtension Ns parents try × IsChildKey mode try.0 try.1 key
  pub complete : (try : Rep × List ℕ) → IsExtension Ns parents try → (key : List ℕ) × Contains found key × IsChildKey mode try.0 try.1 key

pub grown_none : (mode : Mode) (Ns : List Matroid) (found : List (List ℕ)) → found ≡ [] → HasGrown mode Ns [] 0 found
grown_none mode Ns found empty = subst (HasGrown mode Ns [] 0) (sym empty) record {
  count = count_none (IsExtension Ns []) (λ try e. let l = e.0.1 in absurd (omega arith));
  sound = λ key c. let l = c.1 in absurd (omega arith);
  complete = λ try e. let l = e.0.1 in absurd (omega arith);
}

module _ (mode : Mode) (Ns : List Matroid) (parents : List Rep) (P : Rep) (new_one : ¬ (Contains parents P)) where
  more : List Rep
  more = parents ++ P ∷ []

  of_last : Rep × List ℕ → Type 0
  of_last try = (v : List ℕ) × IsCandidate Ns P v × ((P, v) ≡ try)

  pub two_kinds : (try : Rep × List ℕ) →
      IsExtension Ns (parents ++ P ∷ []) try ↔ (IsExtension Ns parents try ⊎ ((v : List ℕ) × IsCandidate Ns P v × ((P, v) ≡ try)))
  two_kinds try = (there, back)
    where
      there : IsExtension Ns (parents ++ P ∷ []) try → IsExtension Ns parents try ⊎ ((v : List ℕ) × IsCandidate Ns P v × ((P, v) ≡ try))
      there e =
          elim (Contains-push_cases parents P try.0 e.0) [
            | inl c ↦ inl (c, e.1)
            | inr same ↦ inr (try.1, subst (λ (M : Rep). IsCandidate Ns M try.1) (sym same) e.1, λ i. (same i, try.1))
          ]

      back : IsExtension Ns parents try ⊎ ((v : List ℕ) × IsCandidate Ns P v × ((P, v) ≡ try)) → IsExtension Ns (parents ++ P ∷ []) try
      back h =
          elim h [
            | inl e ↦ (Contains-append_left parents (P ∷ []) try.0 e.0, e.1)
            | inr (v, a, same) ↦ subst (IsExtension Ns (parents ++ P ∷ [])) same (Contains-push parents P, a)
          ]

  -- one parent more
  pub grown_more : (tried k : ℕ) (found new : List (List ℕ)) → HasGrown mode Ns parents tried found →
      IsCount (IsCandidate Ns P) k → AddsChildren mode Ns P found new → HasGrown mode Ns (parents ++ P ∷ []) (tried + k) new
  grown_more tried k found new h count adds = record {
    count = count_both (IsExtension Ns parents) (λ try. (v : List ℕ) × IsCandidate Ns P v × ((P, v) ≡ try)) (IsExtension Ns (parents ++ P ∷ [])) tried k h.count
        (count_images (λ (v : List ℕ). (P, v)) (IsCandidate Ns P) k (λ v w e. ap (λ t. t.1) e) count)
        (λ try e l. new_one (subst (Contains parents) (sym (ap (λ t. t.0) l.2)) e.0)) two_kinds;
    sound = λ key c.
        elim (adds.sound key c) [
          | inl d ↦ (let s = h.sound key d in (s.0, (two_kinds s.0).1 (inl s.1), s.2))
          | inr (v, a, child) ↦ ((P, v), (Contains-push parents P, a), child)
        ];
    complete = λ try e.
        elim ((two_kinds try).0 e) [
          | inl d ↦ (let s = h.complete try d in (s.0, adds.kept s.0 s.1, s.2))
          | inr (v, a, same) ↦ (let s = adds.complete v a in (s.0, s.1, subst (λ (t : Rep × List ℕ). IsChildKey mode t.0 t.1 s.0) same s.2))
        ];
  }

-- in a rising list no form stands before itself
pub not_before : (parents : List Rep) → AllPairs (λ M N. rep_cmp M N ≡ Less) parents → (i : ℕ) (P : Rep) → i < length parents →
    P ≡ get_or parents i P → ¬ (Contains (take i parents) P)
not_before parents rising i P l is (k, m, e) =
    let n : length (take i parents) ≡ i = length-take-le i parents (omega arith) in
    let k' : k < i = omega arith in
    let same : get_or parents k P ≡ P = sym (get_or-take i parents k P k') ∙ e in
    let less : rep_cmp (get_or parents k P) (get_or parents i P) ≡ Less = rising k i P k' l in
    rep_cmp-irreflexive P (subst (λ N. rep_cmp P N ≡ Less) (sym is) (subst (λ M. rep_cmp M (get_or parents i P) ≡ Less) same less))

-- the next parent
pub grown_step : (mode : Mode) (Ns : List Matroid) (parents : List Rep) → AllPairs (λ M N. rep_cmp M N ≡ Less) parents →
    (i : ℕ) (P : Rep) → i < length parents → P ≡ get_or parents i P → (tried k : ℕ) (found new : List (List ℕ))
    → HasGrown mode Ns (take i parents) tried found → IsCount (IsCandidate Ns P) k → AddsChildren mode Ns P found new →
    HasGrown mode Ns (take (i + 1) parents) (tried + k) new
grown_step mode Ns parents rising i P l is tried k found new h count adds =
    subst (λ (done : List Rep). HasGrown mode Ns done (tried + k) new) (ap (λ (M : Rep). take i parents ++ M ∷ []) is ∙ sym (take_more parents i P l))
    (grown_more mode Ns (take i parents) P (not_before parents rising i P l is) tried k found new h count adds)

-- all parents
pub grown_all : (mode : Mode) (Ns : List Matroid) (parents : List Rep) (i tried : ℕ) (found : List (List ℕ)) →
    length parents ≤ i → HasGrown mode Ns (take i parents) tried found → HasGrown mode Ns parents tried found
grown_all mode Ns parents i tried found l h = subst (λ (done : List Rep). HasGrown mode Ns done tried found) (take_all i parents l) h
