-- What is known after some of the columns of a parent were tried, and after all of them.
use Rattle.std.proofs.Common.{◌≡◌, ◌≢◌, ◌⊎◌, ◌↔◌, ℕ, ◌+◌, ◌-◌, ◌*◌, ◌<◌, ◌≤◌, List, [], ◌∷◌, length, slice_index, inl, inr, refl, sym, ◌∙◌, ap, subst, arith}
use Rattle.std.specs.List.{Contains}
use Rattle.std.specs.Cmp.Lexicographic.{slice_cmp}
use Rattle.std.specs.Ordering.{nat_cmp, ordering_reverse}
use Rattle.std.specs.declared.cmp.Ordering.{Ordering}
use Rattle.std.specs.declared.cmp.Ordering.TheVariants.{Less, Equal, Greater}
use Rattle.std.proofs.lemmas.Cmp.{nat_list_cmp_total, tied_itself}
use Rattle.std.proofs.lemmas.Map.Lookups.{exact_bytes}
use Rattle.matroid_theory.specs.declared.Mode.{Mode}
use Rattle.matroid_theory.specs.Rep.{Rep}
use Rattle.matroid_theory.specs.Minor.{Matroid}
use Rattle.matroid_theory.specs.Level.{IsCount, IsNormalised, followed_by}
use Rattle.extension.specs.Admissible.{IsAdmissible, ColumnsAfter, IsNextColumn, IsLastColumn, value, above_values}
use Rattle.level_driver.specs.Children.{Adds, IsChildKey, IsCandidate, AddsChildren}
use Rattle.level_driver.specs.Forbidden.{Avoids}
use Rattle.level_driver.proofs.Counts.{count_same, count_none, count_one, count_both}

-- an admissible column up to the last one
abbrev pub IsUpTo : ColumnsAfter → List ℕ → Type 0
IsUpTo columns w = IsAdmissible columns.parent w × (slice_cmp nat_cmp w columns.last ≢ Greater)

-- such a column by which none of the matroids becomes a minor
abbrev pub IsTriedUpTo : List Matroid → ColumnsAfter → List ℕ → Type 0
IsTriedUpTo Ns columns w = IsUpTo columns w × Avoids Ns (followed_by columns.parent w)

-- the columns up to the last one were tried, and the forms added
pub record HasTried (mode : Mode) (Ns : List Matroid) (start : List (List ℕ)) (columns : ColumnsAfter) (tried : ℕ)
    (found : List (List ℕ)) : Type 0 where
  pub count : IsCount (IsTriedUpTo Ns columns) tried
  pub bound : tried + (above_values - value columns.last) ≤ above_values
  pub kept : (key : List ℕ) → Contains start key → Contains found key
  pub sound : (key : List ℕ) → Contains found key → Contains start key ⊎ ((v : List ℕ) × IsCandidate Ns columns.parent v × IsChildKey mode columns.parent v key)
  pub complete : (v : List ℕ) → IsTriedUpTo Ns columns v → (key : List ℕ) × Contains found key × IsChildKey mode columns.parent v key

-- the other way round
turned : (v w : List ℕ) (r : Ordering) → slice_cmp nat_cmp v w ≡ r → slice_cmp nat_cmp w v ≡ ordering_reverse r
turned v w r e = let t = nat_list_cmp_total in t.antisymm w v ∙ ap ordering_reverse e

not_empty : (factors : List ℕ) (rank : ℕ) → 0 < length factors → (v : List ℕ) → IsNormalised factors rank v → v ≡ [] → ⊥
not_empty factors rank some v h e =
    let one : slice_index v (h.lead * length factors + 0) ≡ 1 = h.ones 0 some in
    let zero : slice_index v (h.lead * length factors + 0) ≡ 0 = ap (λ (v : List ℕ). slice_index v (h.lead * length factors + 0)) e in
    omega arith

above_empty : (v : List ℕ) → (v ≡ [] → ⊥) → slice_cmp nat_cmp v [] ≡ Greater
above_empty [] h = absurd (h refl)
above_empty (x ∷ xs) h = refl

-- at the start none is up to the last one
pub tried_none : (mode : Mode) (Ns : List Matroid) (start : List (List ℕ)) (P : Rep) → 0 < length P.factors →
    (columns : ColumnsAfter) → columns ≡ record { parent = P; last = [] } → HasTried mode Ns start columns 0 start
tried_none mode Ns start P some columns is =
    subst (λ columns. HasTried mode Ns start columns 0 start) (sym is) record {
      count = count_none (IsTriedUpTo Ns begin) (λ v u. none v u.0);
      bound = omega arith;
      kept = λ key c. c;
      sound = λ key c. inl c;
      complete = λ v u. absurd (none v u.0);
    }
  where
    begin : ColumnsAfter
    begin = record { parent = P; last = [] }

    none : (v : List ℕ) → ¬ (IsUpTo begin v)
    none v u = let a = u.0 in u.1 (above_empty v (not_empty P.factors P.rank some v a.normalised))

module _ (columns : ColumnsAfter) (v : List ℕ) (next : IsNextColumn columns v) where
  after : ColumnsAfter
  after = record { parent = columns.parent; last = v }

  -- up to the next one are those up to the last one, and it
  pub one_more : (w : List ℕ) → (IsAdmissible columns.parent w × (slice_cmp nat_cmp w v ≢ Greater)) ↔ (IsUpTo columns w ⊎ (w ≡ v))
  one_more w = (λ u. by_order (slice_cmp nat_cmp columns.last w) refl u.0 u.1, back)
    where
      tied : (r : Ordering) → slice_cmp nat_cmp w v ≡ r → slice_cmp nat_cmp w v ≢ Greater → slice_cmp nat_cmp v w ≢ Greater → w ≡ v
      tied Less e h g = absurd (g (turned w v Less e))
      tied Equal e h g = exact_bytes w v e
      tied Greater e h g = absurd (h e)

      by_order : (r : Ordering) → slice_cmp nat_cmp columns.last w ≡ r → IsAdmissible columns.parent w →
          slice_cmp nat_cmp w v ≢ Greater → IsUpTo columns w ⊎ (w ≡ v)
      by_order Less e a h = inr (tied (slice_cmp nat_cmp w v) refl h (next.first w a e))
      by_order Equal e a h = inl (a, λ g. let t = turned w columns.last Greater g in cc)
      by_order Greater e a h = inl (a, λ g. let t = turned w columns.last Greater g in cc)

      below : (r : Ordering) → slice_cmp nat_cmp w columns.last ≡ r → slice_cmp nat_cmp w columns.last ≢ Greater → slice_cmp nat_cmp w v ≢ Greater
      below Less e h g = let t = nat_list_cmp_total in let l = t.trans w columns.last v e next.after in cc
      below Equal e h g = let t = nat_list_cmp_total in let l = t.congr w columns.last v e in let n = next.after in cc
      below Greater e h g = h e

      back : IsUpTo columns w ⊎ (w ≡ v) → IsAdmissible columns.parent w × (slice_cmp nat_cmp w v ≢ Greater)
      back h =
          elim h [
            | inl u ↦ (u.0, below (slice_cmp nat_cmp w columns.last) refl u.1)
            | inr e ↦ (
              subst (IsAdmissible columns.parent) (sym e) next.admissible,
              λ g. let s = tied_itself nat_list_cmp_total v in
                  let k = ap (λ x. slice_cmp nat_cmp x v) e in cc,
            )
          ]

  pub not_yet : (w : List ℕ) → IsUpTo columns w → w ≡ v → ⊥
  not_yet w u e = u.1 (ap (λ x. slice_cmp nat_cmp x columns.last) e ∙ turned columns.last v Less next.after)

  module _ (mode : Mode) (Ns : List Matroid) (start found : List (List ℕ)) (tried : ℕ) (following : ColumnsAfter)
      (is : following ≡ record { parent = columns.parent; last = v })
      (falls : above_values - value following.last < above_values - value columns.last) (h : HasTried mode Ns start columns tried found) where
    fewer : above_values - value v < above_values - value columns.last
    fewer = subst (λ (c : ColumnsAfter). above_values - value c.last < above_values - value columns.last) is falls

    -- the next one was tried too
    pub tried_more : Avoids Ns (followed_by columns.parent v) → (new : List (List ℕ)) (key : List ℕ) →
        IsChildKey mode columns.parent v key → Adds found new key → HasTried mode Ns start following (tried + 1) new
    unfolding after
    tried_more avoids new key child adds =
        subst (λ columns. HasTried mode Ns start columns (tried + 1) new) (sym is) record {
          count = count_both (IsTriedUpTo Ns columns) (λ w. w ≡ v) (IsTriedUpTo Ns after) tried 1 h.count (count_one v) (λ w u. not_yet w u.0) one_more_tried;
          bound = (let b : tried + (above_values - value columns.last) ≤ above_values = h.bound in let f = fewer in omega arith);
          kept = λ other c. let a = adds other in a.1 (inl (h.kept other c));
          sound = λ other c.
              let a = adds other in
              elim (a.0 c) [
                | inl d ↦ h.sound other d
                | inr e ↦ inr (v, record { admissible = next.admissible; avoids = avoids }, subst (IsChildKey mode columns.parent v) (sym e) child)
              ];
          complete = λ w u.
              elim ((one_more_tried w).0 u) [
                | inl b ↦ (let d = h.complete w b in let a = adds d.0 in (d.0, a.1 (inl d.1), d.2))
                | inr e ↦ (let a = adds key in (key, a.1 (inr refl), subst (λ w. IsChildKey mode columns.parent w key) (sym e) child))
              ];
        }
      where
        one_more_tried : (w : List ℕ) →
            ((IsAdmissible columns.parent w × (slice_cmp nat_cmp w v ≢ Greater)) × Avoids Ns (followed_by columns.parent w)) ↔
            (IsTriedUpTo Ns columns w ⊎ (w ≡ v))
        one_more_tried w = (
          λ u. elim ((one_more w).0 u.0) [ inl b ↦ inl (b, u.1) | inr e ↦ inr e ],
          λ h. elim h [
            | inl b ↦ ((one_more w).1 (inl b.0), b.1)
            | inr e ↦
                ((one_more w).1 (inr e), subst (λ w. Avoids Ns (followed_by columns.parent w)) (sym e) avoids)
          ],
        )

    -- the next one makes one of the matroids a minor
    pub tried_same : ¬ (Avoids Ns (followed_by columns.parent v)) → HasTried mode Ns start following tried found
    unfolding after
    tried_same has =
        subst (λ columns. HasTried mode Ns start columns tried found) (sym is) record {
          count = count_same (IsTriedUpTo Ns columns) (IsTriedUpTo Ns after) tried (λ w. (λ u. ((one_more w).1 (inl u.0), u.1), up_to_last w)) h.count;
          bound = (let b : tried + (above_values - value columns.last) ≤ above_values = h.bound in let f = fewer in omega arith);
          kept = h.kept;
          sound = h.sound;
          complete = λ w u. h.complete w (up_to_last w u);
        }
      where
        up_to_last : (w : List ℕ) → (IsAdmissible columns.parent w × (slice_cmp nat_cmp w v ≢ Greater))
            × Avoids Ns (followed_by columns.parent w) → IsTriedUpTo Ns columns w
        up_to_last w u =
            elim ((one_more w).0 u.0) [
              | inl b ↦ (b, u.1)
              | inr e ↦ absurd (has (subst (λ w. Avoids Ns (followed_by columns.parent w)) e u.1))
            ]

-- where no column comes after the last one, all were tried
module _ (mode : Mode) (Ns : List Matroid) (start found : List (List ℕ)) (columns : ColumnsAfter) (tried : ℕ)
    (h : HasTried mode Ns start columns tried found) (last : IsLastColumn columns) where
  all_up_to : (w : List ℕ) → IsCandidate Ns columns.parent w → IsTriedUpTo Ns columns w
  all_up_to w a = ((a.admissible, λ g. last w a.admissible (turned w columns.last Greater g)), a.avoids)

  pub tried_count : IsCount (IsCandidate Ns columns.parent) tried
  tried_count = count_same (IsTriedUpTo Ns columns) (IsCandidate Ns columns.parent) tried
      (λ w. (λ u. record { admissible = u.0.0; avoids = u.1 }, all_up_to w)) h.count

  pub tried_all : AddsChildren mode Ns columns.parent start found
  tried_all = record { kept = h.kept; sound = h.sound; complete = λ v a. h.complete v (all_up_to v a) }
