-- Where all elements are placed, what is settled is the list of numbers of each form, and of the class.
use Rattle.std.proofs.Common.{◌≡◌, ◌≢◌, inl, inr, ℕ, ◌+◌, ◌-◌, ◌<◌, ◌≤◌, true, false, List, length, slice_index, Option, Some, None, IfSome, sym, ◌∙◌, subst, arith}
use Rattle.std.specs.Cmp.Lexicographic.{slice_cmp}
use Rattle.std.specs.Ordering.{nat_cmp}
use Rattle.std.specs.declared.cmp.Ordering.TheVariants.{Greater}
use Rattle.std.proofs.lemmas.Bool.{cases_lt}
use Rattle.std.proofs.lemmas.Cmp.{nat_list_cmp_total}
use Rattle.matroid_theory.specs.Rep.{Rep, count, size, matrix, IsShaped}
use Rattle.matroid_theory.specs.Move.{Move}
use Rattle.matrix_lemmas.proofs.Orderings.{at_most_itself}
use Rattle.form_trails.specs.Trail.{ReachesForm, Trail, Follows}
use Rattle.form_trails.specs.Least.{number}
use Rattle.form_search.specs.Search.{Entries, IsThere, IsPlacing, Covers, AreOfClass, Stands, Improves, numbers_of}
use Rattle.form_trails.proofs.Columns.{number_entries}
use Rattle.form_trails.proofs.Ends.{member_begins}
use Rattle.form_search.proofs.Found.{full_at_most, full_begins, class_length, replaced}

module _ (M : Rep) (shaped : IsShaped M) (some : 0 < count M) (k : ℕ) (groups : ℕ → ℕ) (settled : List ℕ) (layer rest : Entries)
    (d : Trail) (h : IsPlacing M k groups settled layer rest d) where
  -- the settled numbers are those of each form that follows the trail
  pub settled_numbers : (m : Move) (N : Rep) → ReachesForm M m N → Follows M d k (length settled) m → (j : ℕ) → j < length settled →
      number M (λ f i. matrix N f i (M.rank + j)) ≡ slice_index settled j
  settled_numbers m N reach f j l =
      number_entries M (λ f i. matrix N f i (M.rank + j)) (d.columns j)
      (λ g i b o. (let t = h.trail in let w = t.determines in w.begins m N reach f j g i l b o)) ∙ sym (h.numbers j l)

  -- an open element leaves room
  pub settled_room : M.rank + length settled ≤ size M
  settled_room = let t = h.trail in let p = t.placed in p.room

module _ (M : Rep) (shaped : IsShaped M) (some : 0 < count M) (groups : ℕ → ℕ) (settled : List ℕ) (layer rest : Entries) (d : Trail)
    (h : IsPlacing M 0 groups settled layer rest d)
    (none : (e : ℕ) → IsThere layer e → ⊥) where
  pub all_settled : M.rank + length settled ≡ size M
  all_settled = elim (cases_lt (M.rank + length settled) (size M)) [
    | inr g ↦ (let r : M.rank + length settled ≤ size M = settled_room M shaped some 0 groups settled layer rest d h in omega arith)
    | inl l ↦ elim (h.whole (M.rank + length settled) l (inr (omega arith))) [
      | inl w ↦ absurd (none w.0 w.1)
      | inr w ↦ (let (f, i, b, o, n) = h.outside w.0 w.1 in absurd (omega arith))
    ]
  ]

  pub settled_class : AreOfClass M settled
  settled_class = let (L, w) = member_begins M shaped some 0 (length settled) groups d h.trail in record {
    member = L;
    standard = w.standard;
    equivalent = w.equivalent;
    numbers_are = full_at_most M L settled all_settled
        (λ j l. number_entries M (λ f i. matrix L f i (M.rank + j)) (d.columns j) (λ g i b o. w.entries j g i l b o) ∙ sym (h.numbers j l));
  }

  form_numbers : (m : Move) (N : Rep) → ReachesForm M m N → Follows M d 0 (length settled) m → numbers_of M N ≡ settled
  form_numbers m N reach f = full_at_most M N settled all_settled (settled_numbers M shaped some 0 groups settled layer rest d h m N reach f)

  -- what was found is the list, or it takes its place
  pub settled_covers : Covers M d 0 (length settled) (Some settled)
  settled_covers m N reach f = subst (λ (w : List ℕ). slice_cmp nat_cmp settled w ≢ Greater) (sym (form_numbers m N reach f))
      (at_most_itself (slice_cmp nat_cmp) nat_list_cmp_total settled)

  pub level_covers : (found : Option (List ℕ)) → IfSome found (AreOfClass M) → Stands true found settled → Covers M d 0 (length settled) found
  level_covers None s b m N reach f = b
  level_covers (Some least) s b m N reach f =
      subst (λ (w : List ℕ). slice_cmp nat_cmp w (numbers_of M N) ≢ Greater)
      (full_begins settled least
      (let n : length least ≡ size M - M.rank = class_length M least s in
      let e : M.rank + length settled ≡ size M = all_settled in omega arith) b)
      (settled_covers m N reach f)

  pub settled_improves : (found : Option (List ℕ)) → Stands false found settled → Improves M found (Some settled) settled true
  settled_improves found b = replaced M found settled b settled_class
