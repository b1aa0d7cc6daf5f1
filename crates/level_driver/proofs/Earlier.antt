-- Whether a form of a level passes the filters, by the forms at earlier places.
use Rattle.std.proofs.Common.{◌≡◌, ◌∙◌, ℕ, ◌<◌, List, [], length, get_or, Some, sym, ap, subst, arith, inl, inr, IsTrue}
use Rattle.std.specs.Prelude.{slice_get, Contains}
use Rattle.std.specs.declared.cmp.Ordering.TheVariants.{Less}
use Rattle.std.proofs.lemmas.Bool.{cases_order}
use Rattle.std.proofs.lemmas.Option.{slice_get_within, slice_get-get_or, get_or_from_slice_get}
use Rattle.matroid_theory.specs.Rep.{Rep}
use Rattle.matroid_theory.specs.Minor.{Matroid, HaveSameMatroid}
use Rattle.matroid_theory.specs.Order.{rep_cmp}
use Rattle.matroid_theory.specs.Level.{Family, Filters, IsLevel, Passes}
use Rattle.matroid_laws.proofs.Levels.{rep_cmp-irreflexive, rep_cmp-transitive}
use Rattle.level_driver.specs.Listed.{PassesAlone, AreMatroidsOf, IsFirst}
use Rattle.level_driver.proofs.SameMatroid.{isomorphic, same_matroid}

-- no form before place i has the matroid of M
abbrev pub IsEarliest : List Rep → ℕ → Rep → Type 0
IsEarliest forms i M = (j : ℕ) (N : Rep) → j < i → slice_get forms j ≡ Some N → ¬ (HaveSameMatroid N M)

module _ (forms : List Rep) (matroids : List Matroid) (h : AreMatroidsOf forms matroids) (i : ℕ) (M : Rep) (at : slice_get forms i ≡ Some M) where
  none : Matroid
  none = record { rank = 0; size = 0; bases = [] }

  matroid_at : (k : ℕ) (N : Rep) → slice_get forms k ≡ Some N → (A : Matroid) × (slice_get matroids k ≡ Some A)
  matroid_at k N e = (
    get_or matroids k none,
    slice_get-get_or matroids k none
        (let l : k < length forms = slice_get_within forms k N e in let s : length matroids ≡ length forms = h.number in omega arith),
  )

  pub earliest : IsFirst matroids i → IsEarliest forms i M
  earliest first j N l e same =
      let a = matroid_at j N e in
      let b = matroid_at i M at in
      first j a.0 b.0 l a.1 b.1 (isomorphic N M a.0 b.0 (h.each j N a.0 e a.1) (h.each i M b.0 at b.1) same)

  pub first : IsEarliest forms i M → IsFirst matroids i
  first earliest j A B l e f same =
      let within : i < length forms = slice_get_within forms i M at in
      let d : slice_get forms j ≡ Some (get_or forms j M) = slice_get-get_or forms j M (omega arith) in
      earliest j (get_or forms j M) l d (same_matroid (get_or forms j M) M A B (h.each j (get_or forms j M) A d e) (h.each i M B at f) same)

module _ (family : Family) (n : ℕ) (filters : Filters) (forms : List Rep) (i : ℕ) (M : Rep) (level : IsLevel family n forms)
    (at : slice_get forms i ≡ Some M) where
  is_at : (d : Rep) → get_or forms i d ≡ M
  is_at d = get_or_from_slice_get forms i M d at

  -- a form below M is at an earlier place
  before : (N : Rep) → Contains forms N → rep_cmp N M ≡ Less → (j : ℕ) × (j < i) × (slice_get forms j ≡ Some N)
  before N (k, l, e) less =
      elim (cases_order k i) [
        | inl same ↦ absurd (rep_cmp-irreflexive M (subst (λ (L : Rep). rep_cmp L M ≡ Less) (sym e ∙ ap (λ x. get_or forms x N) same ∙ is_at N) less))
        | inr other ↦ elim other [
          | inl b ↦ (k, b, slice_get-get_or forms k N l ∙ ap Some e)
          | inr b ↦ absurd (rep_cmp-irreflexive M (rep_cmp-transitive M N M
              (subst (λ (L : Rep). rep_cmp M L ≡ Less) e (subst (λ (L : Rep). rep_cmp L (get_or forms k N) ≡ Less) (is_at N) (level.rising i k N b l))) less))
        ]
      ]

  pub passes_all : PassesAlone filters M → (IsTrue filters.distinct → IsEarliest forms i M) → Passes family n filters M
  passes_all alone distinct = record {
    connected = alone.connected;
    three = alone.three;
    cosimple = alone.cosimple;
    has = alone.has;
    distinct = λ asked N form less same. let place = before N ((level.exact N).1 form) less in distinct asked place.0 N place.1 place.2 same;
  }

  pub passes_alone : Passes family n filters M → PassesAlone filters M
  passes_alone passes = record { connected = passes.connected; three = passes.three; cosimple = passes.cosimple; has = passes.has }

  pub is_earliest : Passes family n filters M → IsTrue filters.distinct → IsEarliest forms i M
  is_earliest passes asked j N l e same =
      let within : i < length forms = slice_get_within forms i M at in
      let is_there : get_or forms j M ≡ N = get_or_from_slice_get forms j N M e in
      passes.distinct asked N ((level.exact N).0 (j, omega arith, get_or_from_slice_get forms j N N e))
      (subst (λ (L : Rep). rep_cmp N L ≡ Less) (is_at M) (subst (λ (L : Rep). rep_cmp L (get_or forms i M) ≡ Less) is_there (level.rising j i M l within))) same
