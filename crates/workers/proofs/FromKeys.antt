-- The level, from the keys that were told New.
use Rattle.std.proofs.Common.{◌≡◌, ◌↔◌, ℕ, suc, ◌+◌, ◌<◌, ◌≤◌, List, arith}
use Rattle.std.specs.List.{AllZip, Contains}
use Rattle.std.specs.List.Sorted.{IsStrictlySortedBy}
use Rattle.std.specs.Cmp.Lexicographic.{slice_cmp}
use Rattle.std.specs.Ordering.{nat_cmp}
use Rattle.std.proofs.lemmas.Map.Keys.{Less-from_sorted}
use Rattle.matroid_theory.specs.Rep.{Rep, size}
use Rattle.matroid_theory.specs.Level.{Family, IsLevel, IsLevelForm, followed_by}
use Rattle.matroid_laws.proofs.Followed.{size_followed}
use Rattle.existence.proofs.Classes.{form_has_try}
use Rattle.formats.specs.Request.{Request}
use Rattle.formats.specs.Levels.{Grows}
use Rattle.histories.specs.declared.entry.Entry.{Entry}
use Rattle.class_store.specs.Seen.{IsNewIn}
use Rattle.form_key.specs.Packing.{IsPackedAs}
use Rattle.form_key.specs.Keys.{AreLevelKeys}
use Rattle.level_driver.specs.Grown.{IsParentLevel}
use Rattle.level_driver.proofs.NextLevel.{tries_are, have_packing, forms_level}
use Rattle.workers.specs.Store.{HoldsTries}
use Rattle.level_driver.specs.Keys.{HavePacking}

module _ (q : Request) (family : Family) (grows : Grows q family) (n : ℕ) (parents : List Rep) (level : IsParentLevel q n parents)
    (histories : List (List Entry))
    (holds : HoldsTries family (n + 1) histories) (next : ℕ) (is_next : (P : Rep) → Contains parents P → next ≡ size P + 1) where
  room : family.rank < n + 1
  room = let r : family.rank ≡ q.rank = grows.rank_is in let l : q.rank ≤ n = level.at_least in omega arith

  -- where a form of the next level is there, so is a parent
  next_is : (M : Rep) → IsLevelForm family (n + 1) M → next ≡ n + 1
  next_is M form =
      let (P, v, e, t) = form_has_try family (n + 1) M room form in
      let both = (tries_are q family grows n parents (level.level family grows) (P, v)).1 t.is_try in
      let s : size (followed_by P v) ≡ n + 1 = (let m = t.is_try.member in m.sizes) in
      let f : size (followed_by P v) ≡ suc (size P) = size_followed P v in
      let a : next ≡ size P + 1 = is_next P both.0 in
      omega arith

  module _ (keys : List (List ℕ)) (sorted : IsStrictlySortedBy (slice_cmp nat_cmp) keys)
      (exact : (key : List ℕ) → Contains keys key ↔ IsNewIn histories key) where
    are : AreLevelKeys family (n + 1) keys
    are = record {
      rising = λ i j d l m. Less-from_sorted (slice_cmp nat_cmp) keys i j d sorted l m;
      exact = λ key. (λ c. (holds.fresh key).0 ((exact key).0 c), λ f. (exact key).1 ((holds.fresh key).1 f));
    }

    size_is : (key : List ℕ) → Contains keys key → next ≡ n + 1
    size_is key c = let (M, form, e) = (holds.fresh key).0 ((exact key).0 c) in next_is M form

    pub new_packing : HavePacking (record { factors = q.factors; rank = q.rank; size = next }) keys
    new_packing = have_packing q family grows (n + 1) next keys size_is (λ key c. (are.exact key).0 c)

    pub new_level : (forms : List Rep) → AllZip (λ M key. IsPackedAs (record { factors = q.factors; rank = q.rank; size = next }) key M) forms keys
        → IsLevel family (n + 1) forms
    new_level = forms_level q family grows (n + 1) next keys size_is are
