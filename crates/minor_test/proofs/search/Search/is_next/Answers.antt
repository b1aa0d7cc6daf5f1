use Rattle.std.proofs.Common.{◌≡◌, ◌≤◌, ◌<◌, ◌+◌, ◌^◌, ◌↔◌, ℕ, suc, List, refl, sym, ◌∙◌, ap, subst, arith, length, take, slice_index, bit_or, not}
use Rattle.std.proofs.lemmas.Bool.{false≢true}
use Rattle.std.proofs.lemmas.List.{length-take-le, get_or-take}
use Rattle.named_matroids.specs.SmallMatroids.{IsSmallMatroid}
use Rattle.matroid_theory.specs.Tables.{has}
use Rattle.minor_test.specs.Searches.{CarriesNext}
use Rattle.minor_test.proofs.NextImage.{room_below, next_from, next_free, next_carries}
use Rattle.minor_test.proofs.search.Search.is_next.Goals as goal

-- the first sets are those that are tested
tested : (minor whole sets : List ℕ) (j n count : ℕ) → count ≡ n → n ≤ length sets →
    CarriesNext minor whole (length (take count sets)) (take count sets) j ↔ CarriesNext minor whole n sets j
tested minor whole sets j n count e l = (
  (λ c X m. sym (at_count X) ∙ c X (subst (λ (y : ℕ). X < y) (sym count_is) m) ∙ at_set X m),
  (λ c X m. let o : X < n = subst (λ (y : ℕ). X < y) count_is m in at_count X ∙ c X o ∙ sym (at_set X o)),
)
  where
    count_is : length (take count sets) ≡ n
    count_is = length-take-le count sets (omega arith) ∙ e

    at_count : (X : ℕ) → has minor (length (take count sets) + X) ≡ has minor (n + X)
    at_count X = ap (λ y. has minor (y + X)) count_is

    at_set : (X : ℕ) → X < n → has whole (bit_or (slice_index (take count sets) X) (2 ^ j)) ≡ has whole (bit_or (slice_index sets X) (2 ^ j))
    at_set X m = ap (λ x. has whole (bit_or x (2 ^ j))) (get_or-take count sets X 0 (omega arith))

pub returns-then-not-in_set : goal.returns-then-not-in_set
returns-then-not-in_set c =
    let s : IsSmallMatroid c.args.self.now.sought.now = c.laws-2.ensures in
    let room : 2 ^ suc (length c.args.images.now.list.items) ≤ 2 ^ 16 = room_below c.args.self.now.sought.now.size
    (length c.args.images.now.list.items) s.size_most c.requires.room in
    let w = tested c.table.result.now.words c.table-then-not-in_set.result.now.words c.args.sets.now c.args.image (2 ^ length c.args.images.now.list.items) c.reached-count.result
    c.reached-count.ensures.value
    (let l : c.reached-count.result ≤ 512 = c.reached-count.ensures.few in
    let e : c.reached-count.result ≡ 2 ^ length c.args.images.now.list.items = c.reached-count.ensures.value in
    let f : length c.args.sets.now ≡ 1024 = c.requires.sets in omega arith) in (
      (λ t. next_from c.args.self.now.sought.now c.args.self.now.whole.now c.args.self.now.contracted
          (length c.args.images.now.list.items) c.args.images.now c.args.sets.now c.args.image refl c.requires.images c.requires.image
          c.table.result.now.words c.table-then-not-in_set.result.now.words c.table.ensures c.table-then-not-in_set.ensures room
          (sym c.in_set.ensures ∙ c.if-not-in_set.true) (w.0 (c.carries_next.ensures.0 t))),
      (λ h. c.carries_next.ensures.1
          (w.1 (next_carries c.args.self.now.sought.now c.args.self.now.whole.now c.args.self.now.contracted
          (length c.args.images.now.list.items) c.args.images.now c.args.sets.now c.args.image refl c.requires.images c.requires.image
          c.table.result.now.words c.table-then-not-in_set.result.now.words c.table.ensures c.table-then-not-in_set.ensures room h))),
    )

pub returns-else-not-in_set : goal.returns-else-not-in_set
returns-else-not-in_set c = (
  (λ t. absurd (false≢true (sym (ap not c.if-not-in_set.false) ∙ t))),
  (λ h. absurd (false≢true
      (sym (next_free c.args.self.now.sought.now c.args.self.now.whole.now c.args.self.now.contracted
      (length c.args.images.now.list.items) c.args.images.now c.args.sets.now c.args.image refl c.requires.images c.requires.image h)
      ∙ sym c.in_set.ensures ∙ c.if-not-in_set.false))),
)
