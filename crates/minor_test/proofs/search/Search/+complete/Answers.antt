use Rattle.std.proofs.Common.{◌≡◌, ◌≤◌, ◌<◌, ◌+◌, ◌^◌, ◌++◌, ◌∷◌, [], ℕ, List, refl, sym, ◌∙◌, ap, subst, arith, length, length-append, slice_index, Option, Some, None, is_some, IsNone, false, below_more}
use Rattle.std.proofs.lemmas.Bool.{false≢true}
use Rattle.std.proofs.lemmas.Nat.{pow_below}
use Rattle.arrayvec.specs.ArrayVec.{ArrayVec}
use Rattle.matroid_theory.specs.Rep.{size}
use Rattle.matroid_theory.specs.Matroid.{members}
use Rattle.matroid_theory.specs.Minor.{IsMinorBy}
use Rattle.minor_test.specs.Searches.{first, BeginsWith, Embeds}
use Rattle.minor_test.specs.Twins.{KeepsOrder}
use Rattle.minor_test.proofs.Embeddings.{IsDone}
use Rattle.minor_test.proofs.Covered.{begins_next, next_of}
use Rattle.minor_test.proofs.search.Search.+complete.Goals as goal
use Rattle.minor_test.proofs.search.Search.+complete.Goals.{then-is_next+else-is_some, else-is_next}

pub returns-then-len-size-clause-found : goal.returns-then-len-size-clause-found
returns-then-len-size-clause-found t c =
    let e : length c.args.images.now.list.items ≡ c.args.self.now.sought.now.size = sym c.len.ensures.value ∙ c.if-len-size.true ∙ c.size.ensures in
    subst (λ (xs : List ℕ). Embeds c.args.self.now (slice_index xs))
    (sym (c.list_of.ensures ∙ c.as_slice.ensures.value))
    (subst (λ (n : ℕ). IsMinorBy (first c.args.self.now.sought.now n) c.args.self.now.whole.now (slice_index c.args.images.now.list.items)
    (members c.args.self.now.contracted)) e c.requires.images.embedding)

-- there are elements without an image
room : (n s len size : ℕ) → n ≤ s → len ≡ n → size ≡ s → ¬ (len ≡ size) → n < s
room n s len size l e d ne = omega arith

nothing : (o : Option (ArrayVec ℕ)) → is_some o ≡ false → IsNone o
nothing None e = refl
nothing (Some x) e = absurd (false≢true (sym e))

longer_below : (X : ℕ) (longer list : List ℕ) (j : ℕ) → longer ≡ list ++ j ∷ [] → X < 2 ^ length list → X < 2 ^ length longer
longer_below X longer list j e l =
    let k : length longer ≡ length list + 1 = ap (λ (xs : List ℕ). length xs) e ∙ length-append list (j ∷ []) in
    let b : 2 ^ length list < 2 ^ length longer = pow_below (length list) (length longer) (omega arith) in
    omega arith

pub loop-image-preserved : goal.loop-image-preserved
loop-image-preserved t c = record {
  done = below_more (λ j. c.first_image-first.result ≤ j →
      IsDone c.args.self.now c.args.images.now.list.items j)
      c.loop-image.image c.loop-image.invariant.done
      (λ _ f b k h. elim c.if-is_next.branch [
        | then-is_next+else-is_some w ↦ w.complete-found.ensures.none (nothing w.complete-found.result (sym w.is_some.ensures ∙ w.if-is_some.false)) f
            (subst (λ (xs : List ℕ). BeginsWith xs f) (sym w.with_next-longer.ensures.list) b) k h
        | else-is_next w ↦ false≢true (sym w.if-is_next.false ∙ c.is_next.ensures.1
            (next_of c.args.self.now c.args.images.now.list.items c.loop-image.image f
            (room (length c.args.images.now.list.items) c.args.self.now.sought.now.size c.len.result c.size.result c.requires.images.few
            c.len.ensures.value c.size.ensures c.if-len-size.false) b h))
      ]);
  kept = λ X l. elim c.if-is_next.branch [
    | then-is_next+else-is_some w ↦ ap (λ (xs : List ℕ). slice_index xs X) w.sets-is
        ∙ w.complete-found.ensures.kept X
        (longer_below X w.with_next-longer.result.list.items c.args.images.now.list.items c.loop-image.image
        w.with_next-longer.ensures.list l)
        ∙ w.with_next-longer.ensures.kept X l ∙ c.loop-image.invariant.kept X l
    | else-is_next w ↦ ap (λ (xs : List ℕ). slice_index xs X) w.sets-is ∙ c.loop-image.invariant.kept X l
  ];
}

-- the least image, as the slices have it
least : (first : ℕ) (images list : List ℕ) (twins items : List (Option ℕ)) (f : ℕ → ℕ) → images ≡ list → twins ≡ items
    → (BeginsWith images f → KeepsOrder twins f → first ≤ f (length images)) → BeginsWith list f → KeepsOrder items f → first ≤ f (length list)
least first images list twins items f e d h =
    subst (λ (xs : List ℕ). BeginsWith xs f → KeepsOrder items f → first ≤ f (length xs)) e
    (subst (λ (ts : List (Option ℕ)). BeginsWith images f → KeepsOrder ts f → first ≤ f (length images)) d h)

pub returns-clause-none : goal.returns-clause-none
returns-clause-none t c _ f b k h =
    let l : length c.args.images.now.list.items < c.args.self.now.sought.now.size =
    room (length c.args.images.now.list.items) c.args.self.now.sought.now.size c.len.result c.size.result c.requires.images.few
    c.len.ensures.value c.size.ensures c.if-len-size.false in
    let m : f (length c.args.images.now.list.items) < size c.args.self.now.whole.now = h.injection.below (length c.args.images.now.list.items) l in
    let e : c.size-image-end.result ≡ size c.args.self.now.whole.now = c.size-image-end.ensures in
    let g : c.size-image-end.result ≤ c.loop-image.image = c.loop-image-test.false in
    c.loop-image.invariant.done (f (length c.args.images.now.list.items)) (omega arith)
    (least c.first_image-first.result c.as_slice-3.result.now c.args.images.now.list.items c.as_slice-2.result.now
    c.args.self.now.twins.now.items f c.as_slice-3.ensures.value c.as_slice-2.ensures.value (c.first_image-first.ensures f) b k)
    f (begins_next c.args.images.now.list.items f b) k h
