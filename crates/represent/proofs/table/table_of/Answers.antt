use Rattle.std.proofs.Common.{◌≡◌, ◌<◌, ◌↔◌, ◌⊎◌, ◌++◌, ◌∷◌, [], ℕ, List, sym, subst, arith, inl, inr, take, slice_index}
use Rattle.std.specs.List.{Contains}
use Rattle.std.proofs.lemmas.List.{take_more, take_all}
use Rattle.std.proofs.lemmas.List.Elements.{Contains-push, Contains-push_cases, Contains-append_left}
use Rattle.std.proofs.lemmas.List.Kept.{AllPairs-from_increasing}
use Rattle.matrix_lemmas.proofs.Lists.{rising_unique}
use Rattle.represent.proofs.table.table_of.Goals as goal

-- one more mask
with_mask : (before : List ℕ) (set X : ℕ) (old new : List ℕ) → Contains new X ↔ (Contains old X ⊎ (set ≡ X))
    → Contains old X ↔ Contains before X → Contains new X ↔ Contains (before ++ set ∷ []) X
with_mask before set X old new e h = (
  (λ c. elim (e.0 c) [
    | inl o ↦ Contains-append_left before (set ∷ []) X (h.0 o)
    | inr i ↦ subst (λ (x : ℕ). Contains (before ++ set ∷ []) x) i (Contains-push before set)
  ]),
  (λ m. e.1 (elim (Contains-push_cases before set X m) [ inl o ↦ inl (h.1 o) | inr i ↦ inr i ])),
)

pub loop-mask-preserved : goal.loop-mask-preserved
loop-mask-preserved c X =
    subst (λ (xs : List ℕ). Contains c.add.new.self X ↔ Contains xs X)
    (sym (take_more c.args.masks.now c.loop-mask.mask-index 0 c.loop-mask-test.true))
    (with_mask (take c.loop-mask.mask-index c.args.masks.now)
    (slice_index c.args.masks.now c.loop-mask.mask-index) X c.loop-mask.table c.add.new.self (c.add.ensures X) (c.loop-mask.invariant X))

pub returns : goal.returns
returns c =
    rising_unique (λ x y. x < y) (λ x l. absurd (omega arith)) (λ x y z l m. omega arith) c.loop-mask.table c.args.masks.now
    (AllPairs-from_increasing c.loop-mask.table c.laws.ensures) (AllPairs-from_increasing c.args.masks.now c.requires)
    (λ X. (at X).0) (λ X. (at X).1)
  where
    at : (X : ℕ) → Contains c.loop-mask.table X ↔ Contains c.args.masks.now X
    at X = subst (λ (xs : List ℕ). Contains c.loop-mask.table X ↔ Contains xs X)
        (take_all c.loop-mask.mask-index c.args.masks.now c.loop-mask-test.false) (c.loop-mask.invariant X)
