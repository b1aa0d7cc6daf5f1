use Rattle.std.proofs.Common.{◌≡◌, ◌<◌, ◌-◌, ◌+◌, ◌^◌, ℕ, sym, ◌∙◌, subst, arith, refl, inl, inr, length}
use Rattle.std.specs.List.{slice_index, Contains}
use Rattle.std.proofs.lemmas.Bool.{false≢true, cases_lt}
use Rattle.std.proofs.lemmas.List.{get_or_default}
use Rattle.base_iso.specs.Started.{IsImage}
use Rattle.base_iso.proofs.Images.{one_image}
use Rattle.base_iso.proofs.carried.carries_last.Goals as goal

pub returns-then-not-stands_in : goal.returns-then-not-stands_in
returns-then-not-stands_in c =
    let one = c.with_greatest-set-items.ensures.no_others c.loop-set.set-index c.loop-set-test.true in
    let e : length c.args.labels.now - 1 + 1 ≡ length c.args.labels.now = omega (arith, c.requires.some) in (
      λ t. absurd (false≢true t),
      λ g. absurd (false≢true (sym c.if-not-stands_in.true
          ∙ c.stands_in.ensures.1 (g (slice_index c.with_greatest-set-items.result.now c.loop-set.set-index) c.image.result
          (one.low, subst (λ (n : ℕ). slice_index c.with_greatest-set-items.result.now c.loop-set.set-index < 2 ^ n) e one.high) one.stands c.image.ensures))),
    )

pub loop-set-preserved : goal.loop-set-preserved
loop-set-preserved c k Y l i =
    elim (cases_lt k c.loop-set.set-index) [
      | inl b ↦ c.loop-set.invariant k Y b i
      | inr g ↦ (let e : k ≡ c.loop-set.set-index = omega arith in
          subst (Contains c.args.b.now)
          (one_image c.args.labels.now (slice_index c.with_greatest-set-items.result.now c.loop-set.set-index) c.image.result Y
          c.image.ensures
          (subst (λ (k : ℕ). IsImage c.args.labels.now (slice_index c.with_greatest-set-items.result.now k) Y) e i))
          (c.stands_in.ensures.0 c.if-not-stands_in.false))
    ]

pub returns : goal.returns
returns c = (
  (λ _ X Y last m i. at X Y i
      (c.with_greatest-set-items.ensures.all X last.0
      (subst (λ (n : ℕ). X < 2 ^ n)
      (let e : length c.args.labels.now ≡ length c.args.labels.now - 1 + 1 = omega (arith, c.requires.some) in e) last.1) m)),
  λ _. refl,
)
  where
    at : (X Y : ℕ) → IsImage c.args.labels.now X Y → Contains c.with_greatest-set-items.result.now X → Contains c.args.b.now Y
    at X Y i (k, l, e) = c.loop-set.invariant k Y (omega arith)
        (subst (λ (Z : ℕ). IsImage c.args.labels.now Z Y) (sym (get_or_default c.with_greatest-set-items.result.now k 0 X l ∙ e)) i)
