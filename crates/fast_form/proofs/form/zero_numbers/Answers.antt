use Rattle.std.proofs.Common.{◌≡◌, ◌⊎◌, inl, inr, ◌<◌, ◌≤◌, ◌+◌, ℕ, suc, List, not, slice_index, sym, ◌∙◌, ap, subst, arith}
use Rattle.form_search.specs.Start.{IsStarted, zero_test}
use Rattle.form_search.proofs.Starts.{AreFresh, started, started_zero, started_other}
use Rattle.matroid_theory.specs.Rep.{Rep, count}
use Rattle.form_states.specs.States.{IsShapeOf}
use Rattle.form_states.proofs.Shapes.{shaped, some, few, low}
use Rattle.fast_form.proofs.form.zero_numbers.Goals as goal
use Rattle.fast_form.proofs.form.zero_numbers.Goals.{then-not-marks-e, else-not-marks-e}

fresh_groups : (M : Rep) (fields : List ℕ) (factors rank total : ℕ) (groups : List ℕ) → IsShapeOf M fields factors rank total →
    ((i l : ℕ) → i < 6 → l < 6 → slice_index groups i ≡ slice_index groups l → (i ≡ l) ⊎ ((f : ℕ) → f < 3 → slice_index fields f ≡ 2)) →
    AreFresh M (slice_index groups)
fresh_groups M fields factors rank total groups h apart i l b b' e =
    let r : M.rank ≤ 6 = low M fields factors rank total h in
    elim (apart i l (omega arith) (omega arith) e) [
      | inl z ↦ inl z
      | inr w ↦ inr (λ f m. sym (h.fields_are f m) ∙ w f (let q : count M ≤ 3 = few M fields factors rank total h in omega arith))
    ]

pub loop-e-init : goal.loop-e-init
loop-e-init c =
    subst (IsStarted c.args.rep.now (slice_index c.args.groups.now) (zero_test c.args.marks.now) 0) (sym c.new-settled.ensures)
    (started c.args.rep.now (shaped _ _ _ _ _ c.requires.shape) (some _ _ _ _ _ c.requires.shape) c.requires.shape.standard (slice_index c.args.groups.now)
    (fresh_groups _ _ _ _ _ c.args.groups.now c.requires.shape c.requires.apart) (zero_test c.args.marks.now) c.requires.test)

pub loop-e-preserved : goal.loop-e-preserved
loop-e-preserved c =
    subst (λ i. IsStarted c.args.rep.now (slice_index c.args.groups.now) (zero_test c.args.marks.now) i c.if-not-marks-e.settled)
    (let e : suc c.loop-e.e ≡ c.loop-e.e + 1 = omega arith in e) (elim c.if-not-marks-e.branch [
      | then-not-marks-e w ↦
          started_zero c.args.rep.now (shaped _ _ _ _ _ c.requires.shape) (some _ _ _ _ _ c.requires.shape) c.requires.shape.standard (slice_index c.args.groups.now)
          (fresh_groups _ _ _ _ _ c.args.groups.now c.requires.shape c.requires.apart) (zero_test c.args.marks.now) c.requires.test c.loop-e.e c.loop-e.settled c.if-not-marks-e.settled
          c.loop-e.invariant
          (omega (arith, c.requires.shape.total_is, c.loop-e-test.true)) (ap not w.if-not-marks-e.true) (w.settled-is ∙ w.followed_by-settled.ensures)
      | else-not-marks-e w ↦
          subst (IsStarted c.args.rep.now (slice_index c.args.groups.now) (zero_test c.args.marks.now) (suc c.loop-e.e)) (sym w.settled-is)
          (started_other c.args.rep.now (shaped _ _ _ _ _ c.requires.shape) (some _ _ _ _ _ c.requires.shape) c.requires.shape.standard (slice_index c.args.groups.now)
          (fresh_groups _ _ _ _ _ c.args.groups.now c.requires.shape c.requires.apart) (zero_test c.args.marks.now) c.requires.test c.loop-e.e c.loop-e.settled c.loop-e.invariant
          (ap not w.if-not-marks-e.false))
    ])
