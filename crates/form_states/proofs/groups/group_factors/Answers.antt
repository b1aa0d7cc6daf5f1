use Rattle.std.proofs.Common.{◌≡◌, ◌≢◌, ◌⊎◌, inl, inr, ◌+◌, ◌<◌, ℕ, [], true, false, length, length-set, slice_index, List, Bool, sym, ◌∙◌, subst, arith}
use Rattle.std.specs.List.{slice_set}
use Rattle.std.proofs.lemmas.Bool.{cases_eq, cases_Bool}
use mathlib.Core.Bool.{true≢false}
use Rattle.form_states.specs.Codes.{code, AreColumnCodes, AreCodes}
use Rattle.form_states.proofs.GroupSteps.{AreFactorsSoFar, factors_passed, factors_taken, set_at}
use Rattle.form_states.proofs.groups.group_factors.Goals as goal
use Rattle.form_states.proofs.groups.group_factors.Goals.{then-begins, else-begins}

set_codes : (fields : List ℕ) (factors : List (List ℕ)) (g : ℕ) (own : List ℕ) → g < length factors → AreColumnCodes fields factors → AreCodes fields own →
    AreColumnCodes fields (slice_set factors g own)
set_codes fields factors g own l h o i b f lf = set_at factors g own [] i l (λ row. slice_index row f < slice_index fields f) (λ _. o f lf) (λ _. h i b f lf)

passed : (x : ℕ) (s t : Bool) → ((x ≢ 0) → s ≡ false → t ≡ true) → t ≡ false → (x ≡ 0) ⊎ (s ≡ true)
passed x s t h e = elim (cases_eq x 0) [
  | inl z ↦ inl z
  | inr n ↦ elim (cases_Bool s) [ inl y ↦ inr y | inr y ↦ absurd (true≢false (sym (h n y) ∙ e)) ]
]

pub loop-i-preserved : goal.loop-i-preserved
loop-i-preserved c = elim c.if-begins.branch [
  | then-begins w ↦
      (let (n, u) = c.begins.ensures.0 w.if-begins.true in
      let g = slice_index c.args.groups.now c.loop-i.i in
      let b : g < 6 = c.requires.groups c.loop-i.i (omega (arith, c.requires.limits.low, c.loop-i-test.true)) in
      record {
        size = subst (λ (x : List (List ℕ)). length x ≡ 6) (sym w.factors-is) (length-set c.loop-i.factors g w.inverse.result ∙ c.loop-i.invariant.size);
        marks = subst (λ (x : List Bool). length x ≡ 6) (sym w.seen-is) (length-set c.loop-i.seen g true ∙ c.loop-i.invariant.marks);
        codes = subst (AreColumnCodes c.args.shape.now.fields) (sym w.factors-is)
            (set_codes c.args.shape.now.fields c.loop-i.factors g w.inverse.result (let e = c.loop-i.invariant.size in omega arith) c.loop-i.invariant.codes
            w.inverse.ensures.codes);
        so_far = subst (λ (x : List (List ℕ)). AreFactorsSoFar c.args.shape.now.fields c.args.shape.now.count (slice_index c.args.groups.now)
            (c.loop-i.i + 1) (code c.args.column.now) c.if-begins.seen (code x)) (sym w.factors-is)
            (subst (λ (x : List Bool). AreFactorsSoFar c.args.shape.now.fields c.args.shape.now.count (slice_index c.args.groups.now) (c.loop-i.i + 1)
            (code c.args.column.now) x (code (slice_set c.loop-i.factors g w.inverse.result))) (sym w.seen-is)
            (factors_taken c.args.shape.now.fields c.args.shape.now.count c.requires.limits.few (slice_index c.args.groups.now) c.loop-i.i
            (code c.args.column.now) c.loop-i.seen c.loop-i.factors c.requires.groups (omega (arith, c.requires.limits.low, c.loop-i-test.true))
            c.loop-i.invariant.so_far
            n u c.loop-i.invariant.marks c.loop-i.invariant.size w.inverse.result w.inverse.ensures.nonzero (λ f l z. w.inverse.ensures.ones f l z)));
      })
  | else-begins w ↦ record {
    size = subst (λ (x : List (List ℕ)). length x ≡ 6) (sym w.factors-is) c.loop-i.invariant.size;
    marks = subst (λ (x : List Bool). length x ≡ 6) (sym w.seen-is) c.loop-i.invariant.marks;
    codes = subst (AreColumnCodes c.args.shape.now.fields) (sym w.factors-is) c.loop-i.invariant.codes;
    so_far = subst (λ (x : List (List ℕ)). AreFactorsSoFar c.args.shape.now.fields c.args.shape.now.count (slice_index c.args.groups.now) (c.loop-i.i + 1)
        (code c.args.column.now) c.if-begins.seen (code x)) (sym w.factors-is)
        (subst (λ (x : List Bool). AreFactorsSoFar c.args.shape.now.fields c.args.shape.now.count (slice_index c.args.groups.now) (c.loop-i.i + 1)
        (code c.args.column.now) x (code c.loop-i.factors)) (sym w.seen-is)
        (factors_passed c.args.shape.now.fields c.args.shape.now.count c.requires.limits.few (slice_index c.args.groups.now) c.loop-i.i
        (code c.args.column.now) c.loop-i.seen c.loop-i.factors c.requires.groups (omega (arith, c.requires.limits.low, c.loop-i-test.true))
        c.loop-i.invariant.so_far
        (passed _ _ c.begins.result (λ n u. c.begins.ensures.1 (n, u)) w.if-begins.false)));
  }
]
