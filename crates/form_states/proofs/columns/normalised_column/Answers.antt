use Rattle.std.proofs.Common.{◌≡◌, ◌≢◌, inl, inr, ◌<◌, ℕ, List, slice_index, sym, ◌∙◌, ap, arith}
use Rattle.std.proofs.lemmas.Bool.{cases_lt}
use Rattle.matroid_theory.specs.Field.{IsField, times}
use Rattle.form_states.specs.Codes.{AreColumnCodes, code, IsNormalisedFrom}
use Rattle.form_states.specs.States.{AreLimits}
use Rattle.form_states.proofs.columns.normalised_column.Goals as goal

-- the first row that isn't 0 is one
same_lead : (c : ℕ → ℕ) (p q : ℕ) → ((i : ℕ) → i < p → c i ≡ 0) → c p ≢ 0 → ((i : ℕ) → i < q → c i ≡ 0) → c q ≢ 0 → p ≡ q
same_lead c p q zp np zq nq = elim (cases_lt p q) [
  | inl l ↦ absurd (np (zq p l))
  | inr g ↦ elim (cases_lt q p) [ inl l ↦ absurd (nq (zp q l)) | inr g' ↦ omega arith ]
]

-- a column that is normalised already
own_multiple : (fields : List ℕ) (factors rank total : ℕ) (column : List (List ℕ)) → AreLimits fields factors rank total → AreColumnCodes fields column →
    ((f : ℕ) → f < 3 → IsField (slice_index fields f)) →
    ((p : ℕ) → p < rank → ((i : ℕ) → i < p → code column 0 i ≡ 0) → code column 0 p ≢ 0 → (f : ℕ) → f < factors → code column f p ≡ 1) →
    IsNormalisedFrom fields factors rank (code column) (code column)
own_multiple fields factors rank total column limits codes laws ones = record {
  multiple = λ _. 1;
  multiple_code = limits.scalars;
  multiple_nonzero = λ f l e. absurd (omega arith);
  multiples = λ f i l b. (let t : f < 3 = omega (arith, limits.few) in let s : i < 6 = omega (arith, limits.low) in
      let F = laws f t in sym (F.times_one (code column f i) (codes i s f t)));
  leads = λ p b z n f l m. ones p b z n f l;
}

pub returns-then-p-shape-clause-normalised : goal.returns-then-p-shape-clause-normalised
returns-then-p-shape-clause-normalised c =
    own_multiple c.args.shape.now.fields c.args.shape.now.count c.args.shape.now.rank c.args.shape.now.size c.args.column.now c.requires.limits
    c.requires.column c.laws.ensures (λ p b z n. absurd (n (c.lead-p.ensures.zeros p (omega (arith, c.if-p-shape.true)))))

pub returns-then-are_ones-clause-normalised : goal.returns-then-are_ones-clause-normalised
returns-then-are_ones-clause-normalised c =
    own_multiple c.args.shape.now.fields c.args.shape.now.count c.args.shape.now.rank c.args.shape.now.size c.args.column.now c.requires.limits
    c.requires.column c.laws.ensures
    (λ p b z n f l. (let e : c.lead-p.result ≡ p = same_lead (code c.args.column.now 0) c.lead-p.result p c.lead-p.ensures.zeros
    (c.lead-p.ensures.nonzero (omega (arith, c.if-p-shape.false, c.lead-p.ensures.within))) z n in
    ap (code c.args.column.now f) (sym e) ∙ c.are_ones.ensures.0 c.if-are_ones.true f l))

pub returns-clause-normalised : goal.returns-clause-normalised
returns-clause-normalised c = record {
  multiple = slice_index c.inverse.result;
  multiple_code = c.inverse.ensures.codes;
  multiple_nonzero = c.inverse.ensures.nonzero;
  multiples = λ f i l b. c.multiplied_column.ensures.products f i l b;
  leads = λ p b z n f l m.
      (let e : c.lead-p.result ≡ p = same_lead (code c.args.column.now 0) c.lead-p.result p c.lead-p.ensures.zeros
      (c.lead-p.ensures.nonzero (omega (arith, c.if-p-shape.false, c.lead-p.ensures.within))) z n in
      c.multiplied_column.ensures.products f p l b
      ∙ ap (λ q. times (slice_index c.args.shape.now.fields f) (slice_index c.inverse.result f) (code c.args.column.now f q)) (sym e)
      ∙ c.inverse.ensures.ones f l (λ o. m (ap (code c.args.column.now f) (sym e) ∙ o)));
}
