use Rattle.std.proofs.Common.{◌≡◌, ◌-◌, ◌<◌, ◌≤◌, ℕ, length, sym, ◌∙◌, ap, subst, arith, refl, inl, inr}
use Rattle.std.proofs.lemmas.Bool.{false≢true, cases_lt}
use Rattle.matroid_theory.specs.Matrix.{size_below}
use Rattle.matroid_theory.specs.Matroid.{members}
use Rattle.matroid_theory.specs.Minor.{Matroid}
use Rattle.matrix_lemmas.proofs.Bases.{size_most}
use Rattle.bases.specs.declared.factor.FactorColumns.{FactorColumns}
use Rattle.column_sets.specs.Sets.{IsSetOfSize}
use Rattle.represent.specs.declared.told.Place.{Place}
use Rattle.represent.specs.Sought.{matroid_of}
use Rattle.represent.specs.Filled.{row_at, column_at}
use Rattle.represent.specs.Kept.{KeepsWith}
use Rattle.represent.proofs.KeptSets.{last_kept, each_kept}
use Rattle.represent.proofs.told.keeps_bases.Goals as goal

-- one more number of later columns
more : (N : Matroid) (matrix : FactorColumns) (place : Place) (n k count later : ℕ)
    → ((count later : ℕ) → count < k → IsSetOfSize n count later → KeepsWith N matrix place later)
    → ((later : ℕ) → IsSetOfSize n k later → KeepsWith N matrix place later)
    → count ≤ k → IsSetOfSize n count later → KeepsWith N matrix place later
more N matrix place n k count later h here l d = elim (cases_lt count k) [
  | inl b ↦ h count later b d
  | inr g ↦ (let e : count ≡ k = omega arith in here later (subst (λ (m : ℕ). IsSetOfSize n m later) e d))
]

pub returns-then-not-keeps_with : goal.returns-then-not-keeps_with
returns-then-not-keeps_with c =
    let r : ℕ = c.args.target.now.rank in
    let e : c.len.result - 1 ≡ length c.args.codes.now.items - 1 = ap (λ n. n - 1) c.len.ensures.value in (
      (λ t. absurd (false≢true t)),
      (λ k. absurd (false≢true (sym c.if-not-keeps_with.true ∙ c.keeps_with.ensures.1 (λ later _.
          each_kept c.args.target.now.order (matroid_of c.args.target.now) c.requires.sought c.args.codes.now.items c.requires.codes
          c.requires.some c.filled.result c.filled.ensures c.of-matrix.result c.of-matrix.ensures c.place_of-place.result
          (c.place_of-place.ensures.row ∙ ap (row_at r) e) (c.place_of-place.ensures.column ∙ ap (column_at r) e) k later)))),
    )

pub loop-count-preserved : goal.loop-count-preserved
loop-count-preserved c count later l d =
    more (matroid_of c.args.target.now) c.of-matrix.result c.place_of-place.result
    (c.place_of-place.result.column - c.args.target.now.rank) c.loop-count.count count later
    c.loop-count.invariant (c.keeps_with.ensures.0 c.if-not-keeps_with.false) (omega arith) d

pub returns-else-not-keeps_with : goal.returns-else-not-keeps_with
returns-else-not-keeps_with c =
    let r : ℕ = c.args.target.now.rank in
    let e : c.len.result - 1 ≡ length c.args.codes.now.items - 1 = ap (λ n. n - 1) c.len.ensures.value in (
      (λ _.
          last_kept c.args.target.now.order (matroid_of c.args.target.now) c.requires.sought c.args.codes.now.items c.requires.codes
          c.requires.some c.filled.result c.filled.ensures c.of-matrix.result c.of-matrix.ensures c.place_of-place.result
          (c.place_of-place.ensures.row ∙ ap (row_at r) e) (c.place_of-place.ensures.column ∙ ap (column_at r) e)
          (λ later b.
          let n : ℕ = c.place_of-place.result.column - c.args.target.now.rank in
          let m : size_below n (members later) ≤ n = size_most n (members later) in
          let g : c.from-count-end.result ≡ n = c.from-count-end.ensures in
          more (matroid_of c.args.target.now) c.of-matrix.result c.place_of-place.result n c.loop-count.count
          (size_below n (members later)) later c.loop-count.invariant (c.keeps_with.ensures.0 c.if-not-keeps_with.false) (omega arith)
          (record { below = b; elements = refl }))),
      (λ _. refl),
    )
