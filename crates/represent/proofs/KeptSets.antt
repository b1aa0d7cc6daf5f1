-- The bases are kept at an entry where each of its sets, by its later columns, is a base exactly where it should be.
use Rattle.std.proofs.Common.{◌≡◌, ◌↔◌, ℕ, ◌+◌, ◌-◌, ◌^◌, ◌<◌, ◌≤◌, refl, sym, ◌∙◌, ap, subst, arith, lit<, List, length, Bool, true, false, not}
use mathlib.Core.Bool.{beq}
use Rattle.std.proofs.lemmas.Bool.{false≢true}
use Rattle.std.proofs.Math.Nat.{pow-le-pow_right}
use Rattle.bases.specs.declared.factor.FactorColumns.{FactorColumns}
use Rattle.bases.specs.FactorColumns.{IsFactorOf}
use Rattle.bases.proofs.Factors.{independent_same}
use Rattle.matroid_theory.specs.Matrix.{size_below}
use Rattle.matroid_theory.specs.Rep.{Rep, KeepsLimits}
use Rattle.matroid_theory.specs.Matroid.{members}
use Rattle.matroid_theory.specs.Minor.{Matroid}
use Rattle.dual_theory.specs.Represented.{IsStandardOver, KeepsBasesAt}
use Rattle.matrix_lemmas.proofs.MaskCounts.{size-members}
use Rattle.std.specs.Int.RustNames.{count_ones}
use Rattle.represent.specs.declared.told.Place.{Place}
use Rattle.represent.specs.Sought.{cells, IsSought}
use Rattle.represent.specs.Filled.{row_at, column_at, filled, AreCodes}
use Rattle.represent.specs.Kept.{IsWithin, IsToldWith, KeepsWith, KeepsLast}
use Rattle.represent.proofs.FilledMatrices.{row_below_r, column_below, filled_over, filled_limits}
use Rattle.represent.proofs.ToldSets.{told_at, told_with}

module _ (q : ℕ) (N : Matroid) (M : Rep) (over : IsStandardOver q N M) (limits : KeepsLimits M) (matrix : FactorColumns)
    (f : IsFactorOf M 0 matrix.field matrix.columns.items) (place : Place) (w : IsWithin N place) where
  pub all_kept : ((later : ℕ) → later < 2 ^ (place.column - N.rank) → KeepsWith N matrix place later) → KeepsBasesAt N M place.row place.column
  all_kept h X below full told =
      let (units, ub, later, lb, t) = told_with N.rank place w.row w.past N.size X w.column below told in
      let e = h later lb units X ub t full in
      let s = independent_same M limits 0 matrix.field matrix.columns.items f (members X) in (
        (λ c. record { full = ap (λ n. size_below n (members X)) over.sizes ∙ full ∙ sym over.ranks; independent = s.0 (e.0 c) }),
        (λ b. e.1 (s.1 b.independent)),
      )

  pub kept_each : KeepsBasesAt N M place.row place.column → (later : ℕ) → KeepsWith N matrix place later
  kept_each k later units X ub t full =
      let c : place.column < N.size = w.column in
      let m : 2 ^ (place.column + 1) ≤ 2 ^ N.size = pow-le-pow_right (lit< tt) (omega arith) in
      let b : X < 2 ^ (place.column + 1) = t.below in
      let e = k X (omega arith) full (told_at N.rank place w.row w.past N.size units later X t) in
      let s = independent_same M limits 0 matrix.field matrix.columns.items f (members X) in (
        (λ c. let b = e.0 c in s.1 b.independent),
        (λ i. e.1 (record { full = ap (λ n. size_below n (members X)) over.sizes ∙ full ∙ sym over.ranks; independent = s.0 i })),
      )

-- so too at the last entry of a list of codes
module _ (q : ℕ) (N : Matroid) (s : IsSought q N) (codes : List ℕ) (c : AreCodes q N codes) (some : 0 < length codes) (P : Rep)
    (same : P ≡ filled q N codes)
    (matrix : FactorColumns) (f : IsFactorOf P 0 matrix.field matrix.columns.items) (place : Place)
    (row : place.row ≡ row_at N.rank (length codes - 1)) (column : place.column ≡ column_at N.rank (length codes - 1)) where
  factor : IsFactorOf (filled q N codes) 0 matrix.field matrix.columns.items
  factor = subst (λ (M : Rep). IsFactorOf M 0 matrix.field matrix.columns.items) same f

  within : IsWithin N place
  within = record {
    rank_most = s.rank_most;
    size_most = s.size_most;
    row = (let l : row_at N.rank (length codes - 1) < N.rank = row_below_r q N s (length codes - 1) in omega arith);
    past = omega arith;
    column = (let l : column_at N.rank (length codes - 1) < N.size =
        column_below q N s (length codes - 1) (let m : length codes ≤ cells N = c.few in omega arith) in omega arith);
  }

  pub last_kept : ((later : ℕ) → later < 2 ^ (place.column - N.rank) → KeepsWith N matrix place later) → KeepsLast q N codes
  last_kept h =
      subst (λ i. KeepsBasesAt N (filled q N codes) i (column_at N.rank (length codes - 1))) row
      (subst (KeepsBasesAt N (filled q N codes) place.row) column
      (all_kept q N (filled q N codes) (filled_over q N s codes c) (filled_limits q N s codes c) matrix factor place within h))

  pub each_kept : KeepsLast q N codes → (later : ℕ) → KeepsWith N matrix place later
  each_kept k =
      kept_each q N (filled q N codes) (filled_over q N s codes c) (filled_limits q N s codes c) matrix factor place within
      (subst (λ i. KeepsBasesAt N (filled q N codes) i place.column) (sym row)
      (subst (KeepsBasesAt N (filled q N codes) (row_at N.rank (length codes - 1))) (sym column) k))

-- a set that is told at a place has as many elements as its mask has ones
pub told_size : (N : Matroid) (place : Place) (units later X : ℕ) → place.column < N.size → IsToldWith N.rank place units later X
    → size_below N.size (members X) ≡ count_ones X
told_size N place units later X l t =
    let m : 2 ^ (place.column + 1) ≤ 2 ^ N.size = pow-le-pow_right (lit< tt) (omega arith) in
    let b : X < 2 ^ (place.column + 1) = t.below in
    size-members N.size X (omega arith)

-- whether two answers are the same
pub agreeing : {P Q : Type 0} (a b : Bool) → ((a ≡ true) ↔ P) → ((b ≡ true) ↔ Q) → (beq a b ≡ true) ↔ (P ↔ Q)
agreeing true true h k = (λ _. (λ p. k.0 refl, λ q. h.0 refl), λ _. refl)
agreeing true false h k = (λ e. absurd (false≢true e), λ s. absurd (false≢true (k.1 (s.0 (h.0 refl)))))
agreeing false true h k = (λ e. absurd (false≢true e), λ s. absurd (false≢true (h.1 (s.1 (k.0 refl)))))
agreeing false false h k = (λ _. (λ p. absurd (false≢true (h.1 p)), λ q. absurd (false≢true (k.1 q))), λ _. refl)

-- what one answer says, the opposite answer says by being false
pub opposite : {P : Type 0} (a b : Bool) → b ≡ not a → ((a ≡ true) ↔ P) → (b ≡ false) ↔ P
opposite true b e h = (λ _. h.0 refl, λ _. e)
opposite false b e h = (λ f. absurd (false≢true (sym f ∙ e)), λ p. absurd (false≢true (h.1 p)))
