-- A set of columns with a basis of it: its rank, and one more column.
use Rattle.std.proofs.Common.{◌≡◌, ◌≢◌, ℕ, ◌*◌, ◌%◌, ◌^◌, ◌<◌, ◌≤◌, sym, ◌∙◌, ap, subst, arith, true, false, inl, inr, bit_or}
use Rattle.std.specs.Bool.{◌==◌}
use Rattle.std.specs.Int.{bit_at, w16}
use Rattle.std.specs.Int.RustNames.{count_ones}
use Rattle.std.proofs.lemmas.Bool.{cases_eq}
use Rattle.std.proofs.lemmas.Nat.{one_shl, or_lt}
use Rattle.std.proofs.lemmas.Nat.Bits.{bit_at_set_same, bit_at_set_other}
use Rattle.std.proofs.Math.Pow.{pow-lt}
use mathlib.Core.Bool.{true≢false}
use Rattle.matroid_theory.specs.Field.{IsField}
use Rattle.matroid_theory.specs.Matrix.{IsIndependentPart}
use Rattle.matroid_theory.specs.Rep.{Rep, size, order, matrix, KeepsLimits}
use Rattle.matroid_theory.specs.Matroid.{members, IsIndependentIn}
use Rattle.matroid_theory.specs.Connection.{IsRank}
use Rattle.matrix_lemmas.proofs.Bases.{with_element, with_own, with_other, smaller_independent, rank_exists, greatest_part}
use Rattle.matrix_lemmas.proofs.FieldLaws.{field_laws}
use Rattle.matrix_lemmas.proofs.MaskCounts.{size-members}
use Rattle.matrix_lemmas.proofs.Masks.{IsIndependent-same}
use Rattle.connectivity.specs.Sides.{IsSide}

-- the mask of column j, as the code computes it
abbrev pub one : ℕ → ℕ
one j = 1 * 2 ^ j % 65536

pub members_with : (set j k : ℕ) → j < 16 → members (bit_or set (one j)) k ≡ with_element j (members set) k
members_with set j k l = elim (cases_eq k j) [
  | inl e ↦ ap (λ x. bit_at (bit_or set (one j)) x == 1) e ∙ ap (λ x. x == 1) (bit_at_set_same w16 set j l)
      ∙ sym (ap (with_element j (members set)) e ∙ with_own j (members set))
  | inr n ↦ ap (λ x. x == 1) (bit_at_set_other w16 set j l k n) ∙ sym (with_other j (members set) k n)
]

with_below : (set j n : ℕ) → j < n → n ≤ 16 → set < 2 ^ n → bit_or set (one j) < 2 ^ n
with_below set j n l m h =
    let k : j < 16 = omega arith in
    or_lt n set (one j) h (subst (λ (x : ℕ). x < 2 ^ n) (sym (one_shl j 16 k)) (pow-lt l))

module _ (M : Rep) (set basis j : ℕ) (l : j < size M) (m : size M ≤ 16) (h : IsSide M set basis) where
  j_below : j < 16
  j_below = omega arith

  with_j : (set : ℕ) → members (bit_or set (one j)) j ≡ true
  with_j set = members_with set j j j_below ∙ with_own j (members set)

  beside_j : (set k : ℕ) → k ≢ j → members (bit_or set (one j)) k ≡ members set k
  beside_j set k n = members_with set j k j_below ∙ with_other j (members set) k n

  -- the new column is added to the basis
  pub side_longer : IsIndependentIn M 0 (members (bit_or basis (one j))) → IsSide M (bit_or set (one j)) (bit_or basis (one j))
  side_longer d = record {
    set_below = with_below set j (size M) l m h.set_below;
    basis_below = with_below basis j (size M) l m h.basis_below;
    within = λ k o t. elim (cases_eq k j) [
      | inl e ↦ ap (members (bit_or set (one j))) e ∙ with_j set
      | inr n ↦ beside_j set k n ∙ h.within k o (sym (beside_j basis k n) ∙ t)
    ];
    independent = d;
    full = λ e o t f i. elim (cases_eq e j) [
      | inl q ↦ true≢false (sym (with_j basis) ∙ ap (members (bit_or basis (one j))) (sym q) ∙ f)
      | inr n ↦ h.full e o (sym (beside_j set e n) ∙ t) (sym (beside_j basis e n) ∙ f)
          (smaller_independent (order M 0) M.rank (size M) (matrix M 0) (with_element e (members basis))
          (with_element e (members (bit_or basis (one j)))) (down e) i)
    ];
  }
    where
      down : (e k : ℕ) → k < size M → with_element e (members (bit_or basis (one j))) k ≡ false → with_element e (members basis) k ≡ false
      down e k o f = elim (cases_eq k e) [
        | inl q ↦ absurd (true≢false (sym (ap (with_element e (members (bit_or basis (one j)))) q ∙ with_own e (members (bit_or basis (one j)))) ∙ f))
        | inr n ↦ with_other e (members basis) k n ∙ elim (cases_eq k j) [
          | inl q ↦ absurd (true≢false
              (sym (ap (members (bit_or basis (one j))) q ∙ with_j basis) ∙ sym (with_other e (members (bit_or basis (one j))) k n) ∙ f))
          | inr p ↦ sym (beside_j basis k p) ∙ sym (with_other e (members (bit_or basis (one j))) k n) ∙ f
        ]
      ]

  -- the new column depends on the basis
  pub side_same : ¬ (IsIndependentIn M 0 (members (bit_or basis (one j)))) → IsSide M (bit_or set (one j)) basis
  side_same d = record {
    set_below = with_below set j (size M) l m h.set_below;
    basis_below = h.basis_below;
    within = λ k o t. elim (cases_eq k j) [
      | inl e ↦ ap (members (bit_or set (one j))) e ∙ with_j set
      | inr n ↦ beside_j set k n ∙ h.within k o t
    ];
    independent = h.independent;
    full = λ e o t f i. elim (cases_eq e j) [
      | inl q ↦ d (IsIndependent-same (order M 0) M.rank (size M) (matrix M 0) (with_element e (members basis)) (members (bit_or basis (one j)))
          (λ k _. ap (λ x. with_element x (members basis) k) q ∙ sym (members_with basis j k j_below)) i)
      | inr n ↦ h.full e o (sym (beside_j set e n) ∙ t) f i
    ];
  }

-- the rank is the number of columns in the basis
pub side_rank : (M : Rep) → KeepsLimits M → (set basis : ℕ) → IsSide M set basis → IsRank M (members set) (count_ones basis)
side_rank M r set basis h =
    let F : IsField (order M 0) = field_laws (order M 0) (r.shaped.orders 0 r.fields.some) in
    let codes : (i j : ℕ) → i < M.rank → j < size M → matrix M 0 i j < order M 0 = λ i j l m. r.shaped.codes 0 i j r.fields.some l m in
    let (k, e) = rank_exists (order M 0) F M.rank (size M) (matrix M 0) codes (members set) in
    let b : IsIndependentPart (order M 0) M.rank (size M) (matrix M 0) (members set) (count_ones basis) (members basis) =
    record { within = h.within; elements = size-members (size M) basis h.basis_below; independent = h.independent } in
    subst (λ (x : ℕ). IsRank M (members set) x)
    (sym (greatest_part (order M 0) F M.rank (size M) (matrix M 0) codes (members set) k (count_ones basis) (members basis) e b h.full)) e
