-- A representation followed by one more column.
use Rattle.std.proofs.Common.{◌≡◌, ℕ, suc, ◌+◌, ◌*◌, ◌<◌, ◌≤◌, sym, ◌∙◌, ap, subst, arith, List, [], ◌∷◌, ◌++◌, length, length-append, inl, inr}
use Rattle.std.specs.List.{slice_index, slice_index_or}
use Rattle.std.proofs.lemmas.Bool.{cases_lt}
use Rattle.std.proofs.Math.Seq.{get_or-append_seam}
use Rattle.std.proofs.Math.ListN.{get_or-append}
use Rattle.matroid_theory.specs.Rep.{Rep, count, size, order, matrix, IsShaped, IsStandard, IsProductColumn}
use Rattle.matroid_theory.specs.Level.{followed_by}

-- the columns before a new one, and the new one
pub matrix_before : (P : Rep) (v : List ℕ) (f i j : ℕ) → j < size P → matrix (followed_by P v) f i j ≡ matrix P f i j
matrix_before P v f i j l = ap (λ (c : List ℕ). slice_index c (i * count P + f)) (get_or-append P.columns (v ∷ []) [] j l)

pub matrix_last : (P : Rep) (v : List ℕ) (f i : ℕ) → matrix (followed_by P v) f i (size P) ≡ slice_index v (i * count P + f)
matrix_last P v f i = ap (λ (c : List ℕ). slice_index c (i * count P + f)) (get_or-append_seam P.columns v [] [])

pub size_followed : (P : Rep) (v : List ℕ) → size (followed_by P v) ≡ suc (size P)
size_followed P v = omega (arith, length-append P.columns (v ∷ []))

-- any column of the right kind may follow
pub shaped_pushed : (P : Rep) (v : List ℕ) → IsShaped P → IsProductColumn P.factors P.rank v → IsShaped (followed_by P v)
shaped_pushed P v s c = record {
  orders = s.orders;
  lengths = λ j l. elim (cases_lt j (size P)) [
    | inl b ↦ ap (λ (c : List ℕ). length c) (get_or-append P.columns (v ∷ []) [] j b) ∙ s.lengths j b
    | inr g ↦ (let n : size (followed_by P v) ≡ suc (size P) = size_followed P v in let e : j ≡ size P = omega arith in
        ap (λ j. length (slice_index_or (P.columns ++ v ∷ []) j [])) e ∙ ap (λ (c : List ℕ). length c) (get_or-append_seam P.columns v [] []) ∙ c.rows)
  ];
  codes = λ f i j l m o. elim (cases_lt j (size P)) [
    | inl b ↦ subst (λ (x : ℕ). x < order P f) (sym (matrix_before P v f i j b)) (s.codes f i j l m b)
    | inr g ↦ (let n : size (followed_by P v) ≡ suc (size P) = size_followed P v in let e : j ≡ size P = omega arith in
        subst (λ (x : ℕ). x < order P f) (sym (ap (matrix (followed_by P v) f i) e ∙ matrix_last P v f i)) (c.codes i f m l))
  ];
}

-- where a column follows, the columns before it are shaped, and it is one of the right kind
pub shaped_before : (P : Rep) (v : List ℕ) → IsShaped (followed_by P v) → IsShaped P
shaped_before P v s = record {
  orders = s.orders;
  lengths = λ j l. sym (ap (λ (c : List ℕ). length c) (get_or-append P.columns (v ∷ []) [] j l))
      ∙ s.lengths j (let n : size (followed_by P v) ≡ suc (size P) = size_followed P v in omega arith);
  codes = λ f i j l m o. subst (λ (x : ℕ). x < order P f) (matrix_before P v f i j o)
      (s.codes f i j l m (let n : size (followed_by P v) ≡ suc (size P) = size_followed P v in omega arith));
}

pub column_last : (P : Rep) (v : List ℕ) → IsShaped (followed_by P v) → IsProductColumn P.factors P.rank v
column_last P v s = record {
  rows = sym (ap (λ (c : List ℕ). length c) (get_or-append_seam P.columns v [] []))
      ∙ s.lengths (size P) (let n : size (followed_by P v) ≡ suc (size P) = size_followed P v in omega arith);
  codes = λ i f l m. subst (λ (x : ℕ). x < order P f) (matrix_last P v f i)
      (s.codes f i (size P) m l (let n : size (followed_by P v) ≡ suc (size P) = size_followed P v in omega arith));
}

-- it is standard where the columns before the new one are
pub standard_followed : (P : Rep) (v : List ℕ) → IsStandard P → IsStandard (followed_by P v)
standard_followed P v s = record {
  room = (let k : size (followed_by P v) ≡ suc (size P) = size_followed P v in let r : P.rank ≤ size P = s.room in omega arith);
  units = λ f i j l m n. (let r : P.rank ≤ size P = s.room in let b : j < size P = omega arith in matrix_before P v f i j b) ∙ s.units f i j l m n;
}

pub standard_before : (P : Rep) (v : List ℕ) → P.rank ≤ size P → IsStandard (followed_by P v) → IsStandard P
standard_before P v room s = record { room = room; units = λ f i j l m n. sym (matrix_before P v f i j (omega arith)) ∙ s.units f i j l m n }
