-- When the new column is parallel to an old one, as it is read from their codes.
use Rattle.std.proofs.Common.{◌≡◌, ℕ, suc, ◌+◌, ◌*◌, ◌<◌, sym, ◌∙◌, subst, arith, List, length, slice_index}
use Rattle.matroid_theory.specs.Field.{IsField, times}
use Rattle.matroid_theory.specs.Matrix.{IsIndependent}
use Rattle.matroid_theory.specs.Rep.{Rep, size, count, order, matrix, column_of, KeepsLimits, IsProductColumn}
use Rattle.matroid_theory.specs.Matroid.{IsIndependentIn}
use Rattle.matroid_theory.specs.Level.{followed_by}
use Rattle.matrix_lemmas.proofs.FieldLaws.{field_laws}
use Rattle.matroid_laws.proofs.Followed.{matrix_before, matrix_last, size_followed}
use Rattle.matrix_lemmas.proofs.Pairs.{pair}
use Rattle.elimination.specs.Columns.{IsColumn}
use Rattle.product_rep.proofs.MoveLemmas.{column-entry, column-length}
use Rattle.extension.proofs.Followers.{rep_followed}
use Rattle.extension.proofs.Multiples.{multiple_dependent, apart_independent}

pub column_is : (M : Rep) → KeepsLimits M → (f j : ℕ) → f < count M → j < size M → (q : ℕ) → q ≡ order M f → (w : List ℕ) →
    w ≡ column_of M f j → IsColumn q M.rank w
column_is M r f j l m q d w e = record {
  rows = column-length M f j w e;
  below = λ i o. subst (λ (q : ℕ). slice_index w i < q) (sym d)
      (subst (λ (x : ℕ). x < order M f) (sym (column-entry M f j i w e o)) (let s = r.shaped in s.codes f i j l o m));
}

module _ (M : Rep) (v : List ℕ) (r : KeepsLimits M) (room : size M < 16) (c : IsProductColumn M.factors M.rank v) (f : ℕ)
    (l : f < count M) (q : ℕ) (d : q ≡ order M f) (new : List ℕ) (p : new ≡ column_of (followed_by M v) f (size M)) where
  whole : KeepsLimits (followed_by M v)
  whole = rep_followed M v r room c

  last_one : size M < size (followed_by M v)
  last_one = let k : size (followed_by M v) ≡ suc (size M) = size_followed M v in omega arith

  pub new_rows : length new ≡ M.rank
  new_rows = column-length (followed_by M v) f (size M) new p

  pub new_column : IsColumn q (length new) new
  new_column = subst (λ (n : ℕ). IsColumn q n new) (sym new_rows) (column_is (followed_by M v) whole f (size M) l last_one q d new p)

  module _ (j : ℕ) (m : j < size M) (old : List ℕ) (o : old ≡ column_of M f j) where
    pub old_column : IsColumn q (length new) old
    old_column = subst (λ (n : ℕ). IsColumn q n old) (sym new_rows) (column_is M r f j l m q d old o)

    module _ (lead : ℕ) (b : lead < M.rank) (one : slice_index v (lead * count M + f) ≡ 1) where
      -- the old column is a multiple of the new one
      abbrev pub IsMultiple : Type 0
      IsMultiple = (i : ℕ) → i < length new → slice_index old i ≡ times q (slice_index old lead) (slice_index new i)

      F : IsField (order M f)
      F = field_laws (order M f) (let s = r.shaped in s.orders f l)

      old_at : (i : ℕ) → i < M.rank → slice_index old i ≡ matrix (followed_by M v) f i j
      old_at i a = column-entry M f j i old o a ∙ sym (matrix_before M v f i j m)

      new_at : (i : ℕ) → i < M.rank → slice_index new i ≡ matrix (followed_by M v) f i (size M)
      new_at i a = column-entry (followed_by M v) f (size M) i new p a

      code : (i : ℕ) → i < M.rank → matrix (followed_by M v) f i j < order M f
      code i a = (let s = whole in let t = s.shaped in t.codes f i j l a (let k : size (followed_by M v) ≡ suc (size M) = size_followed M v in omega arith))

      pub multiple_parallel : IsMultiple → ¬ (IsIndependentIn (followed_by M v) f (pair (size M) j))
      multiple_parallel h x =
          multiple_dependent (order M f) F M.rank (size M) (matrix (followed_by M v) f) j m (matrix (followed_by M v) f lead j) (code lead b)
          (λ i a. sym (old_at i a) ∙ h i (subst (λ (n : ℕ). i < n) (sym new_rows) a) ∙ (λ t. times (d t) (old_at lead b t) (new_at i a t)))
          (subst (λ n. IsIndependent (order M f) M.rank n (matrix (followed_by M v) f) (pair (size M) j)) (size_followed M v) x)

      pub apart_parallel : ¬ IsMultiple → IsIndependentIn (followed_by M v) f (pair (size M) j)
      apart_parallel h = subst (λ n. IsIndependent (order M f) M.rank n (matrix (followed_by M v) f) (pair (size M) j)) (sym (size_followed M v))
          (apart_independent (order M f) F M.rank (size M) (matrix (followed_by M v) f) j m lead b (matrix_last M v f lead ∙ one) code
          (λ g. h (λ i a. let a' : i < M.rank = subst (λ (n : ℕ). i < n) new_rows a in
          old_at i a' ∙ g i a' ∙ (λ t. times (sym d t) (sym (old_at lead b) t) (sym (new_at i a') t)))))
