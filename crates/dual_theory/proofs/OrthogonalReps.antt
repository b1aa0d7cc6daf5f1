-- Orthogonal representations.
use Rattle.std.proofs.Common.{◌≡◌, ℕ, ◌+◌, ◌<◌, sym, ◌∙◌, ap, subst, arith, Bool, ◌↔◌, List, length, slice_index}
use Rattle.matroid_theory.specs.Field.{times}
use Rattle.matroid_theory.specs.Matrix.{sum_below, size_below, IsIndependent}
use Rattle.matroid_theory.specs.Rep.{Rep, count, size, order, matrix, IsShaped}
use Rattle.matroid_theory.specs.Matroid.{IsIndependentIn, IsBasis, Agrees}
use Rattle.matrix_lemmas.proofs.FieldLaws.{field_laws}
use Rattle.matrix_lemmas.proofs.Masks.{IsBasis-same}
use Rattle.matroid_laws.proofs.Built.{size_both}
use Rattle.dual_theory.specs.Dual.{complement, IsDualBasis, IsDualRep, AreOrthogonal, HasBases}
use Rattle.dual_theory.proofs.Orthogonal.{complement_twice, row_products, complement_independent}

-- independence in N, over its factors and size as they are named elsewhere
pub independent_named : (N : Rep) (f : ℕ) (S : ℕ → Bool) (factors : List ℕ) (n : ℕ) → N.factors ≡ factors → size N ≡ n →
    IsIndependentIn N f S → IsIndependent (slice_index factors f) N.rank n (matrix N f) S
independent_named N f S factors n e d h =
    subst (λ n. IsIndependent (slice_index factors f) N.rank n (matrix N f) S) d
    (subst (λ fs. IsIndependent (slice_index fs f) N.rank (size N) (matrix N f) S) e h)

pub independent_back : (N : Rep) (f : ℕ) (S : ℕ → Bool) (factors : List ℕ) (n : ℕ) → N.factors ≡ factors → size N ≡ n →
    IsIndependent (slice_index factors f) N.rank n (matrix N f) S → IsIndependentIn N f S
independent_back N f S factors n e d h =
    subst (λ fs. IsIndependent (slice_index fs f) N.rank (size N) (matrix N f) S) (sym e)
    (subst (λ n. IsIndependent (slice_index factors f) N.rank n (matrix N f) S) (sym d) h)

pub orthogonal_symmetric : (M N : Rep) → IsShaped M → AreOrthogonal M N → AreOrthogonal N M
orthogonal_symmetric M N s o = record {
  same_factors = sym o.same_factors;
  same_size = sym o.same_size;
  ranks = (let h : M.rank + N.rank ≡ size M = o.ranks in let e : size N ≡ size M = o.same_size in omega arith);
  products = λ f i k l m n.
      let l' = subst (λ fs. f < length fs) o.same_factors l in
      ap (λ fs. sum_below (slice_index fs f) (size N) (λ j. times (slice_index fs f) (matrix N f i j) (matrix M f k j))) o.same_factors
      ∙ ap (λ n. sum_below (order M f) n (λ j. times (order M f) (matrix N f i j) (matrix M f k j))) o.same_size
      ∙ row_products (order M f) (field_laws (order M f) (s.orders f l')) (size M) (matrix N f) (matrix M f) i k
      ∙ o.products f k i l' n m;
}

module _ (M N : Rep) (s : IsShaped M) (t : IsShaped N) (o : AreOrthogonal M N) (f : ℕ) (l : f < count M) where
  pub there : f < count N
  there = subst (λ fs. f < length fs) (sym o.same_factors) l

  pub codes_named : (i j : ℕ) → i < N.rank → j < size M → matrix N f i j < order M f
  codes_named i j m n = subst (λ fs. matrix N f i j < slice_index fs f) o.same_factors (t.codes f i j there m (subst (λ n. j < n) (sym o.same_size) n))

  -- the complement of a basis of M is a basis of N, which has some basis
  pub complement_basis : (S T : ℕ → Bool) → IsBasis M f S → IsBasis N f T → IsBasis N f (complement S)
  complement_basis S T b c = record {
    full =
        (let h : size_below (size M) S + size_below (size M) (complement S) ≡ size M = size_both (size M) S in
        let e : M.rank + N.rank ≡ size M = o.ranks in
        let g : size_below (size M) S ≡ M.rank = b.full in
        let k : size_below (size N) (complement S) ≡ size_below (size M) (complement S) = ap (λ n. size_below n (complement S)) o.same_size in
        omega arith);
    independent = independent_back N f (complement S) M.factors (size M) o.same_factors o.same_size
        (complement_independent (order M f) (field_laws (order M f) (s.orders f l)) M.rank N.rank (size M) (matrix M f) (matrix N f)
        (λ i j m n. s.codes f i j l m n) o.ranks (λ i k m n. o.products f i k l m n)
        S T b.full b.independent (sym (ap (λ n. size_below n T) o.same_size) ∙ c.full)
        (independent_named N f T M.factors (size M) o.same_factors o.same_size c.independent));
  }

-- the bases of N are those of the dual of M, where each has some basis
pub bases_dual : (M N : Rep) → IsShaped M → IsShaped N → AreOrthogonal M N → (f : ℕ) → f < count M → (S T : ℕ → Bool) →
    IsBasis M f S → IsBasis N f T → (X : ℕ → Bool) → IsBasis N f X ↔ IsDualBasis (IsBasis M f) X
bases_dual M N s t o f l S T b c X = (
  λ x. complement_basis N M t s (orthogonal_symmetric M N s o) f (there M N s t o f l) X S x b,
  λ y. IsBasis-same N f (complement (complement X)) X (λ j _. complement_twice X j) (complement_basis M N s t o f l (complement X) T y c),
)

pub orthogonal_dual : (M N : Rep) → IsShaped M → IsShaped N → AreOrthogonal M N → HasBases M → HasBases N → IsDualRep M N
orthogonal_dual M N s t o h g = record {
  same_factors = o.same_factors;
  same_size = o.same_size;
  bases = λ f l. let (S, b) = h f l in let (T, c) = g f (there M N s t o f l) in bases_dual M N s t o f l S T b c;
}

-- so the factors of N agree where those of M do
pub orthogonal_agrees : (M N : Rep) → IsShaped M → IsShaped N → AreOrthogonal M N → Agrees M → HasBases N → Agrees N
orthogonal_agrees M N s t o a g = record {
  some = g;
  same = λ f h l m S b.
      let d = orthogonal_dual M N s t o a.some g in
      let l' = subst (λ fs. f < length fs) o.same_factors l in
      let m' = subst (λ fs. h < length fs) o.same_factors m in
      let x = d.bases f l' S in
      let y = d.bases h m' S in
      y.1 (a.same f h l' m' (complement S) (x.0 b));
}
