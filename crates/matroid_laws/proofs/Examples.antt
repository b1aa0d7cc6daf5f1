-- Worked examples, computed by the checker.
use Rattle.std.proofs.Common.{◌≡◌, ℕ, refl, [], ◌∷◌, lit<}
use Rattle.std.specs.declared.cmp.Ordering.TheVariants.{Less}
use Rattle.std.specs.Bool.{if◌then◌else◌, ◌==◌}
use Rattle.matroid_theory.specs.Field.{plus, times, poly, characteristic, degree, remainder, frobenius}
use Rattle.matroid_theory.specs.Matrix.{combination}
use Rattle.matroid_theory.specs.Rep.{Rep, matrix}
use Rattle.matroid_theory.specs.Matroid.{members, IsBasis, Agrees, IsIndependentIn}
use Rattle.matroid_theory.specs.Order.{rep_cmp}
use Rattle.matroid_laws.proofs.Tries.{independent_by_test, dependent_by_test}

-- entries of the tables of GF(4), GF(8), GF(9), GF(11) and GF(13)
products : (times 4 2 3 ≡ 1) × (times 8 5 7 ≡ 6) × (times 8 6 6 ≡ 2) × (times 9 4 5 ≡ 1) × (times 9 8 8 ≡ 6) × (times 11 4 3 ≡ 1) × (times 13 5 8 ≡ 1)
unfolding times poly characteristic degree remainder
products = (refl, refl, refl, refl, refl, refl, refl)

sums : (plus 9 5 7 ≡ 0) × (plus 8 5 6 ≡ 3)
unfolding plus poly characteristic degree
sums = (refl, refl)

automorphism : frobenius 4 2 ≡ 3
unfolding frobenius times poly characteristic degree remainder
automorphism = refl

-- 10 01 11 over GF(2) and 10 01 10 over GF(3)
pub two_factors : Rep
two_factors = record { factors = 2 ∷ 3 ∷ []; rank = 2; columns = (1 ∷ 1 ∷ 0 ∷ 0 ∷ []) ∷ (0 ∷ 0 ∷ 1 ∷ 1 ∷ []) ∷ (1 ∷ 1 ∷ 1 ∷ 0 ∷ []) ∷ [] }

-- the columns 0 and 2 are independent in the first factor
first : IsBasis two_factors 0 (members 5)
unfolding two_factors plus times poly characteristic degree remainder
first = record { full = refl; independent = independent_by_test 2 2 3 (matrix two_factors 0) (members 5) refl }

-- and not in the second, where they are the same
second : ¬ (IsBasis two_factors 1 (members 5))
unfolding two_factors plus times poly characteristic degree remainder
second h = dependent_by_test 3 2 3 (matrix two_factors 1) (members 5) (1 ∷ 0 ∷ 2 ∷ []) 0 refl h.independent

pub not_agreeing : ¬ (Agrees two_factors)
unfolding two_factors
not_agreeing h = second (h.same 0 1 (lit< tt) (lit< tt) (members 5) first)

-- the smaller of two matrices of a form
pub smaller : rep_cmp
    (record { factors = 2 ∷ 3 ∷ []; rank = 2; columns = (1 ∷ 1 ∷ 1 ∷ 1 ∷ []) ∷ [] })
    (record { factors = 2 ∷ 3 ∷ []; rank = 2; columns = (1 ∷ 1 ∷ 1 ∷ 2 ∷ []) ∷ [] }) ≡ Less
smaller = refl

-- the columns 100 010 110 over GF(2) are dependent, and any two of them are independent
three : Rep
three = record { factors = 2 ∷ []; rank = 3; columns = (1 ∷ 0 ∷ 0 ∷ []) ∷ (0 ∷ 1 ∷ 0 ∷ []) ∷ (1 ∷ 1 ∷ 0 ∷ []) ∷ [] }

three_dependent : ¬ (IsIndependentIn three 0 (members 7))
unfolding three plus times poly characteristic degree remainder
three_dependent = dependent_by_test 2 3 3 (matrix three 0) (members 7) (1 ∷ 1 ∷ 1 ∷ []) 0 refl

two_independent : IsIndependentIn three 0 (members 5)
unfolding three plus times poly characteristic degree remainder
two_independent = independent_by_test 2 3 3 (matrix three 0) (members 5) refl

-- over GF(4) the column 23 is 2 times 10 plus 3 times 01
solved : combination 4 2 (λ i j. (matrix (record { factors = 4 ∷ []; rank = 2; columns = (1 ∷ 0 ∷ []) ∷ (0 ∷ 1 ∷ []) ∷ [] }) 0) i j)
    (λ j. if j == 0 then 2 else 3) 0 ≡ 2
unfolding plus times poly characteristic degree remainder
solved = refl

-- F7 over GF(2): 3 columns of a line are dependent, 3 others are a basis; over GF(3) the same line is a basis
fano : ℕ → Rep
fano q = record {
  factors = q ∷ [];
  rank = 3;
  columns =
      (1 ∷ 0 ∷ 0 ∷ []) ∷ (0 ∷ 1 ∷ 0 ∷ []) ∷ (0 ∷ 0 ∷ 1 ∷ []) ∷ (0 ∷ 1 ∷ 1 ∷ []) ∷ (1 ∷ 0 ∷ 1 ∷ []) ∷ (1 ∷ 1 ∷ 0 ∷ []) ∷ (1 ∷ 1 ∷ 1 ∷ []) ∷ [];
}

line_over_2 : ¬ (IsBasis (fano 2) 0 (members 56))
unfolding fano plus times poly characteristic degree remainder
line_over_2 h = dependent_by_test 2 3 7 (matrix (fano 2) 0) (members 56) (0 ∷ 0 ∷ 0 ∷ 1 ∷ 1 ∷ 1 ∷ 0 ∷ []) 3 refl h.independent

line_over_3 : IsBasis (fano 3) 0 (members 56)
unfolding fano plus times poly characteristic degree remainder
line_over_3 = record { full = refl; independent = independent_by_test 3 3 7 (matrix (fano 3) 0) (members 56) refl }
