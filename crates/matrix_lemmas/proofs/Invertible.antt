-- A matrix times an invertible one has the same independent sets of columns, and the same ranks.
use Rattle.std.proofs.Common.{◌≡◌, ℕ, ◌<◌, sym, ◌∙◌, Bool}
use Rattle.matroid_theory.specs.Field.{times, IsField}
use Rattle.matroid_theory.specs.Matrix.{Matrix, combination, matrix_product, AreInverse, IsIndependent, IsIndependentPart, IsRankOf}
use Rattle.matrix_lemmas.proofs.Sums.{sum_same, sum_zero, sum_below-code, times_zero, combination-product, combination-same, inverse-undoes}
use Rattle.matrix_lemmas.proofs.Frobenius.{turned}

module _ (q : ℕ) (F : IsField q) where
  -- the combination with coefficients that are all zero
  pub combination_zero : (n : ℕ) (A : Matrix) (a : ℕ → ℕ) (i : ℕ) → ((j : ℕ) → j < n → a j ≡ 0) → combination q n A a i ≡ 0
  combination_zero n A a i h =
      combination-same q F n A a (λ _. 0) i h ∙ sum_same q F n (λ j. times q (A i j) 0) (λ _. 0) (λ j _. times_zero q F (A i j)) ∙ sum_zero q F n

  module _ (r n : ℕ) (G A : Matrix) where
    -- columns that are independent in G A are so in A, whatever G is
    pub independent_factor : (S : ℕ → Bool) → IsIndependent q r n (matrix_product q r G A) S → IsIndependent q r n A S
    independent_factor S h =
        record {
          only_zero = λ a c z. h.only_zero a c
              (λ i _. combination-product q F n r G A a i ∙ combination_zero r G (combination q n A a) i z);
        }

    -- columns that are independent in A are so in G A, for an invertible G
    pub independent_product : (H : Matrix) → AreInverse q r G H → (S : ℕ → Bool) → IsIndependent q r n A S → IsIndependent q r n (matrix_product q r G A) S
    independent_product H v S h = record {
      only_zero = λ a c z. h.only_zero a c (λ i l.
          sym (inverse-undoes q F r H G (turned q F r G H v) (combination q n A a) i l (sum_below-code q F n _))
          ∙ combination_zero r H (combination q r G (combination q n A a)) i (λ k m. sym (combination-product q F n r G A a k) ∙ z k m));
    }

    part_product : (H : Matrix) → AreInverse q r G H → (S : ℕ → Bool) (k : ℕ) (I : ℕ → Bool) → IsIndependentPart q r n A S k I →
        IsIndependentPart q r n (matrix_product q r G A) S k I
    part_product H v S k I p = record { within = p.within; elements = p.elements; independent = independent_product H v I p.independent }

    part_factor : (S : ℕ → Bool) (k : ℕ) (I : ℕ → Bool) → IsIndependentPart q r n (matrix_product q r G A) S k I → IsIndependentPart q r n A S k I
    part_factor S k I p = record { within = p.within; elements = p.elements; independent = independent_factor I p.independent }

    -- the ranks in A are those in G A, for an invertible G
    pub rank_product : (H : Matrix) → AreInverse q r G H → (S : ℕ → Bool) (k : ℕ) → IsRankOf q r n A S k → IsRankOf q r n (matrix_product q r G A) S k
    rank_product H v S k h = record {
      reached = (let (I, p) = h.reached in (I, part_product H v S k I p));
      greatest = λ m I p. h.greatest m I (part_factor S m I p);
    }

    pub rank_factor : (H : Matrix) → AreInverse q r G H → (S : ℕ → Bool) (k : ℕ) → IsRankOf q r n (matrix_product q r G A) S k → IsRankOf q r n A S k
    rank_factor H v S k h = record {
      reached = (let (I, p) = h.reached in (I, part_factor S k I p));
      greatest = λ m I p. h.greatest m I (part_product H v S m I p);
    }
