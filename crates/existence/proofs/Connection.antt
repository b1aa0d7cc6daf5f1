-- Whether a representation is connected, 3-connected or cosimple.
use Rattle.std.proofs.Common.{◌≡◌, ℕ, ◌+◌, ◌<◌, ◌≤◌, sym, ◌∙◌, ap, subst, arith, Bool, not, ◌||◌}
use Rattle.std.specs.Bool.{◌==◌}
use Rattle.matroid_theory.specs.Matrix.{Matrix, size_below, IsIndependentPart, IsRankOf}
use Rattle.matroid_theory.specs.Rep.{Rep, size, order, matrix}
use Rattle.matroid_theory.specs.Matroid.{IsRepresentation}
use Rattle.matroid_theory.specs.Connection.{IsRank, IsSeparation, IsConnected, Is3Connected, IsCosimple}
use Rattle.matrix_lemmas.proofs.FieldLaws.{field_laws}
use Rattle.matrix_lemmas.proofs.Masks.{size-same}
use Rattle.matrix_lemmas.proofs.Bases.{rank_exists, rank_unique}
use Rattle.existence.specs.Decided.{IsDecided}
use Rattle.existence.proofs.Deciding.{along, both, negated, less, at_most, equal, each_two, each_set}

-- the rank of the columns in sets with the same numbers
pub rank_near : (q r n : ℕ) (A : Matrix) (S T : ℕ → Bool) (k : ℕ) → ((j : ℕ) → j < n → S j ≡ T j) → IsRankOf q r n A S k → IsRankOf q r n A T k
rank_near q r n A S T k h w = record {
  reached = (let p = w.reached in (p.0, part S T h k p.0 p.1));
  greatest = λ m I p. w.greatest m I (part T S (λ j l. sym (h j l)) m I p);
}
  where
    part : (S T : ℕ → Bool) → ((j : ℕ) → j < n → S j ≡ T j) → (m : ℕ) (I : ℕ → Bool) → IsIndependentPart q r n A S m I → IsIndependentPart q r n A T m I
    part S T h m I p = record { within = λ j l t. sym (h j l) ∙ p.within j l t; elements = p.elements; independent = p.independent }

-- sets with the same numbers are separations together
separation_near : (M : Rep) (k : ℕ) (S T : ℕ → Bool) → ((j : ℕ) → j < size M → S j ≡ T j) → IsSeparation M k S → IsSeparation M k T
separation_near M k S T h w = record {
  large = subst (λ (n : ℕ). k ≤ n) (size-same (size M) S T h) w.large;
  other_large = subst (λ (n : ℕ). k ≤ n) (size-same (size M) (λ j. not (S j)) (λ j. not (T j)) (λ j l. ap not (h j l))) w.other_large;
  rank = w.rank;
  other_rank = w.other_rank;
  is_rank = rank_near (order M 0) M.rank (size M) (matrix M 0) S T w.rank h w.is_rank;
  is_other_rank = rank_near (order M 0) M.rank (size M) (matrix M 0) (λ j. not (S j)) (λ j. not (T j)) w.other_rank (λ j l. ap not (h j l)) w.is_other_rank;
  small = w.small;
}

module _ (M : Rep) (r : IsRepresentation M) where
  rank_of : (S : ℕ → Bool) → (k : ℕ) × IsRank M S k
  rank_of S = rank_exists (order M 0) (field_laws (order M 0) (r.shaped.orders 0 r.some)) M.rank (size M) (matrix M 0) (λ i j. r.shaped.codes 0 i j r.some) S

  -- a set has one rank
  one_rank : (S : ℕ → Bool) (k l : ℕ) → IsRank M S k → IsRank M S l → k ≡ l
  one_rank S = rank_unique (order M 0) M.rank (size M) (matrix M 0) S

  rank_decided : (S : ℕ → Bool) (k : ℕ) → IsDecided (IsRank M S k)
  rank_decided S k = (let w = rank_of S in along (equal w.0 k) (λ e. subst (IsRank M S) e w.1) (λ h. one_rank S w.0 k w.1 h))

  separation_decided : (k : ℕ) (X : ℕ → Bool) → IsDecided (IsSeparation M k X)
  separation_decided k X =
      let a = rank_of X in
      let b = rank_of (λ j. not (X j)) in
      along
      (both (at_most k (size_below (size M) X)) (λ _. both (at_most k (size_below (size M) (λ j. not (X j)))) (λ _. less (a.0 + b.0) (M.rank + k))))
      (λ w. record { large = w.0; other_large = w.1.0; rank = a.0; other_rank = b.0; is_rank = a.1; is_other_rank = b.1; small = w.1.1 })
      (λ w. (
        w.large,
        (
          w.other_large,
          (let e : a.0 ≡ w.rank = one_rank X a.0 w.rank a.1 w.is_rank in let d : b.0 ≡ w.other_rank = one_rank
              (λ j. not (X j)) b.0 w.other_rank b.1 w.is_other_rank in let s = w.small in omega arith),
        ),
      ))

  pub connected_decided : IsDecided (IsConnected M)
  connected_decided =
      each_set (size M) (λ X. ¬ (IsSeparation M 1 X)) (λ S T h n w. n (separation_near M 1 T S (λ j l. sym (h j l)) w))
      (λ X. negated (separation_decided 1 X))

  pub three_connected_decided : IsDecided (Is3Connected M)
  three_connected_decided =
      each_set (size M) (λ X. ¬ (IsSeparation M 1 X) × ¬ (IsSeparation M 2 X))
      (λ S T h n. ((λ w. n.0 (separation_near M 1 T S (λ j l. sym (h j l)) w)), (λ w. n.1 (separation_near M 2 T S (λ j l. sym (h j l)) w))))
      (λ X. both (negated (separation_decided 1 X)) (λ _. negated (separation_decided 2 X)))

  pub cosimple_decided : IsDecided (IsCosimple M)
  cosimple_decided = each_two (size M) (size M) (λ i j. IsRank M (λ k. not ((k == i) || (k == j))) M.rank) (λ i j _ _. rank_decided _ M.rank)
