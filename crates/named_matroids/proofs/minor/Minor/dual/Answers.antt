use Rattle.std.proofs.Common.{◌≡◌, ◌≤◌, ◌+◌, ◌-◌, ◌^◌, ◌<◌, ◌↔◌, ℕ, List, Bool, IsTrue, ap, sym, subst, arith, rules}
use Rattle.std.specs.List.{Contains}
use Rattle.matroid_theory.specs.Matrix.{size_below}
use Rattle.matroid_theory.specs.Matroid.{members}
use Rattle.matroid_theory.specs.Minor.{Matroid}
use Rattle.column_sets.specs.Sets.{AreMasks, AreTaken, IsSetOfSize}
use Rattle.column_sets.proofs.SetLemmas.{masks_of_taken, masks_same}
use Rattle.named_matroids.specs.SmallMatroids.{IsSmallMatroid, IsDual}
use Rattle.named_matroids.proofs.GivenBases.{rank_within, complement_ones, dual_small}
use Rattle.named_matroids.proofs.minor.Minor.dual.Goals as goal

-- the matroid of the complements is the dual
module _ (N : Matroid) (small : IsSmallMatroid N) (n k : ℕ) (e : n ≡ N.size) (d : k ≡ N.rank) (answers : ℕ → Bool → Type 0) (masks : List ℕ) where
  is_complement : ℕ → Type 0
  is_complement X = Contains N.bases (2 ^ N.size - 1 - X)

  elements : (X : ℕ) → X < 2 ^ n → Contains N.bases (2 ^ N.size - 1 - X) → size_below n (members X) ≡ n - k
  elements X l c =
      let h : size_below N.size (members X) + N.rank ≡ N.size = complement_ones N small X (subst (λ (n : ℕ). X < 2 ^ n) e l) c in
      let s : size_below n (members X) ≡ size_below N.size (members X) = ap (λ n. size_below n (members X)) e in
      omega arith

  is_dual : ((X : ℕ) → IsSetOfSize n (n - k) X → (b : Bool) → answers X b → IsTrue b ↔ Contains N.bases (2 ^ N.size - 1 - X)) → AreTaken n (n - k) answers masks
      → IsDual N (record { rank = n - k; size = n; bases = masks })
  is_dual says taken = record {
    sizes = e;
    ranks = (let m : N.rank ≤ N.size = rank_within N small in omega arith);
    bases =
        subst (λ (n : ℕ). AreMasks n (λ X. Contains N.bases (2 ^ N.size - 1 - X)) masks) e
        (masks_same n (λ X. (size_below n (members X) ≡ n - k) × Contains N.bases (2 ^ N.size - 1 - X)) (λ X. Contains N.bases (2 ^ N.size - 1 - X)) masks
        (λ X l. ((λ w. w.1), (λ c. (elements X l c, c))))
        (masks_of_taken n (n - k) answers (λ X. Contains N.bases (2 ^ N.size - 1 - X)) masks says taken));
  }

pub overflow_sub-rank : goal.overflow_sub-rank
overflow_sub-rank c = let m : c.args.self.now.rank ≤ c.args.self.now.size = rank_within c.args.self.now c.laws.ensures in omega arith

pub of-requires : goal.of-requires
of-requires c =
    dual_small c.args.self.now c.laws.ensures
    (record { rank = c.size-size.result - c.rank.result; size = c.size-size.result; bases = c.few_sets_of_size-bases.result.items })
    (is_dual c.args.self.now c.laws.ensures c.size-size.result c.rank.result c.size-size.ensures.value c.rank.ensures
    _ c.few_sets_of_size-bases.result.items (λ X s b a. search rules) c.few_sets_of_size-bases.ensures)

pub returns : goal.returns
returns c =
    subst (IsDual c.args.self.now) (sym c.of.ensures)
    (is_dual c.args.self.now c.laws.ensures c.size-size.result c.rank.result c.size-size.ensures.value c.rank.ensures
    _ c.few_sets_of_size-bases.result.items (λ X s b a. search rules) c.few_sets_of_size-bases.ensures)
