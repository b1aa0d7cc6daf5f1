-- Powers of the Frobenius automorphism, factor by factor: a representation with one factor raised, and equivalence by moves that don't raise the first factors.
use Rattle.std.specs.Prelude.{ℕ, ◌<◌, ◌≡◌, ◌≢◌}
use Rattle.std.specs.declared.cmp.Ordering.TheVariants.{Greater}
use Rattle.matroid_theory.specs.declared.Mode.TheVariants.{Semilinear}
use Rattle.matroid_theory.specs.Field.{raised}
use Rattle.matroid_theory.specs.Rep.{Rep, shape, count, size, order, matrix, IsShaped, IsStandard}
use Rattle.matroid_theory.specs.Move.{Move, IsMove, TakesTo}
use Rattle.matroid_theory.specs.Order.{rep_cmp}

-- N is M with each code of factor f raised t times to the power of the characteristic
pub record IsRaised (M : Rep) (f t : ℕ) (N : Rep) : Type 0 where
  pub same_shape : shape N ≡ shape M
  pub shaped : IsShaped N
  pub here : (i j : ℕ) → i < M.rank → j < size M → matrix N f i j ≡ raised (order M f) t (matrix M f i j)
  pub elsewhere : (g i j : ℕ) → g < count M → g ≢ f → i < M.rank → j < size M → matrix N g i j ≡ matrix M g i j

-- some move whose powers in the factors before f are 0 takes M to N
pub record AreEquivalentFrom (f : ℕ) (M N : Rep) : Type 0 where
  pub shaped : IsShaped M
  pub move : Move
  pub valid : IsMove Semilinear (shape M) move
  pub zeros : (g : ℕ) → g < count M → g < f → move.power g ≡ 0
  pub takes : TakesTo M move N

-- N is the least of the standard representations that such moves take M to
pub record IsLeastFrom (f : ℕ) (M N : Rep) : Type 0 where
  pub standard : IsStandard N
  pub equivalent : AreEquivalentFrom f M N
  pub least : (L : Rep) → IsStandard L → AreEquivalentFrom f M L → rep_cmp N L ≢ Greater
