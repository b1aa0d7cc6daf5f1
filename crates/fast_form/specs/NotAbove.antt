-- What isn't above any standard representation that a representation is taken to.
use Rattle.std.specs.Prelude.{ℕ, ◌≢◌}
use Rattle.std.specs.declared.cmp.Ordering.TheVariants.{Greater}
use Rattle.matroid_theory.specs.declared.Mode.TheVariants.{Linear}
use Rattle.matroid_theory.specs.Rep.{Rep, IsStandard}
use Rattle.matroid_theory.specs.Move.{AreEquivalent}
use Rattle.matroid_theory.specs.Order.{rep_cmp}
use Rattle.matroid_theory.specs.Powers.{AreEquivalentFrom}

-- M is above none that linear moves take R to
abbrev pub IsNotAboveClass : Rep → Rep → Type 0
IsNotAboveClass M R = (L : Rep) → IsStandard L → AreEquivalent Linear R L → rep_cmp M L ≢ Greater

-- M is above none that moves take R to whose powers in the factors before f are 0
abbrev pub IsNotAboveFrom : ℕ → Rep → Rep → Type 0
IsNotAboveFrom f M R = (L : Rep) → IsStandard L → AreEquivalentFrom f R L → rep_cmp M L ≢ Greater
