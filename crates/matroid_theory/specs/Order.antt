-- The order of representations, and forms.
use Rattle.std.specs.Prelude.{◌≢◌}
use Rattle.std.specs.Cmp.Lexicographic.{slice_cmp}
use Rattle.std.specs.Ordering.{nat_cmp}
use Rattle.std.specs.declared.cmp.Ordering.{Ordering}
use Rattle.std.specs.declared.cmp.Ordering.TheVariants.{Greater}
use Rattle.matroid_theory.specs.Rep.{Rep, IsStandard}
use Rattle.matroid_theory.specs.Matroid.{IsRepresentation}
use Rattle.matroid_theory.specs.declared.Mode.{Mode}
use Rattle.matroid_theory.specs.Move.{AreEquivalent}

-- column by column, in a column from the top row, in a row factor by factor, and by code
abbrev pub rep_cmp : Rep → Rep → Ordering
rep_cmp M N = slice_cmp (slice_cmp nat_cmp) M.columns N.columns

-- a standard representation that is not above any standard representation equivalent to it
pub record IsForm (mode : Mode) (M : Rep) : Type 0 where
  pub representation : IsRepresentation M
  pub standard : IsStandard M
  pub least : (N : Rep) → IsStandard N → AreEquivalent mode M N → rep_cmp M N ≢ Greater
