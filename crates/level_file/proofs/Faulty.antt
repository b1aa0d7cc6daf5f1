-- From what was read of a text to its fault.
use Rattle.std.proofs.Common.{◌≡◌, ℕ, ◌≤◌, List, length, arith}
use Rattle.formats.specs.Request.{Request}
use Rattle.level_driver.specs.declared.level.Level.{Level}
use Rattle.resume_formats.specs.declared.fault.LevelFault.TheVariants.{NoLevel}
use Rattle.resume_formats.specs.Cut.{most_listing}
use Rattle.resume_formats.specs.Fault.{HasFault}
use Rattle.level_file.specs.Started.{AreWholeLevels}

-- no size is whole
pub none_whole : (text : List ℕ) (q : Request) (levels : List Level) → length text ≤ most_listing → AreWholeLevels q text levels → length levels ≡ 0
    → HasFault text NoLevel
none_whole text q levels short are none = (
  short,
  record {
    request = q;
    cut = are.cut;
    none = λ n w. let both = (are.whole n).0 w in absurd (omega (arith, both.0, both.1, none));
  },
)
