-- Which values are refused, and how.
use Rattle.std.specs.Prelude.{◌≡◌, ℕ, ◌<◌, List}
use Rattle.formats.specs.declared.refusal.Refusal.{Refusal}
use Rattle.formats.specs.declared.refusal.Refusal.TheVariants as refusal
use Rattle.formats.specs.Request.{column_count, most_columns, IsRankInRange, IsSizeInRange}

-- The first of the limits that these values break.
abbrev pub IsLate : ℕ → List ℕ → ℕ → Refusal → Type 0
IsLate rank factors size (refusal.Rank v) = (v ≡ rank) × (IsRankInRange rank → ⊥)
IsLate rank factors size (refusal.Size v) = (v ≡ size) × IsRankInRange rank × (IsSizeInRange rank size → ⊥)
IsLate rank factors size (refusal.TooWide c) = (c ≡ column_count rank factors) × IsRankInRange rank × IsSizeInRange rank size × (most_columns < c)
IsLate rank factors size _ = ⊥
