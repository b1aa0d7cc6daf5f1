-- What a search looks for: a matroid by its bases, with the first elements one of them.
use Rattle.std.specs.Prelude.{ℕ, ◌-◌, ◌*◌, ◌<◌, ◌≤◌}
use Rattle.matroid_theory.specs.Field.{IsOrder}
use Rattle.matroid_theory.specs.Minor.{Matroid}
use Rattle.dual_theory.specs.Represented.{IsBasedFirst}
use Rattle.represent.specs.declared.target.Target.{Target}

-- the matroid whose bases are sought
abbrev pub matroid_of : Target → Matroid
matroid_of target = record { rank = target.rank; size = target.size; bases = target.bases }

-- the number of entries after the unit columns
abbrev pub cells : Matroid → ℕ
cells N = (N.size - N.rank) * N.rank

-- the field, the limits, and the first elements as a base
pub record IsSought (q : ℕ) (N : Matroid) : Type 0 where
  pub field : IsOrder q
  pub rank_positive : 0 < N.rank
  pub rank_most : N.rank ≤ 6
  pub size_most : N.size ≤ 16
  pub room : N.rank ≤ N.size
  pub based : IsBasedFirst N
