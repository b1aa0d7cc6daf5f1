-- The matroids that the minors of a line stand for.
use Rattle.std.specs.Prelude.{ℕ, List, [], ◌∷◌}
use Rattle.matroid_theory.specs.Given.{Given, AllSets, ColumnsOver, DualOfColumns}
use Rattle.formats.specs.Statement.{MinorName, Uniform, Fano, FanoDual, NonFano, KFour, KFive, ByMatrix}

-- the columns of the cycle matroid of the complete graph on four vertices over GF(2)
abbrev pub k4_columns : List (List ℕ)
k4_columns = (1 ∷ 0 ∷ 0 ∷ []) ∷ (0 ∷ 1 ∷ 0 ∷ []) ∷ (0 ∷ 0 ∷ 1 ∷ []) ∷ (0 ∷ 1 ∷ 1 ∷ []) ∷ (1 ∷ 0 ∷ 1 ∷ []) ∷ (1 ∷ 1 ∷ 0 ∷ []) ∷ []

-- the columns of the Fano matroid: all seven over GF(2)
abbrev pub fano_columns : List (List ℕ)
fano_columns = (1 ∷ 0 ∷ 0 ∷ []) ∷ (0 ∷ 1 ∷ 0 ∷ []) ∷ (0 ∷ 0 ∷ 1 ∷ []) ∷ (0 ∷ 1 ∷ 1 ∷ []) ∷ (1 ∷ 0 ∷ 1 ∷ []) ∷ (1 ∷ 1 ∷ 0 ∷ []) ∷ (1 ∷ 1 ∷ 1 ∷ []) ∷ []

-- the columns of the cycle matroid of the complete graph on five vertices over GF(2)
abbrev pub k5_columns : List (List ℕ)
k5_columns =
    (1 ∷ 0 ∷ 0 ∷ 0 ∷ []) ∷ (0 ∷ 1 ∷ 0 ∷ 0 ∷ []) ∷ (0 ∷ 0 ∷ 1 ∷ 0 ∷ []) ∷ (0 ∷ 0 ∷ 0 ∷ 1 ∷ [])
    ∷ (1 ∷ 1 ∷ 0 ∷ 0 ∷ []) ∷ (1 ∷ 0 ∷ 1 ∷ 0 ∷ []) ∷ (1 ∷ 0 ∷ 0 ∷ 1 ∷ []) ∷ (0 ∷ 1 ∷ 1 ∷ 0 ∷ []) ∷ (0 ∷ 1 ∷ 0 ∷ 1 ∷ []) ∷ (0 ∷ 0 ∷ 1 ∷ 1 ∷ []) ∷ []

-- how the matroid of a name or a matrix is given (Oxley, appendix, for the names)
abbrev pub given_as : MinorName → Given
given_as (Uniform rank size) = AllSets rank size
given_as Fano = ColumnsOver 2 fano_columns
given_as FanoDual = DualOfColumns 2 fano_columns
given_as NonFano = ColumnsOver 3 fano_columns
given_as KFour = ColumnsOver 2 k4_columns
given_as KFive = ColumnsOver 2 k5_columns
given_as (ByMatrix order columns) = ColumnsOver order columns
