-- Rows of callers, one for each pass.
use Rattle.std.specs.Prelude.{ℕ, suc, List, [], ◌∷◌, ◌++◌, map, Vec}
use Rattle.stripe_book.specs.Seen.{CallerSide}
use Rattle.stripe_turn.specs.Seen.{TurnSide}
use Rattle.class_store.specs.Seen.{PassSide, IsPass, pass_side}

abbrev pub rows_in : {Z : Type 0} → List (Vec CallerSide Z) → List (List CallerSide)
rows_in rows = map (λ r. r.items) rows

-- each row gets one caller more
abbrev pub add_column : List (List CallerSide) → List CallerSide → List (List CallerSide)
add_column [] cs = []
add_column (r ∷ rs) [] = []
add_column (r ∷ rs) (c ∷ cs) = (r ++ c ∷ []) ∷ add_column rs cs

-- the passes of these rows and turns, with numbers from n on
abbrev pub passes_from : List (List CallerSide) → List TurnSide → ℕ → List PassSide
passes_from [] ts n = []
passes_from (r ∷ rs) [] n = []
passes_from (r ∷ rs) (t ∷ ts) n = pass_side n r t ∷ passes_from rs ts (suc n)

abbrev pub ArePasses : List (List CallerSide) → List TurnSide → ℕ → Type 0
ArePasses [] ts n = Unit {0}
ArePasses (r ∷ rs) [] n = Unit {0}
ArePasses (r ∷ rs) (t ∷ ts) n = IsPass n r t × ArePasses rs ts (suc n)
