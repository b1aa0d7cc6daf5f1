-- How texts begin.
use Rattle.std.specs.Prelude.{◌≡◌, ◌≢◌, ℕ, ◌==◌, List, [], ◌∷◌, ◌++◌, count_by}

-- the text begins with the front
abbrev pub BeginsWith : List ℕ → List ℕ → Type 0
BeginsWith text front = (rest : List ℕ) × (text ≡ front ++ rest)

-- the longest front that both texts have
pub record IsCommonFront (a b front : List ℕ) : Type 0 where
  pub first : BeginsWith a front
  pub second : BeginsWith b front
  pub longest : (other : List ℕ) → BeginsWith a other → BeginsWith b other → BeginsWith front other

-- The texts part at once: the first has a byte where the second has another, or none.
abbrev pub PartHere : List ℕ → List ℕ → Type 0
PartHere [] v = ⊥
PartHere (x ∷ u) [] = Unit {0}
PartHere (x ∷ u) (y ∷ v) = x ≢ y

-- how many line ends the text has
abbrev pub line_ends : List ℕ → ℕ
line_ends text = count_by (λ b. b == 10) text
