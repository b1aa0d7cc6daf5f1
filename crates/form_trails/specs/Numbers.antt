-- Columns as numbers in base 16.
use Rattle.std.specs.Prelude.{ℕ, zero, suc, ◌+◌, ◌*◌, ◌^◌, List, [], ◌∷◌, length}

-- the number whose digits are the codes, the first the highest
abbrev pub value : List ℕ → ℕ
value [] = 0
value (code ∷ codes) = code * 16 ^ length codes + value codes

-- the number of the first n digits, the first the highest
abbrev pub weighed : (ℕ → ℕ) → ℕ → ℕ
weighed digit zero = 0
weighed digit (suc n) = weighed digit n * 16 + digit n

-- the number with n more digits
abbrev pub weighed_on : ℕ → (ℕ → ℕ) → ℕ → ℕ
weighed_on number digit zero = number
weighed_on number digit (suc n) = weighed_on number digit n * 16 + digit n
