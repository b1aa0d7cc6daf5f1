-- The words of a command line as bytes.
use Rattle.std.specs.Prelude.{ℕ, List, ◌∷◌, map, String, string_bytes, codes, decimal}
use Rattle.std.specs.declared.alloc.Global.{Global}

-- the bytes of each word
abbrev pub texts_of : List (String Global) → List (List ℕ)
texts_of words = map string_bytes words

-- `over`, an order, a further word, and the rest
abbrev pub over_words : ℕ → List ℕ → List (List ℕ) → List (List ℕ)
over_words order kind rest = codes "over" ∷ decimal order ∷ kind ∷ rest
