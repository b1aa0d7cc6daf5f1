-- The keys of values, one by one.
use Rattle.std.specs.Prelude.{ℕ, ◌≢◌, ◌↔◌, List}
use Rattle.std.specs.List.{AllPairs, AllZip, Contains, count_by}
use Rattle.std.specs.Str.{bytes_eq}

-- the keys of the values with P, one by one: these values stand in a list without repeats, and each has its key, by R, at its place
pub record AreKeysOf {X : Type 0} (P : X → Type 0) (R : X → List ℕ → Type 0) (keys : List (List ℕ)) : Type 0 where
  pub list : List X
  pub apart : AllPairs (λ x y. x ≢ y) list
  pub exact : (x : X) → Contains list x ↔ P x
  pub packed : AllZip R list keys

-- how often the key stands in the list
abbrev pub times : List ℕ → List (List ℕ) → ℕ
times key keys = count_by (bytes_eq key) keys
