-- The keys of the tries of a size.
use Rattle.std.specs.Prelude.{ℕ, ◌≡◌, List, length}
use Rattle.std.specs.List.{AllZip}
use Rattle.matroid_theory.specs.Rep.{Rep}
use Rattle.matroid_theory.specs.Level.{Family, IsTry, IsTryFor, IsCount}
use Rattle.form_key.specs.Packing.{packing}

-- the key is the packing of the form of the try
abbrev pub IsTryKey : Family → ℕ → Rep × List ℕ → List ℕ → Type 0
IsTryKey q n try key = (N : Rep) × IsTryFor q n N try × (packing N ≡ key)

-- the keys are those of all tries of size n, one by one: the tries stand in a list without repeats, and each has its key at its place
pub record AreTryKeys (q : Family) (n : ℕ) (keys : List (List ℕ)) : Type 0 where
  pub tries : IsCount (IsTry q n) (length keys)
  pub packed : AllZip (IsTryKey q n) tries.list keys
