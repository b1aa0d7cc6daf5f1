-- Lists of short lists.
use Rattle.std.specs.Prelude.{List, map}
use Rattle.arrayvec.specs.ArrayVec.{ArrayVec}

-- the lists that these short lists hold
abbrev pub lists : {X : Type 0} → List (ArrayVec X) → List (List X)
lists vectors = map (λ v. v.items) vectors
