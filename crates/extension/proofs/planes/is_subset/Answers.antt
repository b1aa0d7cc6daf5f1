use Rattle.std.proofs.Common.{◌≡◌, ◌<◌, ℕ, true, ap, arith, min, eqb-true, eq-eqb}
use Rattle.std.specs.Int.{bit_at}
use Rattle.std.specs.Int.RustNames.{bit_and}
use Rattle.std.proofs.lemmas.Nat.Bits.{bit_at_and, bit_at-lt}
use Rattle.matroid_theory.specs.Matroid.{members}
use Rattle.extension.proofs.planes.is_subset.Goals as goal

one : (x y z : ℕ) → z ≡ min x y → z ≡ x → x ≡ 1 → y < 2 → y ≡ 1
one x y z a b c d = omega arith

-- a mask that stays the same with another one
subset : (set of j : ℕ) → bit_and set of ≡ set → members set j ≡ true → members of j ≡ true
subset set of j e t = eq-eqb (bit_at of j) 1 (one (bit_at set j) (bit_at of j) (bit_at (bit_and set of) j) (bit_at_and set of j)
    (ap (λ x. bit_at x j) e) (eqb-true (bit_at set j) 1 t) (bit_at-lt of j))

pub returns : goal.returns
returns c = λ t j m. subset c.args.set c.args.of j (eqb-true _ c.args.set t) m
