-- How many columns a mask has.
use Rattle.std.proofs.Common.{◌≡◌, ℕ, zero, suc, ◌+◌, ◌-◌, ◌*◌, ◌^◌, ◌<◌, ◌≤◌, refl, sym, ◌∙◌, ap, arith, cond, inl, inr}
use Rattle.std.specs.Bool.{◌==◌}
use Rattle.std.specs.Int.{bit_at}
use Rattle.std.specs.Int.RustNames.{count_ones}
use Rattle.std.proofs.lemmas.Bool.{cases_lt}
use Rattle.std.proofs.Math.Nat.{two-pow-succ}
use Rattle.std.proofs.lemmas.Nat.{ones_cat, ones_le_self}
use Rattle.std.proofs.lemmas.Nat.Bits.{bit_at_above, bit_at_cat_low, bit_at_cat_high}
use Rattle.matroid_theory.specs.Matrix.{size_below}
use Rattle.matroid_theory.specs.Matroid.{members}
use Rattle.matrix_lemmas.proofs.Masks.{size-same}

one_of_one : count_ones 1 ≡ 1
unfolding count_ones
one_of_one = refl

-- a set has as many elements as its mask has ones
pub size-members : (n X : ℕ) → X < 2 ^ n → size_below n (members X) ≡ count_ones X
size-members zero X l = let m : count_ones X ≤ X = ones_le_self X in omega arith
size-members (suc n) X l =
    elim (cases_lt X (2 ^ n)) [
      | inl b ↦ (let k : n ≤ n = omega arith in
          let z : bit_at X n ≡ 0 = bit_at_above X n n b k in
          let h : size_below (suc n) (members X) ≡ size_below n (members X) + 0 = ap (λ x. size_below n (members X) + cond (x == 1) 1 0) z in
          let i : size_below n (members X) ≡ count_ones X = size-members n X b in
          omega arith)
      | inr g ↦ (let d : 2 ^ suc n ≡ 2 ^ n + 2 ^ n = two-pow-succ n in
          let b : X - 2 ^ n < 2 ^ n = omega arith in
          let e : 1 * 2 ^ n + (X - 2 ^ n) ≡ X = omega arith in
          ap (λ x. size_below (suc n) (members x)) (sym e) ∙ with_top n (X - 2 ^ n) b (size-members n (X - 2 ^ n) b) ∙ ap count_ones e)
    ]
  where
    with_top : (n r : ℕ) → r < 2 ^ n → size_below n (members r) ≡ count_ones r → size_below (suc n) (members (1 * 2 ^ n + r)) ≡ count_ones (1 * 2 ^ n + r)
    with_top n r b i =
        let s : size_below n (members (1 * 2 ^ n + r)) ≡ size_below n (members r) = size-same n (members (1 * 2 ^ n + r))
        (members r) (λ j l. ap (λ x. x == 1) (bit_at_cat_low 1 n r j l)) in
        let k : n ≤ n = omega arith in
        let z : n - n ≡ 0 = omega arith in
        let t : bit_at (1 * 2 ^ n + r) n ≡ 1 = bit_at_cat_high 1 n r n b k ∙ ap (bit_at 1) z in
        let h : size_below (suc n) (members (1 * 2 ^ n + r)) ≡ size_below n (members (1 * 2 ^ n + r)) + 1 =
        ap (λ x. size_below n (members (1 * 2 ^ n + r)) + cond (x == 1) 1 0) t in
        let c : count_ones (1 * 2 ^ n + r) ≡ 1 + count_ones r = ones_cat n 1 r b ∙ ap (λ x. x + count_ones r) one_of_one in
        omega arith
