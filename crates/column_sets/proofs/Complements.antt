-- The complement of a mask.
use Rattle.std.proofs.Common.{◌≡◌, ℕ, zero, suc, ◌+◌, ◌-◌, ◌*◌, ◌^◌, ◌<◌, ◌≤◌, refl, sym, ◌∙◌, ap, arith, not}
use Rattle.std.specs.Bool.{◌==◌}
use Rattle.std.specs.Int.{bit_at}
use Rattle.std.proofs.lemmas.Nat.{pow_pos, pow-add}
use Rattle.std.proofs.Math.Nat.{suc-mul}
use Rattle.std.proofs.Math.Pow.{pow_mono}
use Rattle.std.proofs.lemmas.Nat.Bits.{bit_at_cat_low, bit_at_not, bit_at-lt}
use mir.Syntax.{w16}
use Rattle.matroid_theory.specs.Matroid.{members}

flipped : (x : ℕ) → x < 2 → ((1 - x) == 1) ≡ not (x == 1)
flipped zero l = refl
flipped (suc zero) l = refl
flipped (suc (suc x)) l = absurd (omega arith)

split : (a b x : ℕ) → 0 < a → x < b → a * b ≡ 65536 → (a - 1) * b + (b - 1 - x) ≡ 65536 - 1 - x
split zero b x p l e = absurd (omega arith)
split (suc a) b x p l e = let s : suc a - 1 ≡ a = omega arith in let t : (suc a - 1) * b ≡ a * b = ap (λ y. y * b) s in
    let m : suc a * b ≡ a * b + b = suc-mul a b in omega arith

module _ (n : ℕ) (small : n ≤ 16) where
  -- the bits above, and below
  cut : (X : ℕ) → X < 2 ^ n → (2 ^ (16 - n) - 1) * 2 ^ n + (2 ^ n - 1 - X) ≡ 65536 - 1 - X
  cut X l =
      let e : 2 ^ ((16 - n) + n) ≡ 2 ^ (16 - n) * 2 ^ n = pow-add 2 (16 - n) n in
      let s : (16 - n) + n ≡ 16 = omega arith in
      let f : 2 ^ ((16 - n) + n) ≡ 65536 = ap (λ x. 2 ^ x) s in
      let p : 0 < 2 ^ (16 - n) = pow_pos (16 - n) in
      split (2 ^ (16 - n)) (2 ^ n) X p l (sym e ∙ f)

  pub members_complement : (X j : ℕ) → X < 2 ^ n → j < n → members (2 ^ n - 1 - X) j ≡ not (members X j)
  members_complement X j l m =
      ap (λ x. x == 1)
      (sym (bit_at_cat_low (2 ^ (16 - n) - 1) n (2 ^ n - 1 - X) j m)
      ∙ ap (λ x. bit_at x j) (cut X l)
      ∙ bit_at_not w16 X j (let g : 2 ^ n ≤ 2 ^ 16 = pow_mono small in omega arith) (omega arith))
      ∙ flipped (bit_at X j) (bit_at-lt X j)
