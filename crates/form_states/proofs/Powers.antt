-- Powers of 16.
use Rattle.std.proofs.Common.{◌≡◌, ◌+◌, ◌*◌, ◌^◌, ℕ, zero, suc, refl, sym, ◌∙◌, ap, arith}
use Rattle.std.proofs.lemmas.Nat.{pow-add}

pub sixteens : (m : ℕ) → 2 ^ (4 * m) ≡ 16 ^ m
sixteens zero = refl
sixteens (suc m) =
    let e : 4 * suc m ≡ 4 * m + 4 = omega arith in
    ap (λ k. 2 ^ k) e ∙ pow-add 2 (4 * m) 4 ∙ ap (λ k. k * 16) (sixteens m) ∙ sym (pow-add 16 m 1) ∙ ap (λ k. 16 ^ k) (let e : m + 1 ≡ suc m = omega arith in e)
