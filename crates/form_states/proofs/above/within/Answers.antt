use Rattle.std.proofs.Common.{◌≡◌, ◌<◌, ◌+◌, ◌*◌, ◌/◌, ◌^◌, ℕ, refl, ap, subst, arith}
use Rattle.std.proofs.lemmas.Nat.{pow_pos}
use Rattle.std.proofs.Math.Nat.{lt-mul-div-succ}
use Rattle.form_states.proofs.Powers.{sixteens}
use Rattle.form_states.proofs.above.within.Goals as goal

-- what has no quotient is less
no_quotient : (n d : ℕ) → 0 < d → n / d ≡ 0 → n < d
no_quotient n d p e = let l : n < d * (n / d + 1) = lt-mul-div-succ n p in let z : d * (n / d + 1) ≡ d * 1 = ap (λ k. d * (k + 1)) e in omega arith

pub returns-then-number-digits-eq0 : goal.returns-then-number-digits-eq0
returns-then-number-digits-eq0 c = (
  refl,
  subst (λ v. c.args.number < v) (sixteens c.args.digits)
      (no_quotient c.args.number (2 ^ (4 * c.args.digits)) (pow_pos (4 * c.args.digits)) c.if-number-digits-eq0.true),
)
