-- Two answers that are the same, or not.
use Rattle.std.proofs.Common.{◌≡◌, Bool, true, false, not, refl, sym}
use Rattle.std.proofs.lemmas.Bool.{false≢true}
use mathlib.Core.Bool.{beq}

pub same_answer : (a b : Bool) → beq a b ≡ true → a ≡ b
same_answer true true e = refl
same_answer true false e = absurd (false≢true e)
same_answer false true e = absurd (false≢true e)
same_answer false false e = refl

pub answers_same : (a b : Bool) → a ≡ b → beq a b ≡ true
answers_same true true e = refl
answers_same true false e = sym e
answers_same false true e = e
answers_same false false e = refl

pub not_other : (a b : Bool) → not (beq a b) ≡ false → a ≡ b
not_other true true e = refl
not_other true false e = absurd (false≢true (sym e))
not_other false true e = absurd (false≢true (sym e))
not_other false false e = refl
