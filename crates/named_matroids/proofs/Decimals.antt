-- Numbers of at most nine digits.
use Rattle.std.proofs.Common.{◌≡◌, ℕ, ◌^◌, ◌<◌, ◌≤◌, sym, ◌∙◌, ap, subst, arith, lit<, true, false, List, length, get_or, Option, None, Some, MatchOption, inl, inr}
use Rattle.std.specs.Prelude.{decimal}
use Rattle.std.specs.Char.{is_ascii_digit}
use Rattle.std.specs.Int.{IsInRange}
use Rattle.std.specs.Str.Parse.{AllDigits, digits_value}
use Rattle.std.proofs.lemmas.Bool.{cases_lt}
use Rattle.std.proofs.lemmas.Bool.Decides.{nat_tests}
use Rattle.std.proofs.lemmas.Fmt.{decimal_is_IsNumeral, decimal-digits_value, decimal_digit, first_decimal}
use Rattle.std.proofs.lemmas.Str.Parse.{IsNumeralModel, numerals_by_value, tells_digits, digits_value_short}
use Rattle.formats.specs.Statement.{IsNumber}

own : IsNumeralModel (AllDigits 10) (digits_value 10)
own = numerals_by_value (AllDigits 10) tells_digits

pub value_short : (digits : List ℕ) (k : ℕ) → AllDigits 10 digits → length digits ≤ k → digits_value 10 digits < 10 ^ k
value_short digits k all l = digits_value_short own digits k all l

pub is_digit : (c : ℕ) → is_ascii_digit c ≡ true → IsInRange 48 57 c
is_digit c e = grind (arith, nat_tests)

pub no_digit : (c : ℕ) → is_ascii_digit c ≡ false → IsInRange 48 57 c → ⊥
no_digit c e h = grind (arith, nat_tests)

-- digits with no needless zero spell their value, and no others spell a number
pub spelled : (word : List ℕ) (r : Option ℕ) → 0 < length word → length word ≤ 9 → (get_or word 0 0 ≡ 48 → length word ≡ 1) →
    MatchOption r (AllDigits 10 word → ⊥) (λ n. AllDigits 10 word × (n ≡ digits_value 10 word)) →
    MatchOption r ((n : ℕ) → IsNumber n → word ≡ decimal n → ⊥) (λ n. IsNumber n × (word ≡ decimal n))
spelled word None some short lead h = λ n l e. h (subst (AllDigits 10) (sym e) (decimal_is_IsNumeral n (omega arith)).0.1)
spelled word (Some n) some short lead h =
    let l : digits_value 10 word < 10 ^ 9 = value_short word 9 h.0 short in
    let v : n ≡ digits_value 10 word = h.1 in
    (omega arith, sym (decimal-digits_value own word h.0 some lead (omega arith)) ∙ ap decimal (sym v))

-- the first of several digits isn't 0
pub no_zero : (word : List ℕ) (n : ℕ) → n < 10 ^ 9 → word ≡ decimal n → get_or word 0 0 ≡ 48 → 1 < length word → ⊥
no_zero word n l e z m =
    elim (cases_lt 0 n) [
      | inl b ↦ (let h : 48 < get_or (decimal n) 0 0 = first_decimal n b (omega arith) in
          let k : get_or word 0 0 ≡ get_or (decimal n) 0 0 = ap (λ (w : List ℕ). get_or w 0 0) e in omega arith)
      | inr g ↦ (let d : n ≡ 0 = omega arith in
          let k : length word ≡ 1 = ap (λ (w : List ℕ). length w) (e ∙ ap decimal d ∙ decimal_digit 0 (lit< tt)) in omega arith)
    ]
