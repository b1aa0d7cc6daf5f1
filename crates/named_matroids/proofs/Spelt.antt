-- A text with a comma in it.
use Rattle.std.proofs.Common.{◌≡◌, ℕ, zero, suc, ◌+◌, ◌<◌, refl, sym, ◌∙◌, ap, arith, List, [], ◌∷◌, ◌++◌, length, get_or, take, drop, ◌-◌, Some, None, true, false, not, cond, eqb-true, eq-eqb, lt-ltb}
use Rattle.std.specs.Prelude.{decimal, position}
use Rattle.std.specs.List.{position_or_len}
use Rattle.std.specs.Bool.{◌==◌, nat_lt}
use mathlib.Core.Bool.{true≢false}
use Rattle.std.proofs.Math.Seq.{drop-cons}
use Rattle.std.proofs.lemmas.List.{take-append-drop}
use Rattle.std.proofs.lemmas.Grind.{common_steps}
use Rattle.std.proofs.lemmas.List.Quantifiers.{position-Some}
use Rattle.std.proofs.lemmas.Fmt.{decimal_injective}
use Rattle.formats.specs.Statement.{IsNumber}
use Rattle.formats.proofs.Unique.{NoComma, decimal_no_comma, split_comma}

-- two numbers with a comma between them are spelled in one way
pub same_numbers : (m n k l : ℕ) → IsNumber m → IsNumber n → IsNumber k → IsNumber l →
    decimal m ++ 44 ∷ decimal n ≡ decimal k ++ 44 ∷ decimal l → (m ≡ k) × (n ≡ l)
same_numbers m n k l p q r s e =
    let w = split_comma (decimal m) (decimal n) (decimal k) (decimal l) (decimal_no_comma m p) (decimal_no_comma k r) e in
    (decimal_injective m k (omega arith) (omega arith) w.0, decimal_injective n l (omega arith) (omega arith) w.1)

-- the first comma of a text is that after its front without one
pub parts : (a b text : List ℕ) (i : ℕ) → NoComma a → a ++ 44 ∷ b ≡ text → get_or text i 0 ≡ 44 →
    ((k : ℕ) → k < i → get_or text k 0 ≡ 44 → ⊥) → (take i text ≡ a) × (drop (i + 1) text ≡ b)
parts [] b [] i p e at before = cc
parts [] b (x ∷ text) zero p e at before = (refl, let h : text ≡ b = cc (e) in h)
parts [] b (x ∷ text) (suc i) p e at before = absurd (before 0 (omega arith) (let h : x ≡ 44 = cc (e) in h))
parts (y ∷ a) b [] i p e at before = cc
parts (y ∷ a) b (x ∷ text) zero p e at before = let h : y ≡ x = cc (e) in absurd (omega (arith, p.0))
parts (y ∷ a) b (x ∷ text) (suc i) p e at before =
    let h : y ≡ x = cc (e) in
    let t : a ++ 44 ∷ b ≡ text = cc (e) in
    let w : (take i text ≡ a) × (drop (i + 1) text ≡ b) = parts a b text i p.1 t at (λ k l. before (suc k) (omega arith)) in
    let n : suc i + 1 ≡ suc (i + 1) = omega arith in
    ((λ j. sym h j ∷ w.0 j), ap (λ n. drop n (x ∷ text)) n ∙ w.1)

-- the two parts round the first comma
pub numbers_parts : (m n : ℕ) (text : List ℕ) (i : ℕ) → IsNumber m → decimal m ++ 44 ∷ decimal n ≡ text →
    position (λ byte. byte == 44) text ≡ Some i → (take i text ≡ decimal m) × (drop (i + 1) text ≡ decimal n)
numbers_parts m n text i l e p =
    let w = position-Some (λ byte. byte == 44) text i 0 p in
    parts (decimal m) (decimal n) text i (decimal_no_comma m l) e (eqb-true (get_or text i 0) 44 w.1)
    (λ k o z. true≢false (sym (eq-eqb (get_or text k 0) 44 z) ∙ w.2 k o))

-- the rest of a text, as a range of it
pub rest_of : (text : List ℕ) (i : ℕ) → take (length text - i) (drop i text) ≡ drop i text
rest_of text i = grind (arith, common_steps)

-- a text with a comma has a first one
before_end : (a b : List ℕ) → position_or_len (λ byte. byte == 44) (a ++ 44 ∷ b) < length (a ++ 44 ∷ b)
before_end [] b = omega arith
before_end (x ∷ a) b =
    let h : position_or_len (λ byte. byte == 44) (a ++ 44 ∷ b) < length (a ++ 44 ∷ b) = before_end a b in
    elim (x == 44) as (λ t. cond (not t) (1 + position_or_len (λ byte. byte == 44) (a ++ 44 ∷ b)) 0 < length (x ∷ (a ++ 44 ∷ b)))
    [ true ↦ omega arith | false ↦ omega arith ]

pub has_comma : (a b text : List ℕ) → a ++ 44 ∷ b ≡ text → position (λ byte. byte == 44) text ≡ None → ⊥
has_comma a b text e p =
    let q : position (λ byte. byte == 44) (a ++ 44 ∷ b) ≡ None = ap (λ (t : List ℕ). position (λ byte. byte == 44) t) e ∙ p in
    let t : nat_lt (position_or_len (λ byte. byte == 44) (a ++ 44 ∷ b)) (length (a ++ 44 ∷ b)) ≡ true =
    lt-ltb (position_or_len (λ byte. byte == 44) (a ++ 44 ∷ b)) (length (a ++ 44 ∷ b)) (before_end a b) in
    absurd (cc (q, ap (λ t. cond t (Some (position_or_len (λ byte. byte == 44) (a ++ 44 ∷ b))) None) t))

-- the text of what stands round its first comma
pub joined : (a b text : List ℕ) (i : ℕ) → position (λ byte. byte == 44) text ≡ Some i → take i text ≡ a → drop (i + 1) text ≡ b → a ++ 44 ∷ b ≡ text
joined a b text i p f g =
    let w = position-Some (λ byte. byte == 44) text i 0 p in
    let c : get_or text i 0 ≡ 44 = eqb-true (get_or text i 0) 44 w.1 in
    let n : i + 1 ≡ suc i = omega arith in
    let d : drop i text ≡ 44 ∷ b = drop-cons text i 0 w.0 ∙ (λ t. c t ∷ drop (sym n t) text) ∙ ap (λ (r : List ℕ). 44 ∷ r) g in
    (λ t. sym f t ++ sym d t) ∙ take-append-drop i text
