-- The entries of a matrix, one after another.
use Rattle.std.proofs.Common.{◌≡◌, ◌≢◌, ℕ, zero, suc, ◌+◌, ◌-◌, ◌*◌, ◌/◌, ◌%◌, ◌<◌, ◌≤◌, ap, sym, ◌∙◌, arith, inl, inr, List, length}
use Rattle.std.proofs.lemmas.Bool.{cases_lt}
use Rattle.std.proofs.lemmas.Nat.{div-mul-add, mod-mul-add, mul-add-lt}
use Rattle.matroid_laws.proofs.First.{whole}
use Rattle.dual_theory.specs.Represented.{ComesBefore}
use Rattle.represent.specs.Filled.{row_at, column_at}

module _ (r : ℕ) (pos : 0 < r) where
  pub row_of : (a l : ℕ) → l < r → row_at r (a * r + l) ≡ l
  row_of a l m = mod-mul-add a r l m

  pub column_of : (a l : ℕ) → l < r → column_at r (a * r + l) ≡ r + a
  column_of a l m = ap (λ x. r + x) (div-mul-add a r l m)

  pub place_is : (p : ℕ) → (column_at r p - r) * r + row_at r p ≡ p
  place_is p = let e : r + p / r - r ≡ p / r = omega arith in ap (λ x. x * r + p % r) e ∙ whole p r pos

  pub place_before : (p l k : ℕ) → l < r → r ≤ k → ComesBefore l k (row_at r p) (column_at r p) → (k - r) * r + l < p
  place_before p l k m g o =
      let w : p / r * r + p % r ≡ p = whole p r pos in
      elim o [
        | inl b ↦ (let h : (k - r) * r + l < r * (p / r) = mul-add-lt (k - r) r l (p / r) (omega arith) m in
            let c : r * (p / r) ≡ p / r * r = omega arith in omega arith)
        | inr d ↦ (let e : k - r ≡ p / r = (let z : k ≡ r + p / r = d.0 in omega arith) in let t : (k - r) * r ≡ p / r * r =
            ap (λ x. x * r) e in let b : l < p % r = d.1 in omega arith)
      ]

  pub place_until : (p l k : ℕ) → l < r → r ≤ k → ComesBefore l k (suc (row_at r p)) (column_at r p) → (k - r) * r + l < suc p
  place_until p l k m g o =
      let w : p / r * r + p % r ≡ p = whole p r pos in
      elim o [
        | inl b ↦ (let h : (k - r) * r + l < p = place_before p l k m g (inl b) in omega arith)
        | inr d ↦ (let e : k - r ≡ p / r = (let z : k ≡ r + p / r = d.0 in omega arith) in let t : (k - r) * r ≡ p / r * r =
            ap (λ x. x * r) e in let b : l < suc (p % r) = d.1 in omega arith)
      ]

-- there is room where not all entries are filled in
pub room_left : (r n len a b : ℕ) (codes : List ℕ) → len ≡ length codes → a ≡ n - r → b ≡ r → len ≢ a * b → length codes ≤ (n - r) * r
    → length codes < (n - r) * r
room_left r n len a b codes e d f ne l =
    let t : a * b ≡ (n - r) * r = λ i. d i * f i in
    elim (cases_lt (length codes) ((n - r) * r)) [
      | inl h ↦ h
      | inr g ↦
          absurd (ne (let z : length codes ≡ (n - r) * r = omega arith in e ∙ z ∙ sym t))
    ]

-- rows of at most 6 and columns of at most 16 have at most 60 entries after the unit columns
pub few_entries : (r n : ℕ) → r ≤ 6 → n ≤ 16 → (n - r) * r ≤ 60
few_entries zero n l m = omega arith
few_entries (suc zero) n l m = omega arith
few_entries (suc (suc zero)) n l m = omega arith
few_entries (suc (suc (suc zero))) n l m = omega arith
few_entries (suc (suc (suc (suc zero)))) n l m = omega arith
few_entries (suc (suc (suc (suc (suc zero))))) n l m = omega arith
few_entries (suc (suc (suc (suc (suc (suc zero)))))) n l m = omega arith
few_entries (suc (suc (suc (suc (suc (suc (suc r))))))) n l m = absurd (omega arith)
