use Rattle.std.proofs.Common.{◌≡◌, ◌↔◌, ◌<◌, ◌≤◌, ◌*◌, ◌^◌, ◌%◌, ℕ, List, Bool, true, bit_or, arith, sym, ◌∙◌, subst, refl, inl, inr}
use Rattle.std.proofs.lemmas.Bool.{false≢true, cases_lt}
use Rattle.std.proofs.lemmas.Nat.{one_shl}
use Rattle.arrayvec.specs.ArrayVec.{ArrayVec}
use Rattle.matroid_theory.specs.Rep.{Rep, KeepsLimits}
use Rattle.column_sets.specs.Picked.{IsIndependentSet}
use Rattle.bases.specs.FactorColumns.{IsFactorOf}
use Rattle.bases.proofs.Factors.{independent_same}
use Rattle.matroid_theory.specs.Matroid.{members, IsIndependentIn}
use Rattle.matrix_lemmas.proofs.Pairs.{pair, pair_independent}
use Rattle.bases.proofs.simple.is_apart_from_earlier.Goals as goal

-- the answer in the terms of the factor
in_factor : (M : Rep) (k : KeepsLimits M) (f q : ℕ) (columns : List (ArrayVec ℕ)) → IsFactorOf M f q columns →
    (S : ℕ → Bool) (b : Bool) → ((b ≡ true) ↔ IsIndependentSet q columns S) → (b ≡ true) ↔ IsIndependentIn M f S
in_factor M k f q columns h S b e = let s = independent_same M k f q columns h S in (λ t. s.0 (e.0 t), λ i. e.1 (s.1 i))

-- the answer at the mask of two columns is that at the two columns
at_pair : (M : Rep) (f i j : ℕ) (b : Bool) → i < 16 → j < 16 →
    ((b ≡ true) ↔ IsIndependentIn M f (members (bit_or (1 * 2 ^ i % 65536) (1 * 2 ^ j % 65536)))) → ((b ≡ true) ↔ IsIndependentIn M f (pair i j))
at_pair M f i j b l m h =
    let k : (b ≡ true) ↔ IsIndependentIn M f (members (bit_or (2 ^ i) (2 ^ j))) =
    subst (λ (x : ℕ). (b ≡ true) ↔ IsIndependentIn M f (members x)) (λ t. bit_or (one_shl i 16 l t) (one_shl j 16 m t)) h in
    let p : IsIndependentIn M f (members (bit_or (2 ^ i) (2 ^ j))) ↔ IsIndependentIn M f (pair i j) = pair_independent M f i j in
    (λ t. p.0 (k.0 t), λ d. k.1 (p.1 d))

pub returns-then-not-is_independent : goal.returns-then-not-is_independent
returns-then-not-is_independent c =
    let h : (c.is_independent.result ≡ true) ↔ IsIndependentIn c.args.rep.now c.args.factor (pair c.loop-i.i c.args.j) =
    at_pair c.args.rep.now c.args.factor c.loop-i.i c.args.j c.is_independent.result (omega arith) (omega arith)
    (in_factor c.args.rep.now c.laws.ensures c.args.factor _ _ c.requires.part
    (members (bit_or (1 * 2 ^ c.loop-i.i % 65536) (1 * 2 ^ c.args.j % 65536))) c.is_independent.result c.is_independent.ensures) in
    (λ t. absurd (false≢true t), λ d. absurd (false≢true (sym c.if-not-is_independent.true ∙ h.1 (d c.loop-i.i c.loop-i-test.true))))

-- one more column
more : (M : Rep) (f i j n : ℕ) → ((k : ℕ) → k < i → IsIndependentIn M f (pair k j)) → IsIndependentIn M f (pair i j) → n ≤ i → IsIndependentIn M f (pair n j)
more M f i j n h d l = elim (cases_lt n i) [
  | inl b ↦ h n b
  | inr g ↦ (let e : i ≡ n = omega arith in subst (λ (x : ℕ). IsIndependentIn M f (pair x j)) e d)
]

pub loop-i-preserved : goal.loop-i-preserved
loop-i-preserved c n l =
    let h : (c.is_independent.result ≡ true) ↔ IsIndependentIn c.args.rep.now c.args.factor (pair c.loop-i.i c.args.j) =
    at_pair c.args.rep.now c.args.factor c.loop-i.i c.args.j c.is_independent.result (omega arith) (omega arith)
    (in_factor c.args.rep.now c.laws.ensures c.args.factor _ _ c.requires.part
    (members (bit_or (1 * 2 ^ c.loop-i.i % 65536) (1 * 2 ^ c.args.j % 65536))) c.is_independent.result c.is_independent.ensures) in
    more c.args.rep.now c.args.factor c.loop-i.i c.args.j n c.loop-i.invariant (h.0 c.if-not-is_independent.false) (omega arith)

pub returns-else-not-is_independent : goal.returns-else-not-is_independent
returns-else-not-is_independent c =
    let h : (c.is_independent.result ≡ true) ↔ IsIndependentIn c.args.rep.now c.args.factor (pair c.loop-i.i c.args.j) =
    at_pair c.args.rep.now c.args.factor c.loop-i.i c.args.j c.is_independent.result (omega arith) (omega arith)
    (in_factor c.args.rep.now c.laws.ensures c.args.factor _ _ c.requires.part
    (members (bit_or (1 * 2 ^ c.loop-i.i % 65536) (1 * 2 ^ c.args.j % 65536))) c.is_independent.result c.is_independent.ensures) in
    (λ _ n l. more c.args.rep.now c.args.factor c.loop-i.i c.args.j n c.loop-i.invariant (h.0 c.if-not-is_independent.false) (omega arith), λ _. refl)
