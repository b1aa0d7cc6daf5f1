-- A representation has one matroid. Where a matrix over a field has given bases, a standard one has; the least one is one.
use Rattle.std.proofs.Common.{◌≡◌, ℕ, zero, suc, ◌+◌, ◌-◌, ◌*◌, ◌^◌, ◌<◌, ◌≤◌, refl, sym, ◌∙◌, ap, subst, arith, cond, Bool, inl, inr, ◌↔◌, length}
use Rattle.std.specs.Bool.{nat_lt}
use Rattle.std.specs.List.{Contains}
use Rattle.std.proofs.lemmas.Bool.{cases_lt, le-ltb, lt-ltb}
use Rattle.std.proofs.lemmas.List.Kept.{AllPairs-from_increasing}
use Rattle.std.proofs.Math.Nat.{two-pow-succ}
use Rattle.matroid_theory.specs.Rep.{Rep, shape, count, size, order, IsStandard}
use Rattle.matroid_theory.specs.Matroid.{members, IsBasis}
use Rattle.matroid_theory.specs.Minor.{Matroid, IsMatroidOf}
use Rattle.matroid_theory.specs.Order.{rep_cmp}
use Rattle.matroid_theory.specs.declared.Mode.TheVariants.{Linear}
use Rattle.matroid_theory.specs.Move.{Move, IsMove, TakesTo}
use Rattle.matrix_lemmas.proofs.Lists.{rising_unique}
use Rattle.matrix_lemmas.proofs.FieldLaws.{field_laws}
use Rattle.matrix_lemmas.proofs.Masks.{mask, members-mask, IsBasis-same}
use Rattle.matroid_laws.proofs.Levels.{rep_cmp-reversed, rep_cmp-equal}
use Rattle.matroid_laws.proofs.Carried.{basis_carried}
use Rattle.matroid_laws.proofs.Built.{standard_each}
use Rattle.matrix_lemmas.proofs.Orderings.{neither}
use Rattle.dual_theory.specs.Represented.{Represents, IsLeastOver}

-- ---- the matroid of a representation

-- a representation has one matroid
pub one_matroid : (M : Rep) (N P : Matroid) → IsMatroidOf M N → IsMatroidOf M P → N ≡ P
one_matroid M N P n p = λ i. record { rank = (n.ranks ∙ sym p.ranks) i; size = (n.sizes ∙ sym p.sizes) i; bases = bases i }
  where
    bases : N.bases ≡ P.bases
    bases =
        let a = n.bases in
        let b = p.bases in
        rising_unique (λ x y. x < y) (λ x l. absurd (omega arith)) (λ x y z l m. omega arith) N.bases P.bases
        (AllPairs-from_increasing N.bases a.rising) (AllPairs-from_increasing P.bases b.rising)
        (λ X c. (b.exact X).1 ((a.exact X).0 c)) (λ X c. (a.exact X).1 ((b.exact X).0 c))

-- ---- the mask of the first r numbers

mask_same : (n : ℕ) (S T : ℕ → Bool) → ((j : ℕ) → j < n → S j ≡ T j) → mask n S ≡ mask n T
mask_same zero S T h = refl
mask_same (suc n) S T h = λ i. cond (h n (omega arith) i) 1 0 * 2 ^ n + mask_same n S T (λ j l. h j (omega arith)) i

pub mask_first : (n r : ℕ) → r ≤ n → mask n (λ j. nat_lt j r) + 1 ≡ 2 ^ r
mask_first zero r l = let e : zero ≡ r = omega arith in ap (λ r. 2 ^ r) e
mask_first (suc n) r l =
    elim (cases_lt n r) [
      | inl b ↦ (let e : suc n ≡ r = omega arith in
          let h : mask n (λ j. nat_lt j n) + 1 ≡ 2 ^ n = mask_first n n (omega arith) in
          let s : mask n (λ j. nat_lt j r) ≡ mask n (λ j. nat_lt j n) = mask_same n (λ j. nat_lt j r) (λ j. nat_lt j n)
          (λ j m. lt-ltb j r (omega arith) ∙ sym (lt-ltb j n m)) in
          let t : cond (nat_lt n r) 1 0 * 2 ^ n ≡ 1 * 2 ^ n = ap (λ b. cond b 1 0 * 2 ^ n) (lt-ltb n r b) in
          let d : 2 ^ suc n ≡ 2 ^ n + 2 ^ n = two-pow-succ n in
          let k : 2 ^ suc n ≡ 2 ^ r = ap (λ r. 2 ^ r) e in
          omega arith)
      | inr g ↦ (let h : mask n (λ j. nat_lt j r) + 1 ≡ 2 ^ r = mask_first n r g in
          let t : cond (nat_lt n r) 1 0 * 2 ^ n ≡ 0 * 2 ^ n = ap (λ b. cond b 1 0 * 2 ^ n) (le-ltb n r g) in
          omega arith)
    ]

-- ---- a standard one

first_is_basis : (q : ℕ) (N : Matroid) (M : Rep) → Represents q N M → Contains N.bases (2 ^ N.rank - 1) → N.rank ≤ N.size → IsBasis M 0 (λ j. nat_lt j M.rank)
first_is_basis q N M p c l =
    let e : mask N.size (λ j. nat_lt j N.rank) + 1 ≡ 2 ^ N.rank = mask_first N.size N.rank l in
    let k : mask N.size (λ j. nat_lt j N.rank) ≡ 2 ^ N.rank - 1 = omega arith in
    let b = p.bases.exact (2 ^ N.rank - 1) in
    IsBasis-same M 0 (members (2 ^ N.rank - 1)) (λ j. nat_lt j M.rank)
    (λ j m. ap (λ X. members X j) (sym k) ∙ members-mask N.size (λ j. nat_lt j N.rank) j (subst (λ n. j < n) p.sizes m)
    ∙ ap (nat_lt j) (sym p.ranks)) (let x = b.0 c in x.1)

-- a move that keeps the order of the columns keeps the bases
pub represents_moved : (q : ℕ) (N : Matroid) (M L : Rep) (m : Move) → Represents q N M → IsMove Linear (shape M) m → TakesTo M m L →
    m.label ≡ (λ j. j) → Represents q N L
represents_moved q N M L m p valid takes labels =
    let one : count M ≡ 1 = ap (λ fs. length fs) p.one_factor in
    let same = λ (X : ℕ). subst (λ (p : ℕ → ℕ). IsBasis M 0 (members X) ↔ IsBasis L 0 (λ j. members X (p j))) labels
    (basis_carried Linear M L m p.shaped valid takes 0 (omega arith) (members X)) in
    let sizes : size L ≡ size M = ap (λ s. s.size) takes.same_shape in
    record {
      one_factor = ap (λ s. s.factors) takes.same_shape ∙ p.one_factor;
      ranks = ap (λ s. s.rank) takes.same_shape ∙ p.ranks;
      sizes = sizes ∙ p.sizes;
      shaped = takes.shaped;
      bases = record {
        rising = p.bases.rising;
        exact = λ X. let e = p.bases.exact X in let s = same X in (
          (λ c. let b = e.0 c in (subst (λ n. X < 2 ^ n) (sym sizes) b.0, s.0 b.1)),
          (λ b. e.1 (subst (λ n. X < 2 ^ n) sizes b.0, s.1 b.1)),
        );
      };
    }

pub standard_represents : (q : ℕ) (N : Matroid) (M : Rep) → Represents q N M → Contains N.bases (2 ^ N.rank - 1) → N.rank ≤ N.size →
    (L : Rep) × IsStandard L × Represents q N L
standard_represents q N M p c l =
    let one : count M ≡ 1 = ap (λ fs. length fs) p.one_factor in
    let (L, m, standard, valid, takes, labels, _, _) = standard_each Linear M (λ j. j) (λ j. j) (λ _ _. 1) (λ _. 0) p.shaped (omega arith)
    (record { below = λ j l. l; inverse_below = λ j l. l; there = λ j l. refl; back = λ j l. refl })
    (λ f m. let z : 0 ≡ f = omega arith in subst (λ f. IsBasis M f (λ j. nat_lt j M.rank)) z (first_is_basis q N M p c l))
    (λ f j m _. let F = field_laws (order M f) (p.shaped.orders f m) in F.two) (λ f j _ _ e. absurd (omega arith))
    (λ f m. let F = field_laws (order M f) (p.shaped.orders f m) in F.degree_positive) (λ f _. refl) in
    (L, standard, represents_moved q N M L m p valid takes labels)

-- ---- one least

pub one_least : (q : ℕ) (N : Matroid) (M L : Rep) → IsLeastOver q N M → IsLeastOver q N L → M ≡ L
one_least q N M L a b =
    let p = a.represents in
    let r = b.represents in
    rep_cmp-equal M L (λ i. record { factors = (p.one_factor ∙ sym r.one_factor) i; rank = (p.ranks ∙ sym r.ranks) i; size = (p.sizes ∙ sym r.sizes) i })
    (neither (rep_cmp M L) (rep_cmp L M) (rep_cmp-reversed M L) (a.least L r b.standard) (b.least M p a.standard))
