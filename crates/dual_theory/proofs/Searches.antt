-- The search for a standard matrix with given bases, entry by entry: what it tests is all, and what it gives up holds none.
use Rattle.std.proofs.Common.{◌≡◌, ◌⊎◌, ℕ, zero, suc, ◌+◌, ◌-◌, ◌^◌, ◌<◌, ◌≤◌, refl, sym, ◌∙◌, ap, subst, arith, Bool, true, false, inl, inr, length}
use Rattle.std.specs.Bool.{nat_lt}
use Rattle.std.specs.List.{Contains}
use Rattle.std.proofs.lemmas.Bool.{cases_lt, cases_Bool, le-ltb, lt-ltb}
use Rattle.matroid_theory.specs.Matrix.{size_below}
use Rattle.matroid_theory.specs.Rep.{Rep, shape, count, size}
use Rattle.matroid_theory.specs.Matroid.{members, IsBasis}
use Rattle.matroid_theory.specs.Minor.{Matroid}
use Rattle.matrix_lemmas.proofs.Masks.{mask, mask-below, members-mask, size-same, IsBasis-same, same_mask}
use Rattle.matrix_lemmas.proofs.Picked.{size_more, size_stays, size_grows}
use Rattle.matrix_lemmas.proofs.Bases.{size_none}
use Rattle.matroid_laws.proofs.Rest.{units_basis}
use Rattle.matroid_laws.proofs.Built.{size_both}
use Rattle.dual_theory.specs.Represented.{Represents, IsToldAt, IsBasedFirst, IsStandardOver, KeepsBasesAt, Completes}
use Rattle.dual_theory.specs.Dual.{complement}
use Rattle.dual_theory.proofs.Orthogonal.{complement_in, complement_out}
use Rattle.dual_theory.proofs.Representations.{mask_first}
use Rattle.dual_theory.proofs.Told.{base_told}

-- ---- sets

-- the last member below n, or none
last_member : (n : ℕ) (X : ℕ → Bool) → ((j : ℕ) × (j < n) × (X j ≡ true) × ((k : ℕ) → j < k → k < n → X k ≡ false)) ⊎ ((k : ℕ) → k < n → X k ≡ false)
last_member zero X = inr (λ k l. absurd (omega arith))
last_member (suc n) X =
    elim (cases_Bool (X n)) [
      | inl t ↦ inl (n, omega arith, t, λ k l m. absurd (omega arith))
      | inr f ↦ elim (last_member n X) [
        | inl w ↦ inl (
          w.0,
          (let l = w.1 in omega arith),
          w.2,
          λ k l m. elim (cases_lt k n) [ inl b ↦ w.3 k l b | inr g ↦ (let e : k ≡ n = omega arith in ap X e ∙ f) ],
        )
        | inr z ↦ inr (λ k l. elim (cases_lt k n) [ inl b ↦ z k b | inr g ↦ (let e : k ≡ n = omega arith in ap X e ∙ f) ])
      ]
    ]

size_up : (j n : ℕ) (X : ℕ → Bool) → j ≤ n → size_below j X ≤ size_below n X
size_up j zero X l = let e : j ≡ zero = omega arith in subst (λ (k : ℕ). size_below k X ≤ 0) (sym e) (omega arith)
size_up j (suc n) X l =
    elim (cases_lt n j) [
      | inl b ↦ (let e : j ≡ suc n = omega arith in let h : size_below j X ≡ size_below (suc n) X = ap (λ k. size_below k X) e in omega arith)
      | inr g ↦ (let h : size_below j X ≤ size_below n X = size_up j n X g in
          elim (cases_Bool (X n)) [
            | inl t ↦ (let k : size_below (suc n) X ≡ suc (size_below n X) = size_more n X t in omega arith)
            | inr f ↦ (let k : size_below (suc n) X ≡ size_below n X = size_stays n X f in omega arith)
          ])
    ]

size_all : (r : ℕ) (X : ℕ → Bool) → ((k : ℕ) → k < r → X k ≡ true) → size_below r X ≡ r
size_all zero X h = refl
size_all (suc r) X h =
    let e : size_below r X ≡ r = size_all r X (λ k l. h k (omega arith)) in
    let g : size_below (suc r) X ≡ suc (size_below r X) = size_more r X (h r (omega arith)) in
    omega arith

-- no member from r on
size_early : (r n : ℕ) (X : ℕ → Bool) → r ≤ n → ((k : ℕ) → r ≤ k → k < n → X k ≡ false) → size_below n X ≡ size_below r X
size_early r zero X l h = let e : zero ≡ r = omega arith in ap (λ k. size_below k X) e
size_early r (suc n) X l h =
    elim (cases_lt n r) [
      | inl b ↦ (let e : suc n ≡ r = omega arith in ap (λ k. size_below k X) e)
      | inr g ↦ size_stays n X (h n g (omega arith)) ∙ size_early r n X g (λ k m o. h k m (omega arith))
    ]

-- a set of r numbers below n is the first r or is told somewhere
told_somewhere : (r n : ℕ) (X : ℕ → Bool) → r ≤ n → size_below n X ≡ r →
    ((k : ℕ) → k < n → X k ≡ nat_lt k r) ⊎ ((i : ℕ) × (j : ℕ) × (i < r) × (r ≤ j) × (j < n) × IsToldAt r n i j X)
told_somewhere r n X le full =
    elim (last_member r (complement X)) [
      | inr all ↦ inl (λ k l. elim (cases_lt k r) [
        | inl b ↦ complement_out X k (all k b) ∙ sym (lt-ltb k r b)
        | inr g ↦ elim (cases_Bool (X k)) [
          | inl t ↦ (let h : size_below k X < size_below n X = size_grows k n X l t in
              let u : size_below r X ≤ size_below k X = size_up r k X g in
              let e : size_below r X ≡ r = size_all r X (λ m o. complement_out X m (all m o)) in
              absurd (omega arith))
          | inr f ↦ f ∙ sym (le-ltb k r g)
        ]
      ])
      | inl w ↦ elim (last_member n X) [
        | inr none ↦ (let e : size_below n X ≡ 0 = size-same n X (λ _. false) none ∙ size_none n in let l = w.1 in absurd (omega arith))
        | inl v ↦ elim (cases_lt v.0 r) [
          | inr g ↦ inr (
            w.0,
            v.0,
            w.1,
            g,
            v.1,
            record {
              last = v.2;
              within = v.3;
              lacks = complement_in X w.0 w.2;
              units = λ k l m. complement_out X k (w.3 k l m);
            },
          )
          | inl b ↦ (let e : size_below n X ≡ size_below r X = size_early r n X le (λ k l m. v.3 k (omega arith) m) in
              let h : size_below r X + size_below r (complement X) ≡ r = size_both r X in
              let g : size_below w.0 (complement X) < size_below r (complement X) = size_grows w.0 r (complement X) w.1 w.2 in
              absurd (omega arith))
        ]
      ]
    ]

-- ---- masks

-- the set of the first r of n numbers has the mask 2^r - 1
first_mask : (n r X : ℕ) → r ≤ n → X < 2 ^ n → ((k : ℕ) → k < n → members X k ≡ nat_lt k r) → X ≡ 2 ^ r - 1
first_mask n r X l b h =
    let e : mask n (λ j. nat_lt j r) + 1 ≡ 2 ^ r = mask_first n r l in
    let s : X ≡ mask n (λ j. nat_lt j r) = same_mask n X (mask n (λ j. nat_lt j r)) b (mask-below n (λ j. nat_lt j r))
    (λ j m. h j m ∙ sym (members-mask n (λ j. nat_lt j r) j m)) in
    omega arith

pub first_members : (n r : ℕ) → r ≤ n → (k : ℕ) → k < n → members (2 ^ r - 1) k ≡ nat_lt k r
first_members n r l k m =
    let e : mask n (λ j. nat_lt j r) + 1 ≡ 2 ^ r = mask_first n r l in
    let s : 2 ^ r - 1 ≡ mask n (λ j. nat_lt j r) = omega arith in
    ap (λ X. members X k) s ∙ members-mask n (λ j. nat_lt j r) k m

-- ---- a standard matrix that keeps the bases at each entry has exactly these bases

pub exact_by_entries : (q : ℕ) (N : Matroid) (M : Rep) → 0 < N.rank → IsBasedFirst N → IsStandardOver q N M →
    ((i j : ℕ) → i < N.rank → N.rank ≤ j → j < N.size → KeepsBasesAt N M i j) → Represents q N M
exact_by_entries q N M pos based over keeps = record {
  one_factor = over.one_factor;
  ranks = over.ranks;
  sizes = over.sizes;
  shaped = over.shaped;
  bases = record {
    rising = based.rising;
    exact = λ X. (
      (λ c. (subst (λ n. X < 2 ^ n) (sym over.sizes) (based.below X c), there X c)),
      (λ b. back X (subst (λ n. X < 2 ^ n) over.sizes b.0) b.1),
    );
  };
}
  where
    room : N.rank ≤ N.size
    room = let s = over.standard in let h : M.rank ≤ size M = s.room in let e : M.rank ≡ N.rank = over.ranks in
        let d : size M ≡ N.size = over.sizes in omega arith

    some : 0 < count M
    some = let one : count M ≡ 1 = ap (λ fs. length fs) over.one_factor in omega arith

    first : (X : ℕ) → ((k : ℕ) → k < N.size → members X k ≡ nat_lt k N.rank) → IsBasis M 0 (members X)
    first X h = IsBasis-same M 0 (λ j. nat_lt j M.rank) (members X)
        (λ j l. ap (nat_lt j) over.ranks ∙ sym (h j (subst (λ n. j < n) over.sizes l))) (units_basis M over.shaped over.standard 0 some)

    there : (X : ℕ) → Contains N.bases X → IsBasis M 0 (members X)
    there X c = elim (told_somewhere N.rank N.size (members X) room (based.of_rank X c)) [
      | inl h ↦ first X h
      | inr w ↦ (let (i, j, l, m, n, t) = w in let k = keeps i j l m n X (based.below X c) (based.of_rank X c) t in k.0 c)
    ]

    back : (X : ℕ) → X < 2 ^ N.size → IsBasis M 0 (members X) → Contains N.bases X
    back X l b =
        let full : size_below N.size (members X) ≡ N.rank = ap (λ n. size_below n (members X)) (sym over.sizes) ∙ b.full ∙ over.ranks in
        elim (told_somewhere N.rank N.size (members X) room full) [
          | inl h ↦ subst (Contains N.bases) (sym (first_mask N.size N.rank X room l h)) based.first
          | inr w ↦ (let (i, j, m, n, o, t) = w in let k = keeps i j m n o X l full t in k.1 b)
        ]

-- ---- what is given up holds none

pub same_shape : (q : ℕ) (N : Matroid) (M L : Rep) → IsStandardOver q N M → Represents q N L → shape L ≡ shape M
same_shape q N M L over p =
    λ t. record { factors = (p.one_factor ∙ sym over.one_factor) t; rank = (p.ranks ∙ sym over.ranks) t; size = (p.sizes ∙ sym over.sizes) t }

-- where L begins as M does, as far as row i of column j, M keeps the bases there
pub keeps_begun : (q : ℕ) (N : Matroid) (M L : Rep) (i j : ℕ) → 0 < N.rank → IsStandardOver q N M → N.rank ≤ j → j < N.size →
    Completes q N M (suc i) j L → KeepsBasesAt N M i j
keeps_begun q N M L i j pos over past below c X l full told =
    let p = c.represents in
    let some : count M ≡ 1 = ap (λ fs. length fs) over.one_factor in
    let e = p.bases.exact X in
    let b = base_told M L over.shaped p.shaped over.standard c.standard (same_shape q N M L over p) (omega arith) i j
    (subst (λ r. r ≤ j) (sym over.ranks) past) (subst (λ n. j < n) (sym over.sizes) below) c.begins (members X)
    (subst (λ r. IsToldAt r (size M) i j (members X)) (sym over.ranks) (subst (λ n. IsToldAt N.rank n i j (members X)) (sym over.sizes) told)) in
    ((λ h. let x = e.0 h in b.1 x.1), (λ h. e.1 (subst (λ n. X < 2 ^ n) (sym p.sizes) l, b.0 h)))

-- so it is none, where M doesn't keep them
pub none_begun : (q : ℕ) (N : Matroid) (M L : Rep) (i j : ℕ) → 0 < N.rank → IsStandardOver q N M → N.rank ≤ j → j < N.size →
    ¬ (KeepsBasesAt N M i j) → ¬ (Completes q N M (suc i) j L)
none_begun q N M L i j pos over past below other c = other (keeps_begun q N M L i j pos over past below c)
