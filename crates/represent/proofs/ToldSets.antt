-- The sets that are told at an entry, by their unit columns before its row and their later columns before its column.
use Rattle.std.proofs.Common.{◌≡◌, ℕ, suc, ◌+◌, ◌-◌, ◌*◌, ◌%◌, ◌^◌, ◌<◌, ◌≤◌, sym, ◌∙◌, ap, subst, arith, false, inl, inr, bit_or, max, lit<}
use Rattle.std.specs.Bool.{◌==◌}
use Rattle.std.specs.Int.{bit_at}
use Rattle.std.proofs.lemmas.Bool.{cases_lt, cases_eq}
use Rattle.std.proofs.lemmas.Nat.{pow_pos, or_lt, pow_below, shl_below, one_shl}
use Rattle.std.proofs.lemmas.Nat.Bits.{bit_at_or, bit_at_above, bit_at-zero, bit_at-pow_same, bit_at-pow_other, bit_at_cat_low, bit_at_cat_high, bit_at_mask_inside, bit_at_mask_below, bit_at_mask_above}
use Rattle.std.proofs.Math.Nat.{pow-le-pow_right, two-pow-succ, mod-eq_of_lt}
use Rattle.matroid_theory.specs.Matroid.{members}
use Rattle.matrix_lemmas.proofs.Masks.{mask, mask-below, members-mask}
use Rattle.dual_theory.specs.Represented.{IsToldAt}
use Rattle.matrix_lemmas.proofs.Masks.{same_mask}
use Rattle.represent.specs.declared.told.Place.{Place}
use Rattle.represent.specs.Kept.{IsToldWith}

-- a mask has no bit past its end
none_above : (X n k : ℕ) → X < 2 ^ n → n ≤ k → members X k ≡ false
none_above X n k l m = ap (λ b. b == 1) (bit_at_above X n k l m)

-- 2 shifted up in 16 bits
pub two_shl : (k : ℕ) → k < 15 → 2 * 2 ^ k % 65536 ≡ 2 ^ suc k
two_shl k l =
    let e : 2 ^ suc k ≡ 2 ^ k + 2 ^ k = two-pow-succ k in
    let m : 2 ^ suc k < 2 ^ 16 = pow_below (suc k) 16 (omega arith) in
    let n : 2 * 2 ^ k < 65536 = omega arith in
    mod-eq_of_lt n ∙ omega arith

module _ (r : ℕ) (place : Place) (inside : place.row < r) (past : r ≤ place.column) where
  -- there is one such set
  pub told_once : (units later X Y : ℕ) → IsToldWith r place units later X → IsToldWith r place units later Y → X ≡ Y
  told_once units later X Y x y = same_mask (place.column + 1) X Y x.below y.below at
    where
      at : (k : ℕ) → k < place.column + 1 → members X k ≡ members Y k
      at k l = elim (cases_lt k place.row) [
        | inl b ↦ x.before k b ∙ sym (y.before k b)
        | inr g ↦ elim (cases_eq k place.row) [
          | inl e ↦ ap (members X) e ∙ x.lacks ∙ sym (ap (members Y) e ∙ y.lacks)
          | inr ne ↦ elim (cases_lt k r) [
            | inl b ↦ x.after k (omega arith) b ∙ sym (y.after k (omega arith) b)
            | inr h ↦ elim (cases_lt k place.column) [
              | inl b ↦ x.others k h b ∙ sym (y.others k h b)
              | inr i ↦ (let e : k ≡ place.column = omega arith in ap (members X) e ∙ x.last ∙ sym (ap (members Y) e ∙ y.last))
            ]
          ]
        ]
      ]

  -- it is told at the place
  pub told_at : (n units later X : ℕ) → IsToldWith r place units later X → IsToldAt r n place.row place.column (members X)
  told_at n units later X x = record {
    last = x.last;
    within = λ k l _. none_above X (place.column + 1) k x.below (omega arith);
    lacks =
        x.lacks;
    units = x.after;
  }

  -- and each set that is told there is such a set
  pub told_with : (n X : ℕ) → place.column < n → X < 2 ^ n → IsToldAt r n place.row place.column (members X)
      → (units : ℕ) × (units < 2 ^ place.row) × (later : ℕ) × (later < 2 ^ (place.column - r)) × IsToldWith r place units later X
  told_with n X inside below t = (
    mask place.row (members X),
    mask-below place.row (members X),
    mask (place.column - r) (λ k. members X (r + k)),
    mask-below (place.column - r) (λ k. members X (r + k)),
    record {
      below = short;
      before = λ k l. sym (members-mask place.row (members X) k l);
      lacks = t.lacks;
      after = t.units;
      others = λ k g l. (let e : r + (k - r) ≡ k = omega arith in
          sym (members-mask (place.column - r) (λ k. members X (r + k)) (k - r) (omega arith) ∙ ap (members X) e));
      last = t.last;
    },
  )
    where
      part : ℕ
      part = mask (place.column + 1) (members X)

      same : (k : ℕ) → k < n → members X k ≡ members part k
      same k l = elim (cases_lt k (place.column + 1)) [
        | inl b ↦ sym (members-mask (place.column + 1) (members X) k b)
        | inr g ↦ t.within k (omega arith) l ∙ sym (none_above part (place.column + 1) k (mask-below (place.column + 1) (members X)) g)
      ]

      short : X < 2 ^ (place.column + 1)
      short =
          let b : part < 2 ^ (place.column + 1) = mask-below (place.column + 1) (members X) in
          let w : 2 ^ (place.column + 1) ≤ 2 ^ n = pow-le-pow_right (lit< tt) (omega arith) in
          let e : X ≡ part = same_mask n X part below (omega arith) same in
          omega arith

-- ---- the mask of such a set

module _ (r : ℕ) (place : Place) (inside : place.row < r) (past : r ≤ place.column) (units later : ℕ) (units_below : units < 2 ^ place.row)
    (later_below : later < 2 ^ (place.column - r)) where
  abbrev Told : ℕ
  Told = bit_or (bit_or (bit_or units (2 ^ r - 2 ^ suc place.row)) (later * 2 ^ r)) (2 ^ place.column)

  bits : (k : ℕ) → bit_at Told k ≡ max
      (max (max (bit_at units k) (bit_at (2 ^ r - 2 ^ suc place.row) k)) (bit_at (later * 2 ^ r) k)) (bit_at (2 ^ place.column) k)
  bits k =
      bit_at_or (bit_or (bit_or units (2 ^ r - 2 ^ suc place.row)) (later * 2 ^ r)) (2 ^ place.column) k
      ∙ ap (λ x. max x (bit_at (2 ^ place.column) k)) (bit_at_or (bit_or units (2 ^ r - 2 ^ suc place.row)) (later * 2 ^ r) k
      ∙ ap (λ x. max x (bit_at (later * 2 ^ r) k)) (bit_at_or units (2 ^ r - 2 ^ suc place.row) k))

  shifted_low : (k : ℕ) → k < r → bit_at (later * 2 ^ r) k ≡ 0
  shifted_low k l = let e : later * 2 ^ r ≡ later * 2 ^ r + 0 = omega arith in ap (λ x. bit_at x k) e ∙ bit_at_cat_low later r 0 k l ∙ bit_at-zero k

  shifted_high : (k : ℕ) → r ≤ k → bit_at (later * 2 ^ r) k ≡ bit_at later (k - r)
  shifted_high k g = let e : later * 2 ^ r ≡ later * 2 ^ r + 0 = omega arith in ap (λ x. bit_at x k) e ∙ bit_at_cat_high later r 0 k (pow_pos r) g

  is_bit : (k a : ℕ) → bit_at Told k ≡ a → members Told k ≡ (a == 1)
  is_bit k a e = ap (λ b. b == 1) e

  pub told_mask : IsToldWith r place units later Told
  told_mask = record {
    below = or_lt (place.column + 1) (bit_or (bit_or units (2 ^ r - 2 ^ suc place.row)) (later * 2 ^ r)) (2 ^ place.column)
        (or_lt (place.column + 1) (bit_or units (2 ^ r - 2 ^ suc place.row)) (later * 2 ^ r)
        (or_lt (place.column + 1) units (2 ^ r - 2 ^ suc place.row) units_short after_short) later_short) last_short;
    before = λ k l. is_bit k (bit_at units k) (
        let a : bit_at (2 ^ r - 2 ^ suc place.row) k ≡ 0 = bit_at_mask_below (suc place.row) r k (omega arith) in
        let s : bit_at (later * 2 ^ r) k ≡ 0 = shifted_low k (omega arith) in
        let p : bit_at (2 ^ place.column) k ≡ 0 = bit_at-pow_other place.column k (omega arith) in
        let b = bits k in omega arith);
    lacks = is_bit place.row 0 (
        let u : bit_at units place.row ≡ 0 = bit_at_above units place.row place.row units_below (omega arith) in
        let a : bit_at (2 ^ r - 2 ^ suc place.row) place.row ≡ 0 = bit_at_mask_below (suc place.row) r place.row (omega arith) in
        let s : bit_at (later * 2 ^ r) place.row ≡ 0 = shifted_low place.row inside in
        let p : bit_at (2 ^ place.column) place.row ≡ 0 = bit_at-pow_other place.column place.row (omega arith) in
        let b = bits place.row in omega arith);
    after = λ k g l. is_bit k 1 (
        let u : bit_at units k ≡ 0 = bit_at_above units place.row k units_below (omega arith) in
        let a : bit_at (2 ^ r - 2 ^ suc place.row) k ≡ 1 = bit_at_mask_inside (suc place.row) r k (omega arith) l in
        let s : bit_at (later * 2 ^ r) k ≡ 0 = shifted_low k l in
        let p : bit_at (2 ^ place.column) k ≡ 0 = bit_at-pow_other place.column k (omega arith) in
        let b = bits k in omega arith);
    others = λ k g l. is_bit k (bit_at later (k - r)) (
        let u : bit_at units k ≡ 0 = bit_at_above units place.row k units_below (omega arith) in
        let a : bit_at (2 ^ r - 2 ^ suc place.row) k ≡ 0 = bit_at_mask_above (suc place.row) r k g in
        let s : bit_at (later * 2 ^ r) k ≡ bit_at later (k - r) = shifted_high k g in
        let p : bit_at (2 ^ place.column) k ≡ 0 = bit_at-pow_other place.column k (omega arith) in
        let b = bits k in omega arith);
    last = is_bit place.column 1 (
        let u : bit_at units place.column ≡ 0 = bit_at_above units place.row place.column units_below (omega arith) in
        let a : bit_at (2 ^ r - 2 ^ suc place.row) place.column ≡ 0 = bit_at_mask_above (suc place.row) r place.column past in
        let s : bit_at (later * 2 ^ r) place.column ≡ bit_at later (place.column - r) = shifted_high place.column past in
        let z : bit_at later (place.column - r) ≡ 0 = bit_at_above later (place.column - r) (place.column - r) later_below (omega arith) in
        let p : bit_at (2 ^ place.column) place.column ≡ 1 = bit_at-pow_same place.column in
        let b = bits place.column in omega arith);
  }
    where
      units_short : units < 2 ^ (place.column + 1)
      units_short = let l : 2 ^ place.row < 2 ^ (place.column + 1) = pow_below place.row (place.column + 1) (omega arith) in omega arith

      after_short : 2 ^ r - 2 ^ suc place.row < 2 ^ (place.column + 1)
      after_short = let l : 2 ^ r < 2 ^ (place.column + 1) = pow_below r (place.column + 1) (omega arith) in omega arith

      later_short : later * 2 ^ r < 2 ^ (place.column + 1)
      later_short =
          let l : later * 2 ^ r < 2 ^ (place.column - r + r) = shl_below later (place.column - r) r later_below in
          let e : place.column - r + r ≡ place.column = omega arith in
          let d : 2 ^ (place.column - r + r) ≡ 2 ^ place.column = ap (λ n. 2 ^ n) e in
          let m : 2 ^ place.column < 2 ^ (place.column + 1) = pow_below place.column (place.column + 1) (omega arith) in
          omega arith

      last_short : 2 ^ place.column < 2 ^ (place.column + 1)
      last_short = pow_below place.column (place.column + 1) (omega arith)

  -- as 16 bits hold it
  pub told_value : r ≤ 6 → place.column < 16
      → IsToldWith r place units later
      (bit_or (bit_or (bit_or units (1 * 2 ^ r % 65536 - 2 * 2 ^ place.row % 65536)) (later * 2 ^ r % 65536)) (1 * 2 ^ place.column % 65536))
  told_value few width =
      subst (IsToldWith r place units later)
      (sym (λ t. bit_or (bit_or (bit_or units (one_shl r 16 (omega arith) t - two_shl place.row (omega arith) t)) (short t))
      (one_shl place.column 16 width t)))
      told_mask
    where
      short : later * 2 ^ r % 65536 ≡ later * 2 ^ r
      short =
          let l : later * 2 ^ r < 2 ^ (place.column - r + r) = shl_below later (place.column - r) r later_below in
          let e : place.column - r + r ≡ place.column = omega arith in
          let d : 2 ^ (place.column - r + r) ≡ 2 ^ place.column = ap (λ n. 2 ^ n) e in
          let m : 2 ^ place.column < 2 ^ 16 = pow_below place.column 16 width in
          mod-eq_of_lt (omega arith)
