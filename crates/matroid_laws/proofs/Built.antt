-- Each ordered basis with powers and scalars gives an equivalent standard representation.
use Rattle.std.proofs.Common.{◌≡◌, ◌≢◌, ℕ, zero, suc, ◌+◌, ◌-◌, ◌*◌, ◌/◌, ◌%◌, ◌<◌, ◌≤◌, ◌⊎◌, refl, sym, ◌∙◌, ap, subst, arith, cond, not, Bool, true, false, List, [], map, length, inl, inr}
use Rattle.std.specs.Bool.{◌==◌, nat_lt}
use Rattle.std.specs.List.{range_with_len, slice_index, slice_index_or}
use Rattle.std.proofs.lemmas.Bool.{cases_lt, cases_eq, cases_Bool, le-ltb, lt-ltb}
use Rattle.std.proofs.lemmas.Nat.{div-mul-add, mod-mul-add, mul-add-lt}
use Rattle.std.proofs.lemmas.List.FromFn.{get_or-map-range_with_len, length-map-range_with_len}
use Rattle.matroid_theory.specs.Field.{IsField, IsOrder, times, inverse, degree, raised}
use Rattle.matroid_theory.specs.Matrix.{Matrix, combination, unit, AreInverse, size_below, IsIndependent}
use Rattle.matroid_theory.specs.Rep.{Rep, Shape, shape, matrix, order, count, size, IsShaped, IsStandard}
use Rattle.matroid_theory.specs.Matroid.{IsBasis, Agrees}
use Rattle.matroid_theory.specs.declared.Mode.{Mode}
use Rattle.matroid_theory.specs.Move.{Move, ArePermutation, AllowsPower, IsMove, moved, TakesTo, AreEquivalent}
use Rattle.matrix_lemmas.proofs.FieldLaws.{field_laws, off_from_not}
use Rattle.matrix_lemmas.proofs.Frobenius.{raised_below, inverse_raised}
use Rattle.matrix_lemmas.proofs.Sums.{sum_same, sum_times, sum_times_right, times_zero, zero_times, same_number, other_number}
use Rattle.matrix_lemmas.proofs.Dimension.{inverse_matrix}
use Rattle.matrix_lemmas.proofs.Masks.{IsBasis-same}
use Rattle.matrix_lemmas.proofs.Picked.{size_grows}
use Rattle.matrix_lemmas.proofs.Bases.{pick, pick_picks, size_most}
use Rattle.matroid_laws.proofs.Equivalence.{allowed_zero}
use Rattle.matroid_laws.proofs.Standard.{ordered_independent}

-- ---- the members of a set first, then the others

abbrev others : (ℕ → Bool) → ℕ → Bool
others S j = not (S j)

-- a set and the others have n numbers together
pub size_both : (n : ℕ) (S : ℕ → Bool) → size_below n S + size_below n (others S) ≡ n
size_both zero S = refl
size_both (suc n) S = let h : size_below n S + size_below n (others S) ≡ n = size_both n S in
    elim (S n) as (λ b. (size_below n S + cond b 1 0) + (size_below n (others S) + cond (not b) 1 0) ≡ suc n)
    [ true ↦ omega arith | false ↦ omega arith ]

abbrev members_first : ℕ → (ℕ → Bool) → ℕ → ℕ
members_first n S j = cond (nat_lt j (size_below n S)) (pick n S j) (pick n (others S) (j - size_below n S))

abbrev place_first : ℕ → (ℕ → Bool) → ℕ → ℕ
place_first n S x = cond (S x) (size_below x S) (size_below n S + size_below x (others S))

module _ (n : ℕ) (S : ℕ → Bool) where
  member_at : (j : ℕ) → j < size_below n S → members_first n S j ≡ pick n S j
  member_at j l = ap (λ b. cond b (pick n S j) (pick n (others S) (j - size_below n S))) (lt-ltb j (size_below n S) l)

  other_at : (j : ℕ) → size_below n S ≤ j → members_first n S j ≡ pick n (others S) (j - size_below n S)
  other_at j l = ap (λ b. cond b (pick n S j) (pick n (others S) (j - size_below n S))) (le-ltb j (size_below n S) l)

  place_in : (x : ℕ) → S x ≡ true → place_first n S x ≡ size_below x S
  place_in x t = ap (λ b. cond b (size_below x S) (size_below n S + size_below x (others S))) t

  place_out : (x : ℕ) → S x ≡ false → place_first n S x ≡ size_below n S + size_below x (others S)
  place_out x f = ap (λ b. cond b (size_below x S) (size_below n S + size_below x (others S))) f

  past : (j : ℕ) → j < n → size_below n S ≤ j → (j - size_below n S) < size_below n (others S)
  past j l g = let h : size_below n S + size_below n (others S) ≡ n = size_both n S in omega arith

  permuted : ArePermutation n (members_first n S) (place_first n S)
  permuted = record {
    below = λ j l. elim (cases_lt j (size_below n S)) [
      | inl b ↦ subst (λ (x : ℕ). x < n) (sym (member_at j b)) (let P = pick_picks n S in P.below j b)
      | inr g ↦ subst (λ (x : ℕ). x < n) (sym (other_at j g)) (let P = pick_picks n (others S) in P.below (j - size_below n S) (past j l g))
    ];
    inverse_below = λ x l. elim (cases_Bool (S x)) [
      | inl t ↦ (let h : size_below x S < size_below n S = size_grows x n S l t in let k : size_below n S ≤ n = size_most n S in
          subst (λ (y : ℕ). y < n) (sym (place_in x t)) (omega arith))
      | inr f ↦ (let h : size_below x (others S) < size_below n (others S) = size_grows x n (others S) l (ap not f) in
          let k : size_below n S + size_below n (others S) ≡ n = size_both n S in
          subst (λ (y : ℕ). y < n) (sym (place_out x f)) (omega arith))
    ];
    there = λ j l. elim (cases_lt j (size_below n S)) [
      | inl b ↦ (let P = pick_picks n S in ap (place_first n S) (member_at j b) ∙ place_in (pick n S j) (P.member j b) ∙ P.rank j b)
      | inr g ↦ (let P = pick_picks n (others S) in
          ap (place_first n S) (other_at j g) ∙ place_out (pick n (others S) (j - size_below n S)) (off_from_not _ (P.member (j - size_below n S) (past j l g)))
          ∙ ap (λ y. size_below n S + y) (P.rank (j - size_below n S) (past j l g)) ∙ omega arith)
    ];
    back = λ x l. elim (cases_Bool (S x)) [
      | inl t ↦ (let P = pick_picks n S in ap (members_first n S) (place_in x t) ∙ member_at (size_below x S) (size_grows x n S l t) ∙ P.place x l t)
      | inr f ↦ (let P = pick_picks n (others S) in let e : size_below n S + size_below x (others S) - size_below n S ≡ size_below x (others S) = omega arith in
          ap (members_first n S) (place_out x f) ∙ other_at (size_below n S + size_below x (others S)) (omega arith)
          ∙ ap (pick n (others S)) e ∙ P.place x l (ap not f))
    ];
  }

  -- the places below its size are those of the set
  first_places : (x : ℕ) → x < n → nat_lt (place_first n S x) (size_below n S) ≡ S x
  first_places x l =
      elim (cases_Bool (S x)) [
        | inl t ↦ ap (λ y. nat_lt y (size_below n S)) (place_in x t) ∙ lt-ltb (size_below x S) (size_below n S) (size_grows x n S l t) ∙ sym t
        | inr f ↦ ap (λ y. nat_lt y (size_below n S)) (place_out x f) ∙ le-ltb (size_below n S + size_below x (others S)) (size_below n S) (omega arith) ∙ sym f
      ]

-- ---- the representation of a shape with given codes

abbrev built_column : Shape → (ℕ → Matrix) → ℕ → List ℕ
built_column S B j = map (λ e. B (e % length S.factors) (e / length S.factors) j) (range_with_len 0 (S.rank * length S.factors))

abbrev pub built : Shape → (ℕ → Matrix) → Rep
built S B = record { factors = S.factors; rank = S.rank; columns = map (built_column S B) (range_with_len 0 S.size) }

module _ (S : Shape) (B : ℕ → Matrix) where
  pub size_built : size (built S B) ≡ S.size
  size_built = length-map-range_with_len (built_column S B) 0 S.size

  pub shape_built : shape (built S B) ≡ S
  shape_built = λ i. record { factors = S.factors; rank = S.rank; size = size_built i }

  column_built : (j : ℕ) → j < S.size → slice_index_or (map (built_column S B) (range_with_len 0 S.size)) j [] ≡ built_column S B j
  column_built j l = get_or-map-range_with_len (built_column S B) 0 S.size j j [] l (omega arith)

  pub matrix_built : (f i j : ℕ) → f < length S.factors → i < S.rank → j < S.size → matrix (built S B) f i j ≡ B f i j
  matrix_built f i j l m n =
      let b : i * length S.factors + f < length S.factors * S.rank = mul-add-lt i (length S.factors) f S.rank m l in
      let b' : i * length S.factors + f < S.rank * length S.factors = omega arith in
      ap (λ (c : List ℕ). slice_index c (i * length S.factors + f)) (column_built j n)
      ∙ get_or-map-range_with_len (λ e. B (e % length S.factors) (e / length S.factors) j) 0 (S.rank * length S.factors)
      (i * length S.factors + f) (i * length S.factors + f) 0 b' (omega arith)
      ∙ (λ t. B (mod-mul-add i (length S.factors) f l t) (div-mul-add i (length S.factors) f l t) j)

  pub shaped_built : ((f : ℕ) → f < length S.factors → IsOrder (slice_index S.factors f)) →
      ((f i j : ℕ) → f < length S.factors → i < S.rank → j < S.size → B f i j < slice_index S.factors f) → IsShaped (built S B)
  shaped_built fields codes = record {
    orders = fields;
    lengths = λ j l. ap (λ (c : List ℕ). length c) (column_built j (back l)) ∙ length-map-range_with_len _ 0 (S.rank * length S.factors);
    codes = λ f i j l m n. subst (λ (x : ℕ). x < slice_index S.factors f) (sym (matrix_built f i j l m (back n))) (codes f i j l m (back n));
  }
    where
      back : {j : ℕ} → j < size (built S B) → j < S.size
      back {j} l = subst (λ (x : ℕ). j < x) size_built l

-- ---- an inverse with its rows and columns scaled

module _ (q : ℕ) (F : IsField q) (r : ℕ) (A H : Matrix) (s : ℕ → ℕ) (codes : (i : ℕ) → i < r → s i < q) (nonzero : (i : ℕ) → i < r → s i ≢ 0)
    (H_code : (i j : ℕ) → i < r → j < r → H i j < q) (v : AreInverse q r A H) where
  abbrev scaled_rows : Matrix
  scaled_rows i k = times q (inverse q (s i)) (H i k)

  abbrev scaled_back : Matrix
  scaled_back i k = times q (A i k) (s k)

  -- the identity matrix scaled by s and back
  unit_scaled : (i j : ℕ) → i < r → j < r → times q (inverse q (s i)) (times q (unit i j) (s j)) ≡ unit i j
  unit_scaled i j l m =
      elim (cases_eq i j) [
        | inl e ↦ ap (λ b. times q (inverse q (s i)) (times q (cond b 1 0) (s j))) (ap (λ x. x == j) e ∙ same_number j)
            ∙ ap (times q (inverse q (s i))) (F.times_one (s j) (codes j m)) ∙ ap (λ x. times q (inverse q (s x)) (s j)) e
            ∙ F.times_comm (inverse q (s j)) (s j) ∙ F.times_inverse (s j) (codes j m) (nonzero j m)
            ∙ sym (ap (λ b. cond b 1 0) (ap (λ x. x == j) e ∙ same_number j))
        | inr ne ↦ ap (λ b. times q (inverse q (s i)) (times q (cond b 1 0) (s j))) (other_number i j ne)
            ∙ ap (times q (inverse q (s i))) (zero_times q F (s j)) ∙ times_zero q F (inverse q (s i))
            ∙ sym (ap (λ b. cond b 1 0) (other_number i j ne))
      ]

  scaled_inverse : AreInverse q r scaled_rows scaled_back
  scaled_inverse = record {
    right = λ i j l m.
        sum_same q F r (λ k. times q (times q (inverse q (s i)) (H i k)) (times q (A k j) (s j)))
        (λ k. times q (inverse q (s i)) (times q (times q (H i k) (A k j)) (s j))) (λ k _.
        F.times_assoc (inverse q (s i)) (H i k) (times q (A k j) (s j)) ∙ ap (times q (inverse q (s i))) (sym (F.times_assoc (H i k) (A k j) (s j))))
        ∙ sum_times q F r (inverse q (s i)) (λ k. times q (times q (H i k) (A k j)) (s j))
        ∙ ap (times q (inverse q (s i))) (sum_times_right q F r (s j) (λ k. times q (H i k) (A k j)) ∙ ap (λ x. times q x (s j)) (v.left i j l m))
        ∙ unit_scaled i j l m;
    left = λ i j l m.
        sum_same q F r (λ k. times q (times q (A i k) (s k)) (times q (inverse q (s k)) (H k j))) (λ k. times q (A i k) (H k j)) (λ k k'.
        F.times_assoc (A i k) (s k) (times q (inverse q (s k)) (H k j))
        ∙ ap (times q (A i k)) (sym (F.times_assoc (s k) (inverse q (s k)) (H k j))
        ∙ ap (λ x. times q x (H k j)) (F.times_inverse (s k) (codes k k') (nonzero k k')) ∙ F.times_one (H k j) (H_code k j k' m)))
        ∙ v.right i j l m;
  }

  -- the entries of the first columns
  scaled_entry : (i j : ℕ) → i < r → j < r → times q (s j) (combination q r scaled_rows (λ k. A k j) i) ≡ unit i j
  scaled_entry i j l m =
      F.times_comm (s j) (combination q r scaled_rows (λ k. A k j) i)
      ∙ sym (sum_times_right q F r (s j) (λ k. times q (scaled_rows i k) (A k j)))
      ∙ sum_same q F r (λ k. times q (times q (scaled_rows i k) (A k j)) (s j)) (λ k. times q (scaled_rows i k) (scaled_back k j))
      (λ k _. F.times_assoc (scaled_rows i k) (A k j) (s j))
      ∙ (let w = scaled_inverse in w.right i j l m)

-- ---- an ordered basis with powers and scalars gives an equivalent standard representation

module _ (mode : Mode) (M : Rep) (shaped : IsShaped M) (room : M.rank ≤ size M) (p u : ℕ → ℕ) (labels : ArePermutation (size M) p u) (s : ℕ → ℕ → ℕ) (t : ℕ → ℕ)
    (bases : (f : ℕ) → f < count M → IsIndependent (order M f) M.rank (size M) (matrix M f) (λ k. nat_lt (u k) M.rank))
    (scalars : (f j : ℕ) → f < count M → j < size M → s f j < order M f) (nonzero : (f j : ℕ) → f < count M → j < size M → s f j ≢ 0)
    (powers : (f : ℕ) → f < count M → t f < degree (order M f)) (allowed : (f : ℕ) → f < count M → AllowsPower mode (t f)) where
  inside : (j : ℕ) → j < M.rank → j < size M
  inside j l = omega arith

  abbrev basis_columns : ℕ → Matrix
  basis_columns f i l = matrix M f i (p l)

  abbrev raised_columns : ℕ → Matrix
  raised_columns f i l = raised (order M f) (t f) (matrix M f i (p l))

  field : (f : ℕ) → f < count M → IsField (order M f)
  field f l = field_laws (order M f) (shaped.orders f l)

  inverses : (f : ℕ) → f < count M → (H : Matrix) × ((i j : ℕ) → i < M.rank → j < M.rank → H i j < order M f)
      × AreInverse (order M f) M.rank (raised_columns f) H
  inverses f l =
      let (H, c, v) = inverse_matrix (order M f) (field f l) M.rank (basis_columns f) (λ i j m n. shaped.codes f i (p j) l m (labels.below j (inside j n)))
      (ordered_independent (order M f) (field f l) M.rank (size M) (matrix M f) p u room labels (bases f l)) in (
        (λ i j. raised (order M f) (t f) (H i j)),
        (λ i j m n. raised_below (order M f) (field f l) (t f) (H i j) (c i j m n)),
        inverse_raised (order M f) (field f l) (t f) M.rank (basis_columns f) H v,
      )

  -- the inverse of the raised columns of the basis in factor f, where there is a factor f
  abbrev at : (f : ℕ) → (f < count M) ⊎ (count M ≤ f) → Matrix
  at f (inl l) = (inverses f l).0
  at f (inr g) = unit

  at-codes : (f : ℕ) (c : (f < count M) ⊎ (count M ≤ f)) → f < count M → (i j : ℕ) → i < M.rank → j < M.rank → at f c i j < order M f
  at-codes f (inl l) _ = (inverses f l).1
  at-codes f (inr g) l = absurd (omega arith)

  at-inverse : (f : ℕ) (c : (f < count M) ⊎ (count M ≤ f)) → f < count M → AreInverse (order M f) M.rank (raised_columns f) (at f c)
  at-inverse f (inl l) m = (inverses f l).2
  at-inverse f (inr g) l = absurd (omega arith)

  abbrev standard_move : Move
  standard_move = record {
    power = t;
    rows = λ f i k. times (order M f) (inverse (order M f) (s f i)) (at f (cases_lt f (count M)) i k);
    back = λ f i k. times (order M f) (raised_columns f i k) (s f k);
    scalar = s;
    label = p;
    place = u;
  }

  standard_move-valid : IsMove mode (shape M) standard_move
  standard_move-valid = record {
    powers = powers;
    allowed = allowed;
    codes = λ f i k l _ _. let F = field f l in F.times_below _ _;
    back_codes = λ f i k l _ _. let F = field f l in F.times_below _ _;
    inverse = λ f l. scaled_inverse (order M f) (field f l) M.rank (raised_columns f) (at f (cases_lt f (count M))) (s f)
        (λ i m. scalars f i l (inside i m)) (λ i m. nonzero f i l (inside i m))
        (at-codes f (cases_lt f (count M)) l) (at-inverse f (cases_lt f (count M)) l);
    scalars = scalars;
    nonzero = nonzero;
    labels = labels;
  }

  abbrev standard_codes : ℕ → Matrix
  standard_codes = moved (shape M) (matrix M) standard_move

  standard_takes : TakesTo M standard_move (built (shape M) standard_codes)
  standard_takes = record {
    same_shape = shape_built (shape M) standard_codes;
    shaped = shaped_built (shape M) standard_codes shaped.orders (λ f i j l _ _. let F = field f l in F.times_below _ _);
    codes = matrix_built (shape M) standard_codes;
  }

  standard_result : IsStandard (built (shape M) standard_codes)
  standard_result = record {
    room = subst (λ (x : ℕ). M.rank ≤ x) (sym (size_built (shape M) standard_codes)) room;
    units = λ f i j l m n.
        matrix_built (shape M) standard_codes f i j l m (inside j n)
        ∙ scaled_entry (order M f) (field f l) M.rank (raised_columns f) (at f (cases_lt f (count M))) (s f)
        (λ i m. scalars f i l (inside i m)) (λ i m. nonzero f i l (inside i m))
        (at-codes f (cases_lt f (count M)) l) (at-inverse f (cases_lt f (count M)) l) i j m n;
  }

  -- a standard representation, and the move of these labels, scalars and powers that takes M to it
  pub standard_made : (N : Rep) × (m : Move) × IsStandard N × IsMove mode (shape M) m × TakesTo M m N × (m.label ≡ p) × (m.scalar ≡ s) × (m.power ≡ t)
  standard_made = (built (shape M) standard_codes, standard_move, standard_result, standard_move-valid, standard_takes, refl, refl, refl)

basis_room : (M : Rep) (S : ℕ → Bool) (f : ℕ) → IsBasis M f S → M.rank ≤ size M
basis_room M S f b = let h : size_below (size M) S ≤ size M = size_most (size M) S in let e : size_below (size M) S ≡ M.rank = b.full in omega arith

pub standard_each : (mode : Mode) (M : Rep) (p u : ℕ → ℕ) (s : ℕ → ℕ → ℕ) (t : ℕ → ℕ) → IsShaped M → 0 < count M → ArePermutation (size M) p u
    → ((f : ℕ) → f < count M → IsBasis M f (λ j. nat_lt (u j) M.rank))
    → ((f j : ℕ) → f < count M → j < size M → s f j < order M f) → ((f j : ℕ) → f < count M → j < size M → s f j ≢ 0)
    → ((f : ℕ) → f < count M → t f < degree (order M f)) → ((f : ℕ) → f < count M → AllowsPower mode (t f))
    → (N : Rep) × (m : Move) × IsStandard N × IsMove mode (shape M) m × TakesTo M m N × (m.label ≡ p) × (m.scalar ≡ s) × (m.power ≡ t)
standard_each mode M p u s t shaped some w b c n d a =
    standard_made mode M shaped (basis_room M (λ j. nat_lt (u j) M.rank) 0 (b 0 some)) p u w s t (λ f l. let h = b f l in h.independent) c n d a

pub standard_exists : (mode : Mode) (M : Rep) → IsShaped M → 0 < count M → Agrees M → (N : Rep) × IsStandard N × AreEquivalent mode M N
standard_exists mode M shaped some a =
    let (S, b) = a.some 0 some in
    let same : (k : ℕ) → k < size M → S k ≡ nat_lt (place_first (size M) S k) M.rank = λ k l. sym (first_places (size M) S k l)
    ∙ ap (nat_lt (place_first (size M) S k)) b.full in
    let (N, m, standard, valid, takes, _, _, _) = standard_each mode M (members_first (size M) S) (place_first (size M) S)
    (λ _ _. 1) (λ _. 0) shaped some (permuted (size M) S)
    (λ f l. IsBasis-same M f S (λ k. nat_lt (place_first (size M) S k) M.rank) same (a.same 0 f some l S b))
    (λ f j l _. let F = field_laws (order M f) (shaped.orders f l) in F.two) (λ f j _ _ e. absurd (omega arith))
    (λ f l. let F = field_laws (order M f) (shaped.orders f l) in F.degree_positive) (λ f l. allowed_zero mode) in
    (N, standard, record { shaped = shaped; move = m; valid = valid; takes = takes })
