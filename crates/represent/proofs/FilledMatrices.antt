-- Matrices of which the first entries are filled in.
use Rattle.std.proofs.Common.{◌≡◌, ℕ, zero, suc, ◌+◌, ◌-◌, ◌*◌, ◌/◌, ◌<◌, ◌≤◌, refl, sym, ◌∙◌, ap, subst, arith, cond, true, false, inl, inr, List, [], ◌∷◌, ◌++◌, map, length, length-append}
use Rattle.std.specs.Bool.{◌==◌}
use Rattle.std.specs.List.{range_with_len, slice_index, slice_index_or}
use Rattle.std.proofs.lemmas.Bool.{cases_lt, le-ltb, lt-ltb}
use Rattle.std.proofs.lemmas.List.FromFn.{get_or-map-range_with_len, length-map-range_with_len}
use Rattle.std.proofs.Math.Nat.{mod-lt}
use Rattle.std.proofs.Math.Seq.{get_or-append_seam}
use Rattle.std.proofs.Math.ListN.{get_or-append}
use Rattle.matroid_theory.specs.Field.{IsOrder, IsField}
use Rattle.matroid_theory.specs.Matrix.{unit}
use Rattle.matroid_theory.specs.Matroid.{members}
use Rattle.matroid_theory.specs.Rep.{shape, size, matrix, IsProductColumn, KeepsLimits}
use Rattle.matroid_theory.specs.Minor.{Matroid}
use Rattle.matrix_lemmas.proofs.FieldLaws.{field_laws}
use Rattle.matroid_laws.proofs.First.{row_below}
use Rattle.dual_theory.specs.Represented.{IsToldAt, AgreeBefore, IsStandardOver, KeepsBasesAt}
use Rattle.dual_theory.proofs.Told.{base_told}
use Rattle.dual_theory.proofs.Filling.{over_same}
use Rattle.represent.specs.Sought.{cells, IsSought}
use Rattle.represent.specs.Filled.{row_at, column_at, entry, filled, AreCodes}
use Rattle.represent.specs.Kept.{KeepsBefore, KeepsLast}
use Rattle.represent.proofs.Places.{place_is, place_before, place_until}

module _ (q : ℕ) (N : Matroid) (s : IsSought q N) where
  pub row_below_r : (p : ℕ) → row_at N.rank p < N.rank
  row_below_r p = mod-lt p s.rank_positive

  pub column_below : (p : ℕ) → p < cells N → column_at N.rank p < N.size
  column_below p l = let h : p / N.rank < N.size - N.rank = row_below p N.rank (N.size - N.rank) s.rank_positive l in omega arith

  pub size_filled : (codes : List ℕ) → size (filled q N codes) ≡ N.size
  size_filled codes = length-map-range_with_len _ 0 N.size

  column_filled : (codes : List ℕ) (k : ℕ) → k < N.size
      → slice_index_or (map (λ k. map (λ l. entry N.rank codes l k) (range_with_len 0 N.rank)) (range_with_len 0 N.size)) k [] ≡ map
      (λ l. entry N.rank codes l k) (range_with_len 0 N.rank)
  column_filled codes k l = get_or-map-range_with_len (λ k. map (λ l. entry N.rank codes l k) (range_with_len 0 N.rank)) 0 N.size k k [] l
      (omega arith)

  pub matrix_filled : (codes : List ℕ) (l k : ℕ) → l < N.rank → k < N.size → matrix (filled q N codes) 0 l k ≡ entry N.rank codes l k
  matrix_filled codes l k m o =
      ap (λ (c : List ℕ). slice_index c (l * 1 + 0)) (column_filled codes k o)
      ∙ get_or-map-range_with_len (λ l. entry N.rank codes l k) 0 N.rank (l * 1 + 0) l 0 (omega arith) (omega arith)

  F : IsField q
  F = field_laws q s.field

  unit_below : (i j : ℕ) → unit i j < q
  unit_below i j = let G = F in let t = G.two in elim (i == j) as (λ b. cond b 1 0 < q) [ true ↦ t | false ↦ omega arith ]

  pub entry_code : (codes : List ℕ) → AreCodes q N codes → (i j : ℕ) → i < N.rank → j < N.size → entry N.rank codes i j < q
  entry_code codes c i j l m = elim (cases_lt j N.rank) [
    | inl b ↦ subst (λ (x : ℕ). x < q)
        (sym (ap (λ b. cond b (unit i j) (slice_index codes ((j - N.rank) * N.rank + i))) (lt-ltb j N.rank b))) (unit_below i j)
    | inr g ↦ subst (λ (x : ℕ). x < q)
        (sym (ap (λ b. cond b (unit i j) (slice_index codes ((j - N.rank) * N.rank + i))) (le-ltb j N.rank g))) (code_at ((j - N.rank) * N.rank + i))
  ]
    where
      code_at : (p : ℕ) → slice_index codes p < q
      code_at p = elim (cases_lt p (length codes)) [
        | inl b ↦ c.below p b
        | inr g ↦ (let G = F in let t = G.two in subst (λ (x : ℕ). x < q) (sym (past_end codes p g)) (omega arith))
      ]
        where
          past_end : (xs : List ℕ) (p : ℕ) → length xs ≤ p → slice_index xs p ≡ 0
          past_end [] p g = refl
          past_end (x ∷ xs) zero g = absurd (omega arith)
          past_end (x ∷ xs) (suc p) g = past_end xs p (omega arith)

  -- a column may follow
  pub column_fits : (codes : List ℕ) → AreCodes q N codes → (j : ℕ) → j < N.size → (v : List ℕ)
      → v ≡ map (λ i. entry N.rank codes i j) (range_with_len 0 N.rank) → IsProductColumn (q ∷ []) N.rank v
  column_fits codes c j l v e = record {
    rows = ap (λ (xs : List ℕ). length xs) e ∙ length-map-range_with_len _ 0 N.rank ∙ omega arith;
    codes = λ i f m o. let z : 0 ≡ f = omega arith in
        subst (λ f. slice_index v (i * 1 + f) < slice_index (q ∷ []) f) z (subst (λ (x : ℕ). x < q) (sym (at i m)) (entry_code codes c i j m l));
  }
    where
      at : (i : ℕ) → i < N.rank → slice_index v (i * 1 + 0) ≡ entry N.rank codes i j
      at i m =
          ap (λ (xs : List ℕ). slice_index xs (i * 1 + 0)) e
          ∙ get_or-map-range_with_len (λ i. entry N.rank codes i j) 0 N.rank (i * 1 + 0) i 0 (omega arith) (omega arith)

  pub filled_over : (codes : List ℕ) → AreCodes q N codes → IsStandardOver q N (filled q N codes)
  filled_over codes c = record {
    one_factor = refl;
    ranks = refl;
    sizes = size_filled codes;
    shaped = record {
      orders = λ f l. let z : 0 ≡ f = omega arith in subst (λ f. IsOrder (slice_index (q ∷ []) f)) z s.field;
      lengths = λ j l. ap (λ (c : List ℕ). length c) (column_filled codes j (inside l)) ∙ length-map-range_with_len _ 0 N.rank ∙ omega arith;
      codes = λ f i j l m o. let z : 0 ≡ f = omega arith in
          subst (λ f. matrix (filled q N codes) f i j < slice_index (q ∷ []) f) z
          (subst (λ (x : ℕ). x < q) (sym (matrix_filled codes i j m (inside o))) (entry_code codes c i j m (inside o)));
    };
    standard = record {
      room = subst (λ (x : ℕ). N.rank ≤ x) (sym (size_filled codes)) s.room;
      units = λ f i j l m o. let z : 0 ≡ f = omega arith in let g : N.rank ≤ N.size = s.room in
          subst (λ f. matrix (filled q N codes) f i j ≡ unit i j) z
          (matrix_filled codes i j m (omega arith)
          ∙ ap (λ b. cond b (unit i j) (slice_index codes ((j - N.rank) * N.rank + i))) (lt-ltb j N.rank o));
    };
  }
    where
      inside : {j : ℕ} → j < size (filled q N codes) → j < N.size
      inside {j} l = subst (λ (x : ℕ). j < x) (size_filled codes) l

  pub filled_limits : (codes : List ℕ) → AreCodes q N codes → KeepsLimits (filled q N codes)
  filled_limits codes c = record {
    fields = record {
      some = omega arith;
      few = omega arith;
      fields = λ f l. let z : 0 ≡ f = omega arith in
          subst (λ f. IsOrder (slice_index (q ∷ []) f)) z s.field;
    };
    rank_positive = s.rank_positive;
    rank_most = s.rank_most;
    size_most = subst (λ (x : ℕ). x ≤ 16) (sym (size_filled codes)) s.size_most;
    shaped = (filled_over codes c).shaped;
  }

  -- ---- one more entry

  module _ (codes : List ℕ) (v : ℕ) (c : AreCodes q N codes) (room : length codes < cells N) (v_code : v < q) where
    abbrev longer : List ℕ
    longer = codes ++ v ∷ []

    pub longer_length : length longer ≡ suc (length codes)
    longer_length = omega (arith, length-append codes (v ∷ []))

    pub longer_codes : AreCodes q N longer
    longer_codes = record {
      few = (let e : length longer ≡ suc (length codes) = longer_length in omega arith);
      below = λ p l. elim (cases_lt p (length codes)) [
        | inl b ↦ subst (λ (x : ℕ). x < q) (sym (get_or-append codes (v ∷ []) 0 p b)) (c.below p b)
        | inr g ↦ (let k : length longer ≡ suc (length codes) = longer_length in let e : p ≡ length codes = omega arith in
            subst (λ (x : ℕ). x < q) (sym (ap (slice_index longer) e ∙ get_or-append_seam codes v [] 0)) v_code)
      ];
    }

    -- the entries filled in before stay
    pub longer_entry : (l k : ℕ) → l < N.rank → k < N.size → (N.rank ≤ k → (k - N.rank) * N.rank + l < length codes)
        → matrix (filled q N codes) 0 l k ≡ matrix (filled q N longer) 0 l k
    longer_entry l k m o h =
        matrix_filled codes l k m o
        ∙ elim (cases_lt k N.rank) [
          | inl b ↦ ap (λ b. cond b (unit l k) (slice_index codes ((k - N.rank) * N.rank + l))) (lt-ltb k N.rank b)
              ∙ sym (ap (λ b. cond b (unit l k) (slice_index longer ((k - N.rank) * N.rank + l))) (lt-ltb k N.rank b))
          | inr g ↦ ap (λ b. cond b (unit l k) (slice_index codes ((k - N.rank) * N.rank + l))) (le-ltb k N.rank g)
              ∙ sym (get_or-append codes (v ∷ []) 0 ((k - N.rank) * N.rank + l) (h g))
              ∙ sym (ap (λ b. cond b (unit l k) (slice_index longer ((k - N.rank) * N.rank + l))) (le-ltb k N.rank g))
        ]
        ∙ sym (matrix_filled longer l k m o)

    pub longer_agrees : AgreeBefore (filled q N codes) (filled q N longer) (row_at N.rank (length codes)) (column_at N.rank (length codes))
    longer_agrees l k m o w = longer_entry l k m (subst (λ (x : ℕ). k < x) (size_filled codes) o)
        (λ g. place_before N.rank s.rank_positive (length codes) l k m g w)

    pub longer_last : matrix (filled q N longer) 0 (row_at N.rank (length codes)) (column_at N.rank (length codes)) ≡ v
    longer_last =
        matrix_filled longer (row_at N.rank (length codes)) (column_at N.rank (length codes)) (row_below_r (length codes))
        (column_below (length codes) room)
        ∙ ap (λ b. cond b (unit (row_at N.rank (length codes)) (column_at N.rank (length codes)))
        (slice_index longer ((column_at N.rank (length codes) - N.rank) * N.rank + row_at N.rank (length codes))))
        (le-ltb (column_at N.rank (length codes)) N.rank (omega arith))
        ∙ ap (slice_index longer) (place_is N.rank s.rank_positive (length codes))
        ∙ get_or-append_seam codes v [] 0

  -- ---- what is kept

  pub shapes : (a b : List ℕ) → AreCodes q N a → AreCodes q N b → shape (filled q N b) ≡ shape (filled q N a)
  shapes a b c d = over_same q N (filled q N a) (filled q N b) (filled_over a c) (filled_over b d)

  -- matrices that agree as far as an entry both keep the bases there, or neither
  keeps_over : (a b : List ℕ) → AreCodes q N a → AreCodes q N b → (i j : ℕ) → N.rank ≤ j → j < N.size
      → AgreeBefore (filled q N a) (filled q N b) (suc i) j
      → KeepsBasesAt N (filled q N a) i j → KeepsBasesAt N (filled q N b) i j
  keeps_over a b c d i j past below h k X l full told =
      let A = filled_over a c in
      let B = filled_over b d in
      let t = base_told (filled q N a) (filled q N b) A.shaped B.shaped A.standard B.standard (shapes a b c d) (omega arith) i j past
      (subst (λ (x : ℕ). j < x) (sym (size_filled a)) below) h (members X)
      (subst (λ (x : ℕ). IsToldAt N.rank x i j (members X)) (sym (size_filled a)) told) in
      let e = k X l full told in
      ((λ x. t.0 (e.0 x)), (λ y. e.1 (t.1 y)))

  pub kept_longer : (codes : List ℕ) (v : ℕ) → AreCodes q N codes → length codes < cells N → v < q → KeepsBefore q N codes
      → KeepsLast q N (codes ++ v ∷ []) → KeepsBefore q N (codes ++ v ∷ [])
  kept_longer codes v c room w k last p l =
      let e : length (codes ++ v ∷ []) ≡ suc (length codes) = longer_length codes v c room w in
      elim (cases_lt p (length codes)) [
        | inl b ↦ keeps_over codes (codes ++ v ∷ []) c (longer_codes codes v c room w) (row_at N.rank p) (column_at N.rank p) (omega arith)
            (column_below p (omega arith))
            (λ l k m o h. longer_entry codes v c room w l k m (subst (λ (x : ℕ). k < x) (size_filled codes) o)
            (λ g. let t : (k - N.rank) * N.rank + l < suc p = place_until N.rank s.rank_positive p l k m g h in omega arith)) (k p b)
        | inr g ↦ (let z : length (codes ++ v ∷ []) - 1 ≡ p = omega arith in
            subst (λ p. KeepsBasesAt N (filled q N (codes ++ v ∷ [])) (row_at N.rank p) (column_at N.rank p)) z last)
      ]
