-- The completions of the entries that are filled in.
use Rattle.std.proofs.Common.{◌≡◌, ◌⊎◌, ℕ, suc, ◌+◌, ◌-◌, ◌*◌, ◌/◌, ◌%◌, ◌<◌, ◌≤◌, ◌↔◌, sym, ◌∙◌, ap, subst, arith, cond, inl, inr, List, [], ◌∷◌, ◌++◌, length}
use Rattle.std.specs.List.{slice_index}
use Rattle.std.proofs.lemmas.Bool.{cases_lt, cases_eq, le-ltb}
use Rattle.std.proofs.lemmas.Nat.{mul-add-lt}
use Rattle.matroid_theory.specs.Matrix.{unit}
use Rattle.matroid_theory.specs.Rep.{Rep, count, size, matrix}
use Rattle.matroid_theory.specs.Minor.{Matroid}
use Rattle.matroid_laws.proofs.First.{whole}
use Rattle.dual_theory.specs.Represented.{Represents, IsLeastOver, IsStandardOver, KeepsBasesAt, Completes, IsLeastCompletion}
use Rattle.dual_theory.proofs.Searches.{exact_by_entries, none_begun}
use Rattle.dual_theory.proofs.Entries.{made_one}
use Rattle.dual_theory.proofs.Filling.{least_from_start, none_from_start, over_same, next_column, last_column, whole_least, entry_kept, least_of_entry}
use Rattle.dual_theory.proofs.Representations.{standard_represents}
use Rattle.represent.specs.Sought.{cells, IsSought}
use Rattle.represent.specs.Filled.{row_at, column_at, filled, AreCodes}
use Rattle.represent.specs.Kept.{KeepsBefore, KeepsLast}
use Rattle.represent.specs.Completions.{IsLeastWith, NoneWith, IsFree}
use Rattle.represent.proofs.Places.{row_of, column_of}
use Rattle.represent.proofs.FilledMatrices.{row_below_r, column_below, size_filled, matrix_filled, filled_over, longer_codes, longer_length, longer_agrees, longer_last}

module _ (q : ℕ) (N : Matroid) (s : IsSought q N) where
  -- a whole matrix that keeps the bases is the least that begins so
  pub whole_found : (codes : List ℕ) → AreCodes q N codes → length codes ≡ cells N → KeepsBefore q N codes → IsLeastWith q N codes codes
  whole_found codes c full k =
      subst (λ i. IsLeastCompletion q N (filled q N codes) i (column_at N.rank (length codes)) (filled q N codes)) (sym row_end)
      (subst (λ j. IsLeastCompletion q N (filled q N codes) 0 j (filled q N codes)) (size_filled q N s codes ∙ sym column_end)
      (whole_least q N (filled q N codes) (filled_over q N s codes c)
      (exact_by_entries q N (filled q N codes) s.rank_positive s.based (filled_over q N s codes c) at)))
    where
      plain : length codes ≡ (N.size - N.rank) * N.rank + 0
      plain = full ∙ omega arith

      row_end : row_at N.rank (length codes) ≡ 0
      row_end = ap (row_at N.rank) plain ∙ row_of N.rank s.rank_positive (N.size - N.rank) 0 s.rank_positive

      column_end : column_at N.rank (length codes) ≡ N.size
      column_end = ap (column_at N.rank) plain ∙ column_of N.rank s.rank_positive (N.size - N.rank) 0 s.rank_positive
          ∙ (let g : N.rank ≤ N.size = s.room in omega arith)

      at : (i j : ℕ) → i < N.rank → N.rank ≤ j → j < N.size → KeepsBasesAt N (filled q N codes) i j
      at i j l m o =
          let b : (j - N.rank) * N.rank + i < N.rank * (N.size - N.rank) = mul-add-lt (j - N.rank) N.rank i (N.size - N.rank) (omega arith) l in
          let d : N.rank * (N.size - N.rank) ≡ (N.size - N.rank) * N.rank = omega arith in
          let t : N.rank + (j - N.rank) ≡ j = omega arith in
          subst (λ i. KeepsBasesAt N (filled q N codes) i j) (row_of N.rank s.rank_positive (j - N.rank) i l)
          (subst (λ j'. KeepsBasesAt N (filled q N codes) (row_at N.rank ((j - N.rank) * N.rank + i)) j')
          (column_of N.rank s.rank_positive (j - N.rank) i l ∙ t)
          (k ((j - N.rank) * N.rank + i) (omega arith)))

  -- ---- the next place

  module _ (M : Rep) (over : IsStandardOver q N M) (p : ℕ) where
    same_column : suc (row_at N.rank p) < N.rank → (row_at N.rank (suc p) ≡ suc (row_at N.rank p)) × (column_at N.rank (suc p) ≡ column_at N.rank p)
    same_column l =
        let w : p / N.rank * N.rank + p % N.rank ≡ p = whole p N.rank s.rank_positive in
        let e : suc p ≡ p / N.rank * N.rank + suc (p % N.rank) = omega arith in (
          ap (row_at N.rank) e ∙ row_of N.rank s.rank_positive (p / N.rank) (suc (p % N.rank)) l,
          ap (column_at N.rank) e
              ∙ column_of N.rank s.rank_positive (p / N.rank) (suc (p % N.rank)) l,
        )

    other_column : suc (row_at N.rank p) ≡ N.rank → (row_at N.rank (suc p) ≡ 0) × (column_at N.rank (suc p) ≡ suc (column_at N.rank p))
    other_column l =
        let w : p / N.rank * N.rank + p % N.rank ≡ p = whole p N.rank s.rank_positive in
        let d : suc (p / N.rank) * N.rank ≡ p / N.rank * N.rank + N.rank = omega arith in
        let e : suc p ≡ suc (p / N.rank) * N.rank + 0 = omega arith in (
          ap (row_at N.rank) e ∙ row_of N.rank s.rank_positive (suc (p / N.rank)) 0 s.rank_positive,
          ap (column_at N.rank) e
              ∙ column_of N.rank s.rank_positive (suc (p / N.rank)) 0 s.rank_positive ∙ omega arith,
        )

    next_place : (L : Rep) →
        Completes q N M (suc (row_at N.rank p)) (column_at N.rank p) L ↔ Completes q N M (row_at N.rank (suc p)) (column_at N.rank (suc p)) L
    next_place L = elim (cases_lt (suc (row_at N.rank p)) N.rank) [
      | inl b ↦ (let (e, d) = same_column b in (
        (λ c. subst (λ j. Completes q N M (row_at N.rank (suc p)) j L) (sym d) (subst (λ i. Completes q N M i (column_at N.rank p) L) (sym e) c)),
        (λ c. subst (λ i. Completes q N M i (column_at N.rank p) L) e (subst (λ j. Completes q N M (row_at N.rank (suc p)) j L) d c)),
      ))
      | inr g ↦ (let z : suc (row_at N.rank p) ≡ N.rank = (let h : row_at N.rank p < N.rank = row_below_r q N s p in omega arith) in
          let (e, d) = other_column z in
          let f : suc (row_at N.rank p) ≡ M.rank = z ∙ sym over.ranks in (
            (λ c. subst (λ j. Completes q N M (row_at N.rank (suc p)) j L) (sym d)
                (subst (λ i. Completes q N M i (suc (column_at N.rank p)) L) (sym e)
                (next_column q N M over (column_at N.rank p) L (subst (λ i. Completes q N M i (column_at N.rank p) L) f c)))),
            (λ c. subst (λ i. Completes q N M i (column_at N.rank p) L) (sym f) (last_column q N M over (column_at N.rank p) L
                (subst (λ i. Completes q N M i (suc (column_at N.rank p)) L) e (subst (λ j. Completes q N M (row_at N.rank (suc p)) j L) d c)))),
          ))
    ]

  -- ---- one turn of the loop

  -- no completion has a code below this one at the next place
  abbrev pub NoneBelow : List ℕ → ℕ → Type 0
  NoneBelow codes v = (K : Rep) → Completes q N (filled q N codes) (row_at N.rank (length codes)) (column_at N.rank (length codes)) K
      → ¬ (matrix K 0 (row_at N.rank (length codes)) (column_at N.rank (length codes)) < v)

  module _ (codes : List ℕ) (v : ℕ) (c : AreCodes q N codes) (room : length codes < cells N) (v_code : v < q) where
    abbrev M : Rep
    M = filled q N codes

    abbrev M' : Rep
    M' = filled q N (codes ++ v ∷ [])

    abbrev i : ℕ
    i = row_at N.rank (length codes)

    abbrev j : ℕ
    j = column_at N.rank (length codes)

    over' : IsStandardOver q N M'
    over' = filled_over q N s (codes ++ v ∷ []) (longer_codes q N s codes v c room v_code)

    j_below : j < size M
    j_below = subst (λ (x : ℕ). j < x) (sym (size_filled q N s codes)) (column_below q N s (length codes) room)

    end : length (codes ++ v ∷ []) ≡ suc (length codes)
    end = longer_length q N s codes v c room v_code

    -- a completion with this code completes the longer codes
    with_code : (K : Rep) → Completes q N M i j K → matrix K 0 i j ≡ v → Completes q N M' (suc i) j K
    with_code K d e = entry_kept q N M (filled_over q N s codes c) M' over' i j (row_below_r q N s (length codes)) j_below
        (longer_agrees q N s codes v c room v_code) K d (e ∙ sym (longer_last q N s codes v c room v_code))

    -- where the longer codes have none, the next code has none below
    pub none_longer : NoneBelow codes v → NoneWith q N (codes ++ v ∷ []) → NoneBelow codes (v + 1)
    none_longer h none K d l = elim (cases_lt (matrix K 0 i j) v) [
      | inl b ↦ h K d b
      | inr g ↦ (let e : matrix K 0 i j ≡ v = omega arith in
          let x = next_place M' over' (length codes) K in
          none K (subst (λ p. Completes q N M' (row_at N.rank p) (column_at N.rank p) K) (sym end) (x.0 (with_code K d e))))
    ]

    -- so too where the bases aren't kept
    pub none_kept : NoneBelow codes v → ¬ (KeepsLast q N (codes ++ v ∷ [])) → NoneBelow codes (v + 1)
    none_kept h other K d l = elim (cases_lt (matrix K 0 i j) v) [
      | inl b ↦ h K d b
      | inr g ↦ (let e : matrix K 0 i j ≡ v = omega arith in
          let z : length codes ≡ length (codes ++ v ∷ []) - 1 = (let k : length (codes ++ v ∷ []) ≡ suc (length codes) = end in omega arith) in
          none_begun q N M' K i j s.rank_positive over' (omega arith) (column_below q N s (length codes) room)
          (λ k. other (subst (λ p. KeepsBasesAt N M' (row_at N.rank p) (column_at N.rank p)) z k)) (with_code K d e))
    ]

    -- and the least of the longer codes is the least
    pub found_longer : NoneBelow codes v → (w : List ℕ) → IsLeastWith q N (codes ++ v ∷ []) w → IsLeastWith q N codes w
    found_longer h w least =
        least_of_entry q N M (filled_over q N s codes c) M' over' i j (row_below_r q N s (length codes)) j_below
        (longer_agrees q N s codes v c room v_code) (filled q N w)
        (record {
          completes = (let x = next_place M' over' (length codes) (filled q N w) in
              x.1 (subst (λ p. Completes q N M' (row_at N.rank p) (column_at N.rank p) (filled q N w)) end least.completes));
          least = λ K d. least.least K (let x = next_place M' over' (length codes) K in
              subst (λ p. Completes q N M' (row_at N.rank p) (column_at N.rank p) K) (sym end) (x.0 d));
        })
        (λ K d l. h K d (subst (λ x. matrix K 0 i j < x) (longer_last q N s codes v c room v_code) l))

  -- each code is below the order
  pub none_left : (codes : List ℕ) → AreCodes q N codes → length codes < cells N → NoneBelow codes q → NoneWith q N codes
  none_left codes c room h K d =
      let p = d.represents in
      let one : count K ≡ 1 = ap (λ fs. length fs) p.one_factor in
      h K d (subst (λ fs. matrix K 0 (row_at N.rank (length codes)) (column_at N.rank (length codes)) < slice_index fs 0) p.one_factor
      (let t = p.shaped in t.codes 0 (row_at N.rank (length codes)) (column_at N.rank (length codes)) (omega arith)
      (subst (λ (x : ℕ). row_at N.rank (length codes) < x) (sym p.ranks) (row_below_r q N s (length codes)))
      (subst (λ (x : ℕ). column_at N.rank (length codes) < x) (sym p.sizes) (column_below q N s (length codes) room))))

  -- at a free entry the codes from 2 on need not be tried
  pub none_free : (codes : List ℕ) → AreCodes q N codes → length codes < cells N → IsFree N.rank codes → (v : ℕ) → 2 ≤ v
      → NoneBelow codes v → NoneWith q N codes
  none_free codes c room free v two h K d =
      elim (cases_eq (matrix K 0 i j) 0) [
        | inl z ↦ h K d (subst (λ (x : ℕ). x < v) (sym z) (omega arith))
        | inr ne ↦ (let over = filled_over q N s codes c in
            let e = over_same q N (filled q N codes) K over
            (record { one_factor = rep.one_factor; ranks = rep.ranks; sizes = rep.sizes; shaped = rep.shaped; standard = d.standard }) in
            let (L, m, one) = made_one q N (filled q N codes) K i j e (row_below_r q N s (length codes)) (omega arith)
            (subst (λ (x : ℕ). j < x) (sym (size_filled q N s codes)) (column_below q N s (length codes) room)) d ne zeros in
            h L m (subst (λ (x : ℕ). x < v) (sym one) (omega arith)))
      ]
    where
      i : ℕ
      i = row_at N.rank (length codes)

      j : ℕ
      j = column_at N.rank (length codes)

      rep : Represents q N K
      rep = d.represents

      later : (l k : ℕ) → l < N.rank → N.rank ≤ k → k < N.size → matrix (filled q N codes) 0 l k ≡ slice_index codes ((k - N.rank) * N.rank + l)
      later l k m g o = matrix_filled q N s codes l k m o
          ∙ ap (λ b. cond b (unit l k) (slice_index codes ((k - N.rank) * N.rank + l))) (le-ltb k N.rank g)

      zeros : ((l : ℕ) → l < i → matrix (filled q N codes) 0 l j ≡ 0) ⊎ ((k : ℕ) → N.rank ≤ k → k < j → matrix (filled q N codes) 0 i k ≡ 0)
      zeros = let b : row_at N.rank (length codes) < N.rank = row_below_r q N s (length codes) in
          let o : column_at N.rank (length codes) < N.size = column_below q N s (length codes) room in elim free [
            | inl x ↦ inl (λ l m. later l j (omega arith) (omega arith) o ∙ x l m)
            | inr y ↦ inr (λ k g m. later i k b g (omega arith) ∙ y k g m)
          ]

  -- ---- from the first entry

  first_place : (row_at N.rank 0 ≡ 0) × (column_at N.rank 0 ≡ N.rank)
  first_place =
      let z : 0 ≡ 0 * N.rank + 0 = omega arith in (
        ap (row_at N.rank) z ∙ row_of N.rank s.rank_positive 0 0 s.rank_positive,
        ap (column_at N.rank) z
            ∙ column_of N.rank s.rank_positive 0 0 s.rank_positive ∙ omega arith,
      )

  pub no_codes : AreCodes q N []
  no_codes = record { few = omega arith; below = λ p l. absurd (omega arith) }

  -- the least that begins with no codes is the least of all
  pub least_found : (whole : List ℕ) → IsLeastWith q N [] whole → IsLeastOver q N (filled q N whole)
  least_found whole least =
      let (e, d) = first_place in
      least_from_start q N (filled q N []) (filled_over q N s [] no_codes) (filled q N whole)
      (subst (λ j. IsLeastCompletion q N (filled q N []) 0 j (filled q N whole)) d
      (subst (λ i. IsLeastCompletion q N (filled q N []) i (column_at N.rank 0) (filled q N whole)) e least))

  -- and where there is none, no matrix has the bases
  pub none_found : NoneWith q N [] → (L : Rep) → ¬ (Represents q N L)
  none_found none L p =
      let (e, d) = first_place in
      let (K, standard, k) = standard_represents q N L p s.based.first s.room in
      none_from_start q N (filled q N []) (filled_over q N s [] no_codes)
      (λ P c. none P (subst (λ i. Completes q N (filled q N []) i (column_at N.rank 0) P) (sym e)
      (subst (λ j. Completes q N (filled q N []) 0 j P) (sym d) c)))
      K k standard
