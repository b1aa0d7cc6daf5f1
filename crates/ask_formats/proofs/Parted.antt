-- Lists of one length with a word between two: how many words that is, and which word stands where.
use Rattle.std.proofs.Common.{◌≡◌, ℕ, zero, suc, ◌+◌, ◌*◌, ◌<◌, ◌≤◌, sym, ◌∙◌, ap, subst, arith, List, [], ◌∷◌, ◌++◌, length, length-append, inl, inr}
use Rattle.std.specs.List.{slice_index_or}
use Rattle.std.proofs.lemmas.Bool.{cases_lt}
use Rattle.std.proofs.lemmas.List.{ext_get_or, get_or_append_left, get_or-append-add}
use Rattle.formats.specs.Lines.{parted}

-- all have this length
abbrev pub AreEven : ℕ → List (List (List ℕ)) → Type 0
AreEven n groups = (f : ℕ) → f < length groups → length (slice_index_or groups f []) ≡ n

later : (n : ℕ) (x : List (List ℕ)) (groups : List (List (List ℕ))) → AreEven n (x ∷ groups) → AreEven n groups
later n x groups even f l = even (suc f) (omega arith)

module _ (sep : List ℕ) (n : ℕ) where
  pub parted-length : (groups : List (List (List ℕ))) → 0 < length groups → AreEven n groups → length (parted sep groups) + 1 ≡ length groups * suc n
  parted-length [] some even = absurd (omega arith)
  parted-length (x ∷ []) some even = let e : length x ≡ n = even 0 (omega arith) in omega arith
  parted-length (x ∷ y ∷ more) some even =
      let e : length x ≡ n = even 0 (omega arith) in
      let h : length (parted sep (y ∷ more)) + 1 ≡ length (y ∷ more) * suc n = parted-length (y ∷ more) (omega arith) (later n x (y ∷ more) even) in
      omega (arith, length-append x (sep ∷ parted sep (y ∷ more)))

  -- a word of the first list, the word behind it, and one of the others
  first_at : (x : List (List ℕ)) (rest : List (List ℕ)) (j : ℕ) → j < length x → slice_index_or (x ++ rest) j [] ≡ slice_index_or x j []
  first_at x rest j l = get_or_append_left x rest [] j l

  behind_at : (x : List (List ℕ)) (rest : List (List ℕ)) (k : ℕ) → length x ≡ n → slice_index_or (x ++ rest) (n + k) [] ≡ slice_index_or rest k []
  behind_at x rest k e = subst (λ (m : ℕ). slice_index_or (x ++ rest) (m + k) [] ≡ slice_index_or rest k []) e (get_or-append-add x rest k [])

  next_at : (x rest : List (List ℕ)) (f j : ℕ) → length x ≡ n → slice_index_or (x ++ sep ∷ rest) (suc f * suc n + j) [] ≡ slice_index_or rest (f * suc n + j) []
  next_at x rest f j e =
      let k : suc f * suc n + j ≡ n + suc (f * suc n + j) = omega arith in
      ap (λ (i : ℕ). slice_index_or (x ++ sep ∷ rest) i []) k ∙ behind_at x (sep ∷ rest) (suc (f * suc n + j)) e

  pub parted-at : (groups : List (List (List ℕ))) → AreEven n groups → (f j : ℕ) → f < length groups → j < n
      → slice_index_or (parted sep groups) (f * suc n + j) [] ≡ slice_index_or (slice_index_or groups f []) j []
  parted-at [] even f j l m = absurd (omega arith)
  parted-at (x ∷ []) even zero j l m = let k : zero * suc n + j ≡ j = omega arith in ap (λ (i : ℕ). slice_index_or x i []) k
  parted-at (x ∷ []) even (suc f) j l m = absurd (omega arith)
  parted-at (x ∷ y ∷ more) even zero j l m =
      let e : length x ≡ n = even 0 (omega arith) in
      let k : zero * suc n + j ≡ j = omega arith in
      ap (λ (i : ℕ). slice_index_or (x ++ sep ∷ parted sep (y ∷ more)) i []) k ∙ first_at x (sep ∷ parted sep (y ∷ more)) j (omega arith)
  parted-at (x ∷ y ∷ more) even (suc f) j l m =
      next_at x (parted sep (y ∷ more)) f j (even 0 (omega arith)) ∙ parted-at (y ∷ more) (later n x (y ∷ more) even) f j (omega arith) m

  pub parted-between : (groups : List (List (List ℕ))) → AreEven n groups → (f : ℕ) → f + 1 < length groups →
      slice_index_or (parted sep groups) (f * suc n + n) [] ≡ sep
  parted-between [] even f l = absurd (omega arith)
  parted-between (x ∷ []) even f l = absurd (omega arith)
  parted-between (x ∷ y ∷ more) even zero l =
      let k : zero * suc n + n ≡ n + 0 = omega arith in
      ap (λ (i : ℕ). slice_index_or (x ++ sep ∷ parted sep (y ∷ more)) i []) k ∙ behind_at x (sep ∷ parted sep (y ∷ more)) 0 (even 0 (omega arith))
  parted-between (x ∷ y ∷ more) even (suc f) l =
      next_at x (parted sep (y ∷ more)) f n (even 0 (omega arith)) ∙ parted-between (y ∷ more) (later n x (y ∷ more) even) f (omega arith)

  -- words with these at their places are the lists with the word between two
  pub parted-from : (groups : List (List (List ℕ))) (words : List (List ℕ)) → 0 < length groups → AreEven n groups → length words + 1 ≡ length groups * suc n
      → ((f j : ℕ) → f < length groups → j < n → slice_index_or words (f * suc n + j) [] ≡ slice_index_or (slice_index_or groups f []) j [])
      → ((f : ℕ) → f + 1 < length groups → slice_index_or words (f * suc n + n) [] ≡ sep) → words ≡ parted sep groups
  parted-from groups words some even total cells between =
      ext_get_or [] words (parted sep groups)
      (let h : length (parted sep groups) + 1 ≡ length groups * suc n = parted-length groups some even in omega arith) same
    where
      place : (k : ℕ) → (f : ℕ) × (j : ℕ) × (k ≡ f * suc n + j) × (j ≤ n)
      place zero = (0, 0, omega arith, omega arith)
      place (suc k) =
          let (f, j, e, l) = place k in
          elim (cases_lt j n) [
            | inl b ↦ (f, suc j, omega arith, omega arith)
            | inr g ↦ (suc f, 0, omega arith, omega arith)
          ]

      below : (f j k : ℕ) → k ≡ f * suc n + j → j ≤ n → k < length words → f < length groups
      below f j k e l m =
          elim (cases_lt f (length groups)) [
            | inl b ↦ b
            | inr g ↦ (let h : length groups * suc n ≤ f * suc n = more (length groups) f g in absurd (omega arith))
          ]
        where
          more : (a b : ℕ) → a ≤ b → a * suc n ≤ b * suc n
          more zero b g = omega arith
          more (suc a) zero g = absurd (omega arith)
          more (suc a) (suc b) g = let h : a * suc n ≤ b * suc n = more a b (omega arith) in omega arith

      same : (k : ℕ) → k < length words → slice_index_or words k [] ≡ slice_index_or (parted sep groups) k []
      same k l =
          let (f, j, e, m) = place k in
          let b : f < length groups = below f j k e m l in
          elim (cases_lt j n) [
            | inl c ↦ ap (λ (i : ℕ). slice_index_or words i []) e ∙ cells f j b c ∙ sym (parted-at groups even f j b c)
                ∙ ap (λ (i : ℕ). slice_index_or (parted sep groups) i []) (sym e)
            | inr g ↦ (let s : j ≡ n = omega arith in let e' : k ≡ f * suc n + n = omega arith in
                let d : f + 1 < length groups = not_last f k e' b l in
                ap (λ (i : ℕ). slice_index_or words i []) e' ∙ between f d ∙ sym (parted-between groups even f d)
                ∙ ap (λ (i : ℕ). slice_index_or (parted sep groups) i []) (sym e'))
          ]
        where
          not_last : (f k : ℕ) → k ≡ f * suc n + n → f < length groups → k < length words → f + 1 < length groups
          not_last f k e b l =
              elim (cases_lt (f + 1) (length groups)) [
                | inl c ↦ c
                | inr g ↦ (let s : length groups ≡ suc f = omega arith in
                    let t : length groups * suc n ≡ suc f * suc n = ap (λ (c : ℕ). c * suc n) s in absurd (omega arith))
              ]
