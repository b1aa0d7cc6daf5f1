-- The first normalised column after a normalised column.
use Rattle.std.proofs.Common.{◌≡◌, ◌≢◌, ℕ, ◌+◌, ◌*◌, ◌/◌, ◌%◌, ◌<◌, ◌≤◌, ◌⊎◌, refl, sym, ◌∙◌, ap, subst, arith, List, [], length, slice_index, inl, inr}
use Rattle.std.specs.Cmp.Lexicographic.{slice_cmp}
use Rattle.std.specs.Ordering.{nat_cmp}
use Rattle.std.specs.declared.cmp.Ordering.TheVariants.{Less, Greater}
use Rattle.std.proofs.lemmas.Bool.{cases_lt, cases_eq}
use Rattle.std.proofs.lemmas.Nat.{div-mul-add, mod-mul-add, mul-add-lt}
use Rattle.std.proofs.Math.Nat.{mul-le-mul, le_refl}
use Rattle.matroid_theory.specs.Field.{IsFactors, IsField}
use Rattle.matroid_theory.specs.Rep.{IsProductColumn}
use Rattle.matroid_theory.specs.Level.{IsNormalised}
use Rattle.matrix_lemmas.proofs.FieldLaws.{order_most, field_laws}
use Rattle.matroid_laws.proofs.First.{whole, row_below}
use Rattle.extension.specs.Steps.{IsStart, CanRise, IsLastRise, IsLead, IsRaised, AgreeOnRows, IsNextNormalised, IsLastNormalised}
use Rattle.extension.proofs.Places.{DiffersAt, first_difference, differing_less, not_greater}

-- a place of an earlier row comes before a later row
pub row_before : (a b c f : ℕ) → a < b → f < c → a * c + f < b * c
row_before a b c f l m = let h : a * c + f < c * b = mul-add-lt a c f b l m in omega arith

module _ (factors : List ℕ) (fs : IsFactors factors) (rank : ℕ) where
  abbrev count : ℕ
  count = length factors

  two : (f : ℕ) → f < count → 1 < slice_index factors f
  two f l = let F : IsField (slice_index factors f) = field_laws (slice_index factors f) (fs.fields f l) in F.two

  -- the rows before the lead are zero, those of the lead are 1 if it is below the rank, and all factors have the same support
  record HasLead (lead : ℕ) (v : List ℕ) : Type 0 where
    most : lead ≤ rank
    zeros : (i f : ℕ) → i < lead → f < count → slice_index v (i * count + f) ≡ 0
    ones : lead < rank → (f : ℕ) → f < count → slice_index v (lead * count + f) ≡ 1
    support : (i f g : ℕ) → i < rank → f < count → g < count → slice_index v (i * count + f) ≡ 0 → slice_index v (i * count + g) ≡ 0
    below : (i f : ℕ) → i < rank → f < count → slice_index v (i * count + f) < slice_index factors f

  row_place : (i : ℕ) → i * count ≡ i * count + 0
  row_place i = omega arith

  empty_lead : (lead : ℕ) → IsLead count rank [] lead → HasLead lead []
  empty_lead lead h = record {
    most = h.most;
    zeros = λ i f l m. refl;
    ones = λ l. absurd (h.nonzero l refl);
    support = λ i f g l m o e. refl;
    below = λ i f l m. (let t : 1 < slice_index factors f = two f m in omega arith);
  }

  normalised_lead : (v : List ℕ) → (n : IsNormalised factors rank v) → HasLead n.lead v
  normalised_lead v n = record {
    most = (let l : n.lead < rank = n.lead_below in omega arith);
    zeros = n.zeros;
    ones = λ _. n.ones;
    support = n.support;
    below = (let c : IsProductColumn factors rank v = n.is_column in c.codes);
  }

  has_lead : (v : List ℕ) (lead : ℕ) → IsStart factors rank v → IsLead count rank v lead → HasLead lead v
  has_lead v lead s h = elim s [
    | inl e ↦ subst (λ (v : List ℕ). HasLead lead v) (sym e) (empty_lead lead (subst (λ (v : List ℕ). IsLead count rank v lead) e h))
    | inr n ↦ (let l : n.lead < rank = n.lead_below in elim (cases_lt lead n.lead) [
      | inl b ↦ (let m : lead < rank = omega arith in absurd (h.nonzero m (ap (slice_index v) (row_place lead) ∙ n.zeros lead 0 b fs.some)))
      | inr g ↦ elim (cases_lt n.lead lead) [
        | inl b ↦ (let z : slice_index v (n.lead * count + 0) ≡ 0 = ap (slice_index v) (sym (row_place n.lead)) ∙ h.zeros n.lead b in
            let o : slice_index v (n.lead * count + 0) ≡ 1 = n.ones 0 fs.some in absurd (omega arith))
        | inr k ↦ (let e : n.lead ≡ lead = omega arith in subst (λ (x : ℕ). HasLead x v) e (normalised_lead v n))
      ]
    ])
  ]

  -- the lead of a normalised column
  pub lead_of : (v : List ℕ) (lead : ℕ) → IsNormalised factors rank v → IsLead count rank v lead →
      (lead < rank) × ((f : ℕ) → f < count → slice_index v (lead * count + f) ≡ 1)
  lead_of v lead n h = elim (cases_lt lead rank) [
    | inl b ↦ (b, (let x = has_lead v lead (inr n) h in x.ones b))
    | inr g ↦ (let m : lead ≤ rank = h.most in let l : n.lead < rank = n.lead_below in
        let z : slice_index v (n.lead * count + 0) ≡ 0 = ap (slice_index v) (sym (row_place n.lead)) ∙ h.zeros n.lead (omega arith) in
        let o : slice_index v (n.lead * count + 0) ≡ 1 = n.ones 0 fs.some in absurd (omega arith))
  ]

  -- the code at a place, by its row and its factor
  at_place : (v : List ℕ) (p : ℕ) → slice_index v (p / count * count + p % count) ≡ slice_index v p
  at_place v p = ap (slice_index v) (whole p count fs.some)

  factor_below : (p : ℕ) → p % count < count
  factor_below p = let s : 0 < count = fs.some in omega arith

  -- the first place of a row that isn't the lead can rise where it is 0
  row_rises : (v : List ℕ) (lead i : ℕ) → i ≢ lead → slice_index v (i * count) ≡ 0 → CanRise factors lead v (i * count)
  row_rises v lead i ne z = record {
    apart = λ e. ne (sym (div-mul-add i count 0 fs.some) ∙ ap (λ p. p / count) (sym (row_place i)) ∙ e);
    first = λ _. ap (λ p. p % count) (row_place i) ∙ mod-mul-add i count 0 fs.some;
    below = λ n. absurd (n z);
  }

  -- the places of the first rows
  pub places_most : (rows : ℕ) → rows ≤ rank → rows * count ≤ rank * count
  places_most rows l = mul-le-mul l (le_refl count)

  -- where no place from m up to a width can rise, a normalised column that agrees before m is nowhere above before the width
  at_most : (v w : List ℕ) (lead m width : ℕ) → width ≤ rank * count → HasLead lead v → IsNormalised factors rank w →
      ((p : ℕ) → m ≤ p → p < width → ¬ (CanRise factors lead v p)) → ((p : ℕ) → p < m → slice_index v p ≡ slice_index w p) →
      (p : ℕ) → p < width → slice_index w p ≤ slice_index v p
  at_most v w lead m width most h n none same p l =
      elim (cases_lt p m) [
        | inl b ↦ (let e : slice_index v p ≡ slice_index w p = same p b in omega arith)
        | inr g ↦ elim (cases_eq (p / count) lead) [
          | inl e ↦ in_lead e
          | inr ne ↦ elim (cases_eq (slice_index v p) 0) [
            | inl z ↦ (let k : slice_index w p ≡ 0 = in_zero_row ne z in omega arith)
            | inr nz ↦ elim (cases_lt (slice_index v p + 1) (slice_index factors (p % count))) [
              | inl b ↦ absurd (none p g l (record { apart = ne; first = λ z. absurd (nz z); below = λ _. b }))
              | inr k ↦ (let c : IsProductColumn factors rank w = n.is_column in
                  let o : slice_index w p < slice_index factors (p % count) = subst (λ (x : ℕ). x < slice_index factors (p % count))
                  (at_place w p) (c.codes (p / count) (p % count) row (factor_below p)) in omega arith)
            ]
          ]
        ]
      ]
    where
      row : p / count < rank
      row = row_below p count rank fs.some (omega arith)

      zero_row : (i : ℕ) → i ≤ p / count → i ≢ lead → slice_index v (i * count) ≡ 0 → slice_index w (i * count) ≡ 0
      zero_row i r ne z = elim (cases_lt (i * count) m) [
        | inl b ↦ sym (same (i * count) b) ∙ z
        | inr g ↦ absurd (none (i * count) g
            (let k : i * count ≤ p / count * count = mul-le-mul r (le_refl count) in
            let e : p / count * count + p % count ≡ p = whole p count fs.some in omega arith) (row_rises v lead i ne z))
      ]

      in_zero_row : p / count ≢ lead → slice_index v p ≡ 0 → slice_index w p ≡ 0
      in_zero_row ne z =
          let a : slice_index v (p / count * count) ≡ 0 = ap (slice_index v) (row_place (p / count))
          ∙ h.support (p / count) (p % count) 0 row (factor_below p) fs.some (at_place v p ∙ z) in
          let b : slice_index w (p / count * count) ≡ 0 = zero_row (p / count) (le_refl (p / count)) ne a in
          sym (at_place w p) ∙ n.support (p / count) 0 (p % count) row fs.some (factor_below p) (ap (slice_index w) (sym (row_place (p / count))) ∙ b)

      in_lead : p / count ≡ lead → slice_index w p ≤ slice_index v p
      in_lead e =
          let r : lead < rank = subst (λ (x : ℕ). x < rank) e row in
          let o : slice_index v p ≡ 1 = sym (at_place v p) ∙ ap (λ x. slice_index v (x * count + p % count)) e ∙ h.ones r (p % count) (factor_below p) in
          elim (cases_lt n.lead lead) [
            | inl b ↦ (let z : slice_index w (n.lead * count) ≡ 0 = zero_row n.lead (omega arith) (λ e. absurd (omega arith))
                (ap (slice_index v) (row_place n.lead) ∙ h.zeros n.lead 0 b fs.some) in
                let k : slice_index w (n.lead * count) ≡ 1 = ap (slice_index w) (row_place n.lead) ∙ n.ones 0 fs.some in absurd (omega arith))
            | inr g ↦ elim (cases_lt lead n.lead) [
              | inl b ↦ (let z : slice_index w p ≡ 0 = sym (at_place w p) ∙ n.zeros (p / count) (p % count) (omega arith) (factor_below p) in omega arith)
              | inr k ↦ (let s : p / count ≡ n.lead = omega arith in
                  let z : slice_index w p ≡ 1 = sym (at_place w p) ∙ ap (λ x. slice_index w (x * count + p % count)) s
                  ∙ n.ones (p % count) (factor_below p) in omega arith)
            ]
          ]

  -- after the place that rises, the raised column is nowhere above a normalised column that isn't 0 at the place
  at_least : (v s w : List ℕ) (k : ℕ) → k < rank * count → IsRaised count (rank * count) k v s → IsNormalised factors rank w →
      slice_index w k ≢ 0 → (p : ℕ) → k < p → p < rank * count → slice_index s p ≤ slice_index w p
  at_least v s w k below r n nz p l m =
      elim (cases_eq (p / count) (k / count)) [
        | inr ne ↦ (let z : slice_index s p ≡ 0 = r.later_rows p l m ne in omega arith)
        | inl e ↦ (let o : slice_index s p ≡ 1 = r.in_row p l m e in
            elim (cases_eq (slice_index w p) 0) [
              | inr k ↦ omega arith
              | inl z ↦ absurd (nz (sym (at_place w k)
                  ∙ n.support (k / count) (p % count) (k % count) (row_below k count rank fs.some below) (factor_below p) (factor_below k)
                  (ap (λ x. slice_index w (x * count + p % count)) (sym e) ∙ at_place w p ∙ z)))
            ])
      ]

  -- ---- the raised column is normalised

  module _ (v s : List ℕ) (lead k : ℕ) (h : HasLead lead v) (below : k < rank * count) (c : CanRise factors lead v k)
      (r : IsRaised count (rank * count) k v s) where
    abbrev row : ℕ
    row = k / count

    row_rank : row < rank
    row_rank = row_below k count rank fs.some below

    split : row * count + k % count ≡ k
    split = whole k count fs.some

    earlier_row : (i f : ℕ) → i < row → f < count → slice_index s (i * count + f) ≡ slice_index v (i * count + f)
    earlier_row i f l m = r.before (i * count + f)
        (let b : i * count + f < row * count = row_before i row count f l m in let e : row * count + k % count ≡ k = split in omega arith)

    later_row : (i f : ℕ) → row < i → i < rank → f < count → slice_index s (i * count + f) ≡ 0
    later_row i f l m o =
        let b : row * count + k % count < i * count = row_before row i count (k % count) l (factor_below k) in
        let e : row * count + k % count ≡ k = split in
        let w : i * count + f < rank * count = row_before i rank count f m o in
        r.later_rows (i * count + f) (omega arith) w (λ c. let d : i ≡ row = sym (div-mul-add i count f o) ∙ c in absurd (omega arith))

    -- the codes of the row: those before the place, at the place and after it
    own_row : (f : ℕ) → f < count →
        ((f < k % count) × (slice_index s (row * count + f) ≡ slice_index v (row * count + f)))
        ⊎ (((f ≡ k % count) × (slice_index s (row * count + f) ≡ slice_index v k + 1)) ⊎ (slice_index s (row * count + f) ≡ 1))
    own_row f l =
        let e : row * count + k % count ≡ k = split in
        elim (cases_lt f (k % count)) [
          | inl b ↦ inl (b, r.before (row * count + f) (omega arith))
          | inr g ↦ elim (cases_lt (k % count) f) [
            | inr b ↦ (let d : f ≡ k % count = omega arith in let o : row * count + f ≡ k = omega arith in inr (inl (d, ap (slice_index s) o ∙ r.at)))
            | inl b ↦ inr (inr (r.in_row (row * count + f) (omega arith) (row_before row rank count f row_rank l) (div-mul-add row count f l)))
          ]
        ]

    -- the new code at the place
    new_below : slice_index v k + 1 < slice_index factors (k % count)
    new_below = elim (cases_eq (slice_index v k) 0) [
      | inl z ↦ (let t : 1 < slice_index factors (k % count) = two (k % count) (factor_below k) in omega arith)
      | inr n ↦ c.below n
    ]

    raised_code : (i f : ℕ) → i < rank → f < count → slice_index s (i * count + f) < slice_index factors f
    raised_code i f l m =
        let t : 1 < slice_index factors f = two f m in
        elim (cases_lt i row) [
          | inl b ↦ subst (λ (x : ℕ). x < slice_index factors f) (sym (earlier_row i f b m)) (h.below i f l m)
          | inr g ↦ elim (cases_lt row i) [
            | inl b ↦ (let z : slice_index s (i * count + f) ≡ 0 = later_row i f b l m in omega arith)
            | inr b ↦ (let e : row ≡ i = omega arith in subst (λ (x : ℕ). slice_index s (x * count + f) < slice_index factors f) e (in_row f m))
          ]
        ]
      where
        in_row : (f : ℕ) → f < count → slice_index s (row * count + f) < slice_index factors f
        in_row f m = elim (own_row f m) [
          | inl w ↦ subst (λ (x : ℕ). x < slice_index factors f) (sym w.1) (h.below row f row_rank m)
          | inr o ↦ elim o [
            | inl w ↦ subst (λ (x : ℕ). x < slice_index factors f) (sym w.1)
                (subst (λ (g : ℕ). slice_index v k + 1 < slice_index factors g) (sym w.0) new_below)
            | inr w ↦ (let t : 1 < slice_index factors f = two f m in omega arith)
          ]
        ]

    -- the row has no zero
    row_nonzero : (f : ℕ) → f < count → slice_index s (row * count + f) ≢ 0
    row_nonzero f l z = elim (own_row f l) [
      | inl w ↦ (let a : slice_index v (row * count + f) ≡ 0 = sym w.1 ∙ z in
          let b : slice_index v k ≡ 0 = sym (at_place v k) ∙ h.support row f (k % count) row_rank l (factor_below k) a in
          let d : k % count ≡ 0 = c.first b in
          let o : f < k % count = w.0 in
          absurd (omega arith))
      | inr o ↦ elim o [
        | inl w ↦ (let a : slice_index s (row * count + f) ≡ slice_index v k + 1 = w.1 in absurd (omega arith))
        | inr w ↦ absurd (omega arith)
      ]
    ]

    raised_support : (i f g : ℕ) → i < rank → f < count → g < count → slice_index s (i * count + f) ≡ 0 → slice_index s (i * count + g) ≡ 0
    raised_support i f g l m n z = elim (cases_lt i row) [
      | inl b ↦ earlier_row i g b n ∙ h.support i f g l m n (sym (earlier_row i f b m) ∙ z)
      | inr c ↦ elim (cases_lt row i) [
        | inl b ↦ later_row i g b l n
        | inr b ↦ (let e : i ≡ row = omega arith in absurd (row_nonzero f m (ap (λ x. slice_index s (x * count + f)) (sym e) ∙ z)))
      ]
    ]

    is_column : IsProductColumn factors rank s
    is_column = record { rows = r.rows; codes = raised_code }

    -- a row before the lead is zero, so it becomes 1
    new_lead : row < lead → (f : ℕ) → f < count → slice_index s (row * count + f) ≡ 1
    new_lead l f m =
        let z : slice_index v k ≡ 0 = sym (at_place v k) ∙ h.zeros row (k % count) l (factor_below k) in
        elim (own_row f m) [
          | inl w ↦ (let d : k % count ≡ 0 = c.first z in
              let o : f < k % count = w.0 in absurd (omega arith))
          | inr o ↦ elim o [
            | inl w ↦ (let a : slice_index s (row * count + f) ≡ slice_index v k + 1 = w.1 in omega arith)
            | inr w ↦ w
          ]
        ]

    raised_normalised : IsNormalised factors rank s
    raised_normalised = elim (cases_lt row lead) [
      | inl b ↦ record {
        is_column = is_column;
        lead = row;
        lead_below = row_rank;
        zeros = λ i f l m. earlier_row i f l m ∙ h.zeros i f (omega arith) m;
        ones = new_lead b;
        support = raised_support;
      }
      | inr g ↦ (
          let ne : row ≢ lead = c.apart in
          let b : lead < row = omega arith in
          let m : row < rank = row_rank in
          let o : lead < rank = omega arith in
          record {
            is_column = is_column;
            lead = lead;
            lead_below = o;
            zeros = λ i f l m. earlier_row i f (omega arith) m ∙ h.zeros i f l m;
            ones = λ f m. earlier_row lead f b m ∙ h.ones o f m;
            support = raised_support;
          })
    ]

  -- a code that can rise is small
  pub rise_small : (v : List ℕ) (lead k : ℕ) → CanRise factors lead v k → slice_index v k < 255
  rise_small v lead k c = elim (cases_eq (slice_index v k) 0) [
    | inl z ↦ omega arith
    | inr n ↦ (let b : slice_index v k + 1 < slice_index factors (k % count) = c.below n in
        let m : slice_index factors (k % count) ≤ 13 = order_most (slice_index factors (k % count)) (fs.fields (k % count) (factor_below k)) in omega arith)
  ]

  -- ---- the order

  pub normalised_length : (w : List ℕ) → IsNormalised factors rank w → length w ≡ rank * count
  normalised_length w n = let c : IsProductColumn factors rank w = n.is_column in c.rows

  -- where a normalised column comes after the column, there is a first difference
  start_difference : (v w : List ℕ) → IsStart factors rank v → IsNormalised factors rank w → slice_cmp nat_cmp v w ≡ Less → (d : ℕ) × DiffersAt v w d
  start_difference v w s n l = elim s [
    | inr m ↦ first_difference v w (normalised_length v m ∙ sym (normalised_length w n)) l
    | inl e ↦ subst (λ (v : List ℕ). (d : ℕ) × DiffersAt v w d) (sym e) (
      n.lead * count,
      record {
        place_below = (let b : n.lead * count + 0 < rank * count = row_before n.lead rank count 0 n.lead_below fs.some in
            let k : length w ≡ rank * count = normalised_length w n in omega arith);
        before = λ p m. sym (sym (at_place w p) ∙ n.zeros (p / count) (p % count) (row_below p count n.lead fs.some m) (factor_below p));
        lower = (let o : slice_index w (n.lead * count) ≡ 1 = ap (slice_index w) (row_place n.lead) ∙ n.ones 0 fs.some in omega arith);
      },
    )
  ]

  -- columns that differ in the first rows differ there first
  differs_early : (v w : List ℕ) (rows d : ℕ) → DiffersAt v w d → ¬ (AgreeOnRows count rows v w) → d < rows * count
  differs_early v w rows d x n = elim (cases_lt d (rows * count)) [
    | inl b ↦ b
    | inr g ↦ absurd (n (λ p l. x.before p (omega arith)))
  ]

  -- a column that comes later differs somewhere
  pub agree_nowhere : (v w : List ℕ) → IsStart factors rank v → IsNormalised factors rank w → slice_cmp nat_cmp v w ≡ Less → ¬ (AgreeOnRows count rank v w)
  agree_nowhere v w s n l a =
      let (d, x) = start_difference v w s n l in
      let b : d < length w = x.place_below in
      let m : length w ≡ rank * count = normalised_length w n in
      let e : slice_index v d ≡ slice_index w d = a d (omega arith) in
      let y : slice_index v d < slice_index w d = x.lower in
      omega arith

  -- where no place of the first rows can rise, no later column differs there
  pub last_normalised : (v : List ℕ) (lead rows : ℕ) → rows ≤ rank → IsStart factors rank v → IsLead count rank v lead →
      ((p : ℕ) → p < rows * count → ¬ (CanRise factors lead v p)) → IsLastNormalised factors rank rows v
  last_normalised v lead rows most s h none w n differ l =
      let (d, x) = start_difference v w s n l in
      let a : slice_index w d ≤ slice_index v d = at_most v w lead 0 (rows * count) (places_most rows most) (has_lead v lead s h) n (λ p _. none p)
      (λ p m. absurd (omega arith)) d (differs_early v w rows d x differ) in
      let b : slice_index v d < slice_index w d = x.lower in
      omega arith

  pub next_normalised : (v s : List ℕ) (lead k rows : ℕ) → rows ≤ rank → IsStart factors rank v → IsLead count rank v lead →
      IsLastRise factors (rows * count) lead v k → IsRaised count (rank * count) k v s → IsNextNormalised factors rank rows v s
  next_normalised v s lead k rows most start h last r = record {
    normalised = raised_normalised v s lead k (has_lead v lead start h) below last.can_rise r;
    after = differing_less k v s (elim start [ inl e ↦ inl (ap (λ (xs : List ℕ). length xs) e) | inr m ↦ inr (normalised_length v m ∙ sym r.rows) ]) (record {
      place_below = subst (λ (n : ℕ). k < n) (sym r.rows) below;
      before = λ p l. sym (r.before p l);
      lower = (let e : slice_index s k ≡ slice_index v k + 1 = r.at in omega arith);
    });
    first = λ w n differ l g.
        let (d, x) = start_difference v w start n l in
        let early : d < rows * count = differs_early v w rows d x differ in
        let b : d < length w = x.place_below in
        let m : length w ≡ rank * count = normalised_length w n in
        let o : length s ≡ length w = r.rows ∙ sym m in
        elim (cases_lt d k) [
          | inl c ↦ (let e : slice_cmp nat_cmp s w ≡ Less = differing_less d s w (inr o) (record {
            place_below = b;
            before = λ p t. r.before p (omega arith) ∙ x.before p t;
            lower = subst (λ (y : ℕ). y < slice_index w d) (sym (r.before d c)) x.lower;
          }) in
              let f : Less ≡ Greater = sym e ∙ g in cc)
          | inr c ↦ elim (cases_lt k d) [
            | inl t ↦ (
                let a : slice_index w d ≤ slice_index v d = at_most v w lead (k + 1) (rows * count) (places_most rows most)
                (has_lead v lead start h) n (λ p y. last.last p (omega arith)) (λ p y. x.before p (omega arith)) d early in
                let y : slice_index v d < slice_index w d = x.lower in
                absurd (omega arith))
            | inr t ↦ (
                let e : d ≡ k = omega arith in
                not_greater s w o (same_place w n (subst (λ (z : ℕ). DiffersAt v w z) e x)) g)
          ]
        ];
  }
    where
      below : k < rank * count
      below = let l : k < rows * count = last.place_below in let m : rows * count ≤ rank * count = places_most rows most in omega arith

      same_place : (w : List ℕ) → IsNormalised factors rank w → DiffersAt v w k → (p : ℕ) → p < length w → slice_index s p ≤ slice_index w p
      same_place w n x p l =
          let e : slice_index s k ≡ slice_index v k + 1 = r.at in
          let y : slice_index v k < slice_index w k = x.lower in
          elim (cases_lt p k) [
            | inl b ↦ (let z : slice_index s p ≡ slice_index w p = r.before p b ∙ x.before p b in omega arith)
            | inr c ↦ elim (cases_lt k p) [
              | inl b ↦ at_least v s w k below r n (λ z. absurd (omega arith)) p b
                  (let m : length w ≡ rank * count = normalised_length w n in omega arith)
              | inr b ↦ (let z : k ≡ p = omega arith in
                  subst (λ (z : ℕ). slice_index s z ≤ slice_index w z) z
                  (let q : slice_index v k + 1 ≤ slice_index w k = omega arith in subst (λ (u : ℕ). u ≤ slice_index w k) (sym e) q))
            ]
          ]
