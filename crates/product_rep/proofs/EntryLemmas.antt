-- A table whose entries are set within their ranges keeps them so.
use Rattle.std.proofs.Common.{◌≡◌, ◌≢◌, ◌<◌, ◌+◌, ◌*◌, ◌/◌, ℕ, List, length, refl, sym, ◌∙◌, ap, subst, arith, inl, inr, slice_index, slice_set}
use Rattle.std.specs.List.{refill}
use Rattle.std.proofs.lemmas.Grind.{common_steps}
use Rattle.std.proofs.lemmas.Bool.{cases_lt}
use Rattle.std.proofs.lemmas.List.{get_or-set_same, get_or-set_other, length-set}
use Rattle.std.proofs.lemmas.Nat.{div-mul-add}
use Rattle.matroid_theory.specs.Field.{degree}
use Rattle.matroid_theory.specs.Move.{MoveTable, row_place, scalar_place}
use Rattle.product_rep.specs.Tables.{KeepsMove}
use Rattle.product_rep.proofs.PiecesLemmas.{place_below}

-- an entry of a list in which one was set: below q, where the old entries are and the new one is at its own place
set_below : (xs : List ℕ) (p x j q : ℕ) → p < length xs → (p ≡ j → x < q) → slice_index xs j < q → slice_index (slice_set xs p x) j < q
set_below xs p x j q l new old =
    elim (cases_lt p j) [
      | inl b ↦ other (λ e. absurd (omega arith))
      | inr g ↦ elim (cases_lt j p) [
        | inl b ↦ other (λ e. absurd (omega arith))
        | inr k ↦ (let e : p ≡ j = omega arith in
            subst (λ (j : ℕ). slice_index (slice_set xs p x) j < q) e (subst (λ (y : ℕ). y < q) (sym (get_or-set_same xs p x 0 l)) (new e)))
      ]
    ]
  where
    other : j ≢ p → slice_index (slice_set xs p x) j < q
    other n = subst (λ (y : ℕ). y < q) (sym (get_or-set_other xs p j x 0 n)) old

-- an entry set in a list that was lent
pub set_in_place : (old now : List ℕ) (p x : ℕ) → now ≡ old → refill (length old) old (slice_set now p x) ≡ slice_set old p x
set_in_place old now p x e = whole (length old) old (slice_set now p x) refl (length-set now p x ∙ ap (λ (v : List ℕ). length v) e)
    ∙ ap (λ (v : List ℕ). slice_set v p x) e
  where
    whole : (n : ℕ) (old new : List ℕ) → n ≡ length old → length new ≡ length old → refill n old new ≡ new
    whole n old new e h = grind (arith, common_steps)

-- one place has one factor
factor_of_row : (r f i k g j m : ℕ) → i < r → k < r → j < r → m < r → (f * r + i) * r + k ≡ (g * r + j) * r + m → f ≡ g
factor_of_row r f i k g j m il kl jl ml e =
    sym (row f i k il kl) ∙ ap (λ (p : ℕ). p / r / r) e ∙ row g j m jl ml
  where
    row : (f i k : ℕ) → i < r → k < r → ((f * r + i) * r + k) / r / r ≡ f
    row f i k il kl = ap (λ (p : ℕ). p / r) (div-mul-add (f * r + i) r k kl) ∙ div-mul-add f r i il

factor_of_scalar : (n f j g k : ℕ) → j < n → k < n → f * n + j ≡ g * n + k → f ≡ g
factor_of_scalar n f j g k jl kl e = sym (div-mul-add f n j jl) ∙ ap (λ (p : ℕ). p / n) e ∙ div-mul-add g n k kl

module _ (t : MoveTable) (h : KeepsMove t) where
  row_room : (xs : List ℕ) (f i k : ℕ) → length xs ≡ length t.shape.factors * t.shape.rank * t.shape.rank →
      f < length t.shape.factors → i < t.shape.rank → k < t.shape.rank → row_place t.shape f i k < length xs
  row_room xs f i k e l m o = subst (λ (n : ℕ). row_place t.shape f i k < n) (sym e)
      (place_below (length t.shape.factors * t.shape.rank) t.shape.rank (f * t.shape.rank + i) k
      (place_below (length t.shape.factors) t.shape.rank f i l m) o)

  -- the codes of a list of matrices, one of which was set
  set_codes : (xs : List ℕ) (f i k x : ℕ) → length xs ≡ length t.shape.factors * t.shape.rank * t.shape.rank →
      f < length t.shape.factors → i < t.shape.rank → k < t.shape.rank → x < slice_index t.shape.factors f
      → ((f i k : ℕ) → f < length t.shape.factors → i < t.shape.rank → k < t.shape.rank →
      slice_index xs (row_place t.shape f i k) < slice_index t.shape.factors f)
      → (g j m : ℕ) → g < length t.shape.factors → j < t.shape.rank → m < t.shape.rank →
      slice_index (slice_set xs (row_place t.shape f i k) x) (row_place t.shape g j m) < slice_index t.shape.factors g
  set_codes xs f i k x e l m o b codes g j n gl jl nl =
      set_below xs (row_place t.shape f i k) x (row_place t.shape g j n) (slice_index t.shape.factors g) (row_room xs f i k e l m o)
      (λ s. subst (λ (f : ℕ). x < slice_index t.shape.factors f) (factor_of_row t.shape.rank f i k g j n m o jl nl s) b) (codes g j n gl jl nl)

  -- the tables that the setters make, where the place is computed from the fields
  pub rows_kept : (f i k x y p : ℕ) → f < length t.shape.factors → i < t.shape.rank → k < t.shape.rank →
      x < slice_index t.shape.factors f → y < slice_index t.shape.factors f → p ≡ row_place t.shape f i k
      → (rows back : List ℕ) → rows ≡ slice_set t.rows p x → back ≡ slice_set t.back p y → KeepsMove (record t { rows = rows; back = back })
  rows_kept f i k x y p l m o bx by e rows back re be =
      subst (λ (v : List ℕ). KeepsMove (record t { rows = v; back = back })) (sym re)
      (subst (λ (v : List ℕ). KeepsMove (record t { rows = slice_set t.rows p x; back = v })) (sym be)
      (subst (λ (p : ℕ). KeepsMove (record t { rows = slice_set t.rows p x; back = slice_set t.back p y })) (sym e) (record {
        fields = h.fields;
        rank_positive = h.rank_positive;
        rank_most = h.rank_most;
        size_most = h.size_most;
        powers = h.powers;
        powers_below = h.powers_below;
        rows = length-set t.rows (row_place t.shape f i k) x ∙ h.rows;
        back = length-set t.back (row_place t.shape f i k) y ∙ h.back;
        scalars = h.scalars;
        labels = h.labels;
        row_codes = set_codes t.rows f i k x h.rows l m o bx h.row_codes;
        back_codes = set_codes t.back f i k y h.back l m o by h.back_codes;
        scalar_codes = h.scalar_codes;
        label_columns = h.label_columns;
      })))

  pub power_kept : (f x : ℕ) → f < length t.shape.factors → x < degree (slice_index t.shape.factors f)
      → (powers : List ℕ) → powers ≡ slice_set t.powers f x → KeepsMove (record t { powers = powers })
  power_kept f x l b powers e = subst (λ (v : List ℕ). KeepsMove (record t { powers = v })) (sym e) (record {
    fields = h.fields;
    rank_positive = h.rank_positive;
    rank_most = h.rank_most;
    size_most = h.size_most;
    powers = length-set t.powers f x ∙ h.powers;
    powers_below = λ g k. set_below t.powers f x g (degree (slice_index t.shape.factors g)) (subst (λ (n : ℕ). f < n) (sym h.powers) l)
        (λ e. subst (λ (f : ℕ). x < degree (slice_index t.shape.factors f)) e b) (h.powers_below g k);
    rows = h.rows;
    back = h.back;
    scalars = h.scalars;
    labels = h.labels;
    row_codes = h.row_codes;
    back_codes = h.back_codes;
    scalar_codes = h.scalar_codes;
    label_columns = h.label_columns;
  })

  pub scalar_kept : (f j x p : ℕ) → f < length t.shape.factors → j < t.shape.size → x < slice_index t.shape.factors f → p ≡ scalar_place t.shape f j
      → (scalars : List ℕ) → scalars ≡ slice_set t.scalars p x → KeepsMove (record t { scalars = scalars })
  scalar_kept f j x p l m b e scalars se = subst (λ (v : List ℕ). KeepsMove (record t { scalars = v })) (sym se)
      (subst (λ (p : ℕ). KeepsMove (record t { scalars = slice_set t.scalars p x })) (sym e) (record {
        fields = h.fields;
        rank_positive = h.rank_positive;
        rank_most = h.rank_most;
        size_most = h.size_most;
        powers = h.powers;
        powers_below = h.powers_below;
        rows = h.rows;
        back = h.back;
        scalars = length-set t.scalars (scalar_place t.shape f j) x ∙ h.scalars;
        labels = h.labels;
        row_codes = h.row_codes;
        back_codes = h.back_codes;
        scalar_codes = λ g k gl kl. set_below t.scalars (scalar_place t.shape f j) x (scalar_place t.shape g k) (slice_index t.shape.factors g)
            (subst (λ (n : ℕ). scalar_place t.shape f j < n) (sym h.scalars) (place_below (length t.shape.factors) t.shape.size f j l m))
            (λ s. subst (λ (f : ℕ). x < slice_index t.shape.factors f) (factor_of_scalar t.shape.size f j g k m kl s) b) (h.scalar_codes g k gl kl);
        label_columns = h.label_columns;
      }))

  pub label_kept : (j x : ℕ) → j < t.shape.size → x < t.shape.size → KeepsMove (record t { labels = slice_set t.labels j x })
  label_kept j x l b = record {
    fields = h.fields;
    rank_positive = h.rank_positive;
    rank_most = h.rank_most;
    size_most = h.size_most;
    powers = h.powers;
    powers_below = h.powers_below;
    rows = h.rows;
    back = h.back;
    scalars = h.scalars;
    labels = length-set t.labels j x ∙ h.labels;
    row_codes = h.row_codes;
    back_codes = h.back_codes;
    scalar_codes = h.scalar_codes;
    label_columns = λ k m. set_below t.labels j x k t.shape.size (subst (λ (n : ℕ). j < n) (sym h.labels) l) (λ _. b) (h.label_columns k m);
  }
