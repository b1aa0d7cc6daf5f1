-- What a move makes of codes, columns and representations.
use Rattle.std.proofs.Common.{◌≡◌, ℕ, ◌+◌, ◌*◌, ◌/◌, ◌%◌, ◌<◌, ◌≤◌, refl, sym, ◌∙◌, ap, subst, arith, map, List, length}
use Rattle.std.specs.List.{slice_index}
use Rattle.std.proofs.lemmas.List.{get_or-map, length-map}
use Rattle.std.proofs.lemmas.List.FromFn.{get_or-map-range_with_len, length-map-range_with_len}
use Rattle.std.proofs.lemmas.Nat.{div-mul-add, mod-mul-add}
use Rattle.matroid_theory.specs.declared.Mode.TheVariants.{Semilinear}
use Rattle.matroid_theory.specs.Field.{times, raised, IsOrder, IsField}
use Rattle.matroid_theory.specs.Matrix.{sum_below}
use Rattle.matroid_theory.specs.Rep.{Rep, size, count, order, matrix, shape, column_of, KeepsLimits, IsProductColumn}
use Rattle.matroid_theory.specs.Move.{MoveTable, IsMove, moved, move_of, row_place, scalar_place}
use Rattle.matrix_lemmas.proofs.FieldLaws.{field_laws}
use Rattle.matrix_lemmas.proofs.Frobenius.{raised_below}
use Rattle.matrix_lemmas.proofs.Sums.{sum_same}
use Rattle.product_rep.proofs.PiecesLemmas.{place_below}

-- a code of a column of one factor, and how many there are
pub column-entry : (M : Rep) (f j k : ℕ) (xs : List ℕ) → xs ≡ column_of M f j → k < M.rank → slice_index xs k ≡ matrix M f k j
column-entry M f j k xs e l = ap (λ (xs : List ℕ). slice_index xs k) e ∙ get_or-map-range_with_len (λ i. matrix M f i j) 0 M.rank k k 0 l (omega arith)

pub column-length : (M : Rep) (f j : ℕ) (xs : List ℕ) → xs ≡ column_of M f j → length xs ≡ M.rank
column-length M f j xs e = ap (λ (xs : List ℕ). length xs) e ∙ length-map-range_with_len (λ i. matrix M f i j) 0 M.rank

-- a label is a column
pub label_below : (M : Rep) (t : MoveTable) (j l : ℕ) → IsMove Semilinear (shape M) (move_of t) → j < size M → l ≡ slice_index t.labels j → l < size M
label_below M t j l v b e = subst (λ (x : ℕ). x < size M) (sym e) (v.labels.below j b)

-- the codes of a column of one factor are below its order
pub column_codes : (M : Rep) (f j k q : ℕ) (xs : List ℕ) → KeepsLimits M → xs ≡ column_of M f j → q ≡ order M f → f < count M →
    k < M.rank → j < size M → slice_index xs k < q
column_codes M f j k q xs h e o l m n =
    subst (λ (q : ℕ). slice_index xs k < q) (sym o) (subst (λ (x : ℕ). x < order M f) (sym (column-entry M f j k xs e m)) (h.shaped.codes f k j l m n))

-- an entry of a raised column of one factor
raised-entry : (M : Rep) (f j k q p : ℕ) (xs : List ℕ) → xs ≡ map (raised q p) (column_of M f j) → k < M.rank → slice_index xs k ≡ raised q p (matrix M f k j)
raised-entry M f j k q p xs e l =
    ap (λ (xs : List ℕ). slice_index xs k) e
    ∙ get_or-map (raised q p) (column_of M f j) k 0 0 (subst (λ (n : ℕ). k < n) (sym (column-length M f j (column_of M f j) refl)) l)
    ∙ ap (raised q p) (column-entry M f j k (column_of M f j) refl l)

-- and how many there are
pub raised-length : (M : Rep) (f j q p : ℕ) (xs : List ℕ) → xs ≡ map (raised q p) (column_of M f j) → length xs ≡ M.rank
raised-length M f j q p xs e = ap (λ (xs : List ℕ). length xs) e ∙ length-map (column_of M f j) (raised q p) ∙ column-length M f j (column_of M f j) refl

-- and they are codes
pub raised_codes : (M : Rep) (f j k q p : ℕ) (xs : List ℕ) → KeepsLimits M → xs ≡ map (raised q p) (column_of M f j) →
    q ≡ order M f → f < count M → k < M.rank → j < size M → slice_index xs k < q
raised_codes M f j k q p xs h e o l m n =
    let F : IsField q = field_laws q (subst IsOrder (sym o) (h.fields.fields f l)) in
    subst (λ (x : ℕ). x < q) (sym (raised-entry M f j k q p xs e m))
    (raised_below q F p (matrix M f k j) (subst (λ (q : ℕ). matrix M f k j < q) (sym o) (h.shaped.codes f k j l m n)))

-- the scalar times the row times the raised column is the moved code
pub code-moved : (M : Rep) (t : MoveTable) (f i j q s p x l n : ℕ) (row column : List ℕ) → KeepsLimits M → f < count M →
    q ≡ order M f → s ≡ slice_index t.scalars (scalar_place t.shape f j) → p ≡ slice_index t.powers f → n ≡ M.rank →
    l ≡ slice_index t.labels j → ((k : ℕ) → k < M.rank → slice_index row k ≡ slice_index t.rows (row_place t.shape f i k)) →
    column ≡ map (raised q p) (column_of M f l) → x ≡ sum_below q n (λ k. times q (slice_index row k) (slice_index column k)) →
    times q s x ≡ moved (shape M) (matrix M) (move_of t) f i j
code-moved M t f i j q s p x l n row column h o qe se pe ne le re ce xe =
    ap (times q s) xe
    ∙ (λ u. times (qe u) (se u) (sum_below (qe u) (ne u) (λ k. times (qe u) (slice_index row k) (slice_index column k))))
    ∙ ap (times (order M f) (slice_index t.scalars (scalar_place t.shape f j)))
    (sum_same (order M f) (field_laws (order M f) (h.fields.fields f o)) M.rank
    (λ k. times (order M f) (slice_index row k) (slice_index column k))
    (λ k. times (order M f) (slice_index t.rows (row_place t.shape f i k))
    (raised (order M f) (slice_index t.powers f) (matrix M f k (slice_index t.labels j))))
    (λ k b. λ u. times (order M f) (re k b u) (entry k b u)))
  where
    entry : (k : ℕ) → k < M.rank → slice_index column k ≡ raised (order M f) (slice_index t.powers f) (matrix M f k (slice_index t.labels j))
    entry k b = raised-entry M f l k q p column ce b ∙ (λ u. raised (qe u) (pe u) (matrix M f k (le u)))

-- the codes of a column, row by row and factor by factor
pub code-at : (M : Rep) (t : MoveTable) (j n c r : ℕ) (xs : List ℕ) → c ≡ count M → r ≡ M.rank → r * c ≤ n →
    ((k : ℕ) → k < n → slice_index xs k ≡ moved (shape M) (matrix M) (move_of t) (k % c) (k / c) j) → (i f : ℕ) → i < M.rank →
    f < count M → slice_index xs (i * count M + f) ≡ moved (shape M) (matrix M) (move_of t) f i j
code-at M t j n c r xs ce re ne h i f l m =
    let b : i * count M + f < M.rank * count M = place_below M.rank (count M) i f l m in
    let e : r * c ≡ M.rank * count M = (λ u. re u * ce u) in
    subst (λ (c : ℕ). (k : ℕ) → k < n → slice_index xs k ≡ moved (shape M) (matrix M) (move_of t) (k % c) (k / c) j) ce h (i * count M + f) (omega arith)
    ∙ (λ u. moved (shape M) (matrix M) (move_of t) (mod-mul-add i (count M) f m u) (div-mul-add i (count M) f m u) j)

-- a moved column may follow
pub moved_column : (M P : Rep) (t : MoveTable) (j : ℕ) (v : List ℕ) → KeepsLimits M → P.factors ≡ M.factors → P.rank ≡ M.rank →
    length v ≡ M.rank * count M →
    ((i f : ℕ) → i < M.rank → f < count M → slice_index v (i * count M + f) ≡ moved (shape M) (matrix M) (move_of t) f i j) →
    IsProductColumn P.factors P.rank v
moved_column M P t j v h fe re l c =
    subst (λ (fs : List ℕ). IsProductColumn fs P.rank v) (sym fe) (subst (λ (r : ℕ). IsProductColumn M.factors r v) (sym re) (record {
      rows = l;
      codes = λ i f m o. subst (λ (x : ℕ). x < order M f) (sym (c i f m o)) ((field_laws (order M f) (h.fields.fields f o)).times_below _ _);
    }))
