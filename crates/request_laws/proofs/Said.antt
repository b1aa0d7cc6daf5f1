-- Whether the words of a line say something. Each number is below 10^9, and a line of some words names a matrix of fewer columns, so a search decides it.
use Rattle.std.proofs.Common.{◌≡◌, ℕ, ◌+◌, ◌^◌, ◌<◌, ◌≤◌, refl, ap, subst, arith, List, [], ◌∷◌, map, length, inl, inr, slice_index}
use Rattle.std.specs.Prelude.{flat_map}
use Rattle.std.specs.List.{AllByRecursion, range_with_len}
use Rattle.std.proofs.lemmas.List.{length-map}
use Rattle.matroid_theory.specs.Field.{orders, IsOrder, IsFactors}
use Rattle.matroid_theory.specs.declared.Mode.TheVariants.{Linear, Semilinear}
use Rattle.formats.specs.declared.refusal.PrintMode.TheVariants.{Forms, Counts}
use Rattle.formats.specs.Statement.{MinorName, Uniform, Fano, FanoDual, NonFano, KFour, KFive, ByMatrix, IsNumber, IsUniform, IsMatrix, IsMinorName}
use Rattle.formats.specs.Statement.{Statement, VersionIs, RankIs, FieldIs, SizeIs, EquivalenceIs, Forbids}
use Rattle.formats.specs.Statement.{ListsConnected, ListsThreeConnected, ListsCosimple, ListsDistinct, ListsWith, Prints}
use Rattle.formats.specs.Statement.{IsStatement, IsOfVersion, most_order, order_of_minor, column_word, spelling, Says}
use Rattle.existence.specs.Decided.{IsDecided}
use Rattle.existence.proofs.Deciding.{IsIn, along, both, less, at_most, equal, equal_lists, some_below, each_below, some_in, from_contains, place_of}
use Rattle.existence.proofs.Covers.{words, in_words, in_flat, in_range}
use Rattle.existence.proofs.AllReps.{small}
use Rattle.existence.proofs.Shaped.{order_decided}

-- ---- what may be said

each_decided : {X : Type 0} (P : X → Type 0) → ((x : X) → IsDecided (P x)) → (xs : List X) → IsDecided (AllByRecursion P xs)
each_decided P d [] = inl tt
each_decided P d (x ∷ xs) = along (both (d x) (λ _. each_decided P d xs)) (λ w. (w.0, w.1)) (λ w. (w.0, w.1))

factors_decided : (fs : List ℕ) → IsDecided (IsFactors fs)
factors_decided fs =
    along (both (less 0 (length fs)) (λ _. both (at_most (length fs) 3) (λ _. each_below (length fs) (λ f. IsOrder (slice_index fs f))
    (λ f _. order_decided (slice_index fs f)))))
    (λ w. record { some = w.0; few = w.1.0; fields = w.1.1 }) (λ w. (w.some, (w.few, w.fields)))

uniform_decided : (rank size : ℕ) → IsDecided (IsUniform rank size)
uniform_decided rank size =
    along (both (at_most rank size) (λ _. both (at_most 1 size) (λ _. less size (10 ^ 9)))) (λ w. record { low = w.0; some = w.1.0; short = w.1.1 })
    (λ w. (w.low, (w.some, w.short)))

matrix_decided : (order : ℕ) (columns : List (List ℕ)) → IsDecided (IsMatrix order columns)
matrix_decided order columns =
    along
    (both (order_decided order)
    (λ _. both (less 0 (length columns))
    (λ _. both (some_below 7 (λ rows. (1 ≤ rows) × AllByRecursion (λ column. length column ≡ rows) columns)
    (λ rows _. both (at_most 1 rows) (λ _. each_decided _ (λ column. equal (length column) rows) columns)))
    (λ _. each_decided _ (λ column. each_decided (λ code. code < order) (λ code. less code order) column) columns))))
    (λ w. record { is_order = w.0; some = w.1.0; height = (w.1.1.0.0, w.1.1.0.2.0, (let l = w.1.1.0.1 in omega arith), w.1.1.0.2.1); entries = w.1.1.1 })
    (λ w. (w.is_order, (w.some, ((w.height.0, (let l = w.height.2 in omega arith), (w.height.1, w.height.3)), w.entries))))

minor_name_decided : (minor : MinorName) → IsDecided (IsMinorName minor)
minor_name_decided (Uniform rank size) = uniform_decided rank size
minor_name_decided (ByMatrix order columns) = matrix_decided order columns
minor_name_decided _ = inl tt

statement_decided : (e : Statement) → IsDecided (IsStatement e)
statement_decided (VersionIs n) = less n (10 ^ 9)
statement_decided (RankIs n) = less n (10 ^ 9)
statement_decided (SizeIs n) = less n (10 ^ 9)
statement_decided (FieldIs factors) = factors_decided factors
statement_decided (Forbids minor) = minor_name_decided minor
statement_decided (ListsWith minor) = minor_name_decided minor
statement_decided _ = inl tt

version_decided : (version : ℕ) (e : Statement) → IsDecided (IsOfVersion version e)
version_decided version (VersionIs n) = equal n version
version_decided version (FieldIs factors) = each_decided _ (λ order. at_most order (most_order version)) factors
version_decided version (Forbids minor) = at_most (order_of_minor minor) (most_order version)
version_decided version (ListsWith minor) = at_most (order_of_minor minor) (most_order version)
version_decided version _ = inl tt

-- ---- lists of columns

-- the columns of at most 6 entries below 16
short_columns : List (List ℕ)
short_columns = flat_map (words (range_with_len 0 16)) (range_with_len 0 7)

-- what holds of all holds of an element
all_at : {X : Type 0} (P : X → Type 0) (xs : List X) → AllByRecursion P xs → (x : X) → IsIn x xs → P x
all_at P [] all x i = absurd i
all_at P (y ∷ ys) all x i = elim i [ inl e ↦ subst P e all.0 | inr j ↦ all_at P ys all.1 x j ]

-- each column of a matrix that may be named is among them
in_short : (order : ℕ) (columns : List (List ℕ)) → IsMatrix order columns → (column : List ℕ) → IsIn column columns → IsIn column short_columns
unfolding short_columns
in_short order columns w column i =
    let l : length column ≡ w.height.0 = all_at (λ (column : List ℕ). length column ≡ w.height.0) columns w.height.3 column i in
    let most = w.height.2 in
    let codes = all_at (AllByRecursion (λ code. code < order)) columns w.entries column i in
    in_flat (words (range_with_len 0 16)) w.height.0 column (range_with_len 0 7) (in_range 7 0 w.height.0 (omega arith) (omega arith))
    (in_words (range_with_len 0 16) w.height.0 column l (λ c j. (let b : c < order = all_at (λ code. code < order) column codes c j in
    let s : order < 16 = small order w.is_order in in_range 16 0 c (omega arith) (omega arith))))

module _ (version : ℕ) (line : List (List ℕ)) where
  one_said : (e : Statement) → IsDecided (Says version line e)
  one_said e =
      along (both (statement_decided e) (λ _. both (version_decided version e) (λ _. equal_lists (equal_lists equal) line (spelling e))))
      (λ w. record { may = w.0; of_version = w.1.0; spelled = w.1.1 }) (λ s. (s.may, (s.of_version, s.spelled)))

  -- ---- the lines that name a matroid

  module _ (made : MinorName → Statement) (named : (m : MinorName) → IsStatement (made m) → IsMinorName m) (long : (order : ℕ) (columns : List (List ℕ))
      → length columns ≤ length (spelling (made (ByMatrix order columns)))) where
    uniform_said : IsDecided ((rank : ℕ) × (rank < 10 ^ 9) × ((size : ℕ) × (size < 10 ^ 9) × Says version line (made (Uniform rank size))))
    uniform_said = some_below (10 ^ 9) _ (λ rank _. some_below (10 ^ 9) (λ size. Says version line (made (Uniform rank size)))
        (λ size _. one_said (made (Uniform rank size))))

    matrix_said : IsDecided ((order : ℕ) × (order < 16) × ((n : ℕ) × (n < length line + 1) ×
        ((columns : List (List ℕ)) × IsIn columns (words short_columns n) × Says version line (made (ByMatrix order columns)))))
    matrix_said = some_below 16 _ (λ order _. some_below (length line + 1) _ (λ n _. some_in (words short_columns n)
        (λ columns. Says version line (made (ByMatrix order columns))) (λ columns. one_said (made (ByMatrix order columns)))))

    -- no name of a matroid is said
    record NoName : Type 0 where
      uniform : ¬ ((rank : ℕ) × (rank < 10 ^ 9) × ((size : ℕ) × (size < 10 ^ 9) × Says version line (made (Uniform rank size))))
      fano : ¬ (Says version line (made Fano))
      fano_dual : ¬ (Says version line (made FanoDual))
      non_fano : ¬ (Says version line (made NonFano))
      k_four : ¬ (Says version line (made KFour))
      k_five : ¬ (Says version line (made KFive))
      matrix : ¬ ((order : ℕ) × (order < 16) × ((n : ℕ) × (n < length line + 1) × ((columns : List (List ℕ)) × IsIn columns
          (words short_columns n) × Says version line (made (ByMatrix order columns)))))

    none_said : NoName → (m : MinorName) → ¬ (Says version line (made m))
    none_said w (Uniform rank size) s = (let u = named (Uniform rank size) s.may in let l = u.low in let h = u.short in
        w.uniform (rank, omega arith, (size, h, s)))
    none_said w Fano s = w.fano s
    none_said w FanoDual s = w.fano_dual s
    none_said w NonFano s = w.non_fano s
    none_said w KFour s = w.k_four s
    none_said w KFive s = w.k_five s
    none_said w (ByMatrix order columns) s =
        let u = named (ByMatrix order columns) s.may in
        let e : length line ≡ length (spelling (made (ByMatrix order columns))) = ap (λ (l : List (List ℕ)). length l) s.spelled in
        let l : length columns ≤ length (spelling (made (ByMatrix order columns))) = long order columns in
        w.matrix (
          order,
          small order u.is_order,
          (
            length columns,
            omega arith,
            (
              columns,
              in_words short_columns (length columns) columns refl (in_short order columns u),
              s,
            ),
          ),
        )

    minor_said : IsDecided ((m : MinorName) × Says version line (made m))
    minor_said = elim uniform_said [
      | inl w ↦ inl (Uniform w.0 w.2.0, w.2.2)
      | inr n0 ↦ elim (one_said (made Fano)) [
        | inl s ↦ inl (Fano, s)
        | inr n1 ↦ elim (one_said (made FanoDual)) [
          | inl s ↦ inl (FanoDual, s)
          | inr n2 ↦ elim (one_said (made NonFano)) [
            | inl s ↦ inl (NonFano, s)
            | inr n3 ↦ elim (one_said (made KFour)) [
              | inl s ↦ inl (KFour, s)
              | inr n4 ↦ elim (one_said (made KFive)) [
                | inl s ↦ inl (KFive, s)
                | inr n5 ↦ elim matrix_said [
                  | inl w ↦ inl (ByMatrix w.0 w.2.2.0, w.2.2.2)
                  | inr n6 ↦ inr (λ w. none_said (record {
                    uniform = n0;
                    fano = n1;
                    fano_dual = n2;
                    non_fano = n3;
                    k_four = n4;
                    k_five = n5;
                    matrix = n6;
                  }) w.0 w.1)
                ]
              ]
            ]
          ]
        ]
      ]
    ]

  -- ---- the other lines

  -- the lines of one number
  number_said : (made : ℕ → Statement) → ((n : ℕ) → IsStatement (made n) → IsNumber n) → IsDecided ((n : ℕ) × Says version line (made n))
  number_said made small =
      along (some_below (10 ^ 9) (λ n. Says version line (made n)) (λ n _. one_said (made n))) (λ w. (w.0, w.2))
      (λ w. (w.0, small w.0 (let s = w.1 in s.may), w.1))

  -- the lines of one to three orders
  field_said : IsDecided ((fs : List ℕ) × Says version line (FieldIs fs))
  field_said =
      along (some_below 4 (λ n. (fs : List ℕ) × IsIn fs (words orders n) × Says version line (FieldIs fs))
      (λ n _. some_in (words orders n) (λ fs. Says version line (FieldIs fs)) (λ fs. one_said (FieldIs fs))))
      (λ w. (w.2.0, w.2.2))
      (λ w. (let s = w.1 in let m = s.may in let few = m.few in (
        length w.0,
        omega arith,
        (
          w.0,
          in_words orders (length w.0) w.0 refl (λ q i. (let at = place_of q 0 w.0 i in let o = m.fields at.0 at.1 in
              subst (λ (q : ℕ). IsIn q orders) at.2 (from_contains _ orders o.listed))),
          w.1,
        ),
      )))

  -- the words say no statement of any kind
  record NoneSaid : Type 0 where
    version_line : ¬ ((n : ℕ) × Says version line (VersionIs n))
    linear : ¬ (Says version line (EquivalenceIs Linear))
    semilinear : ¬ (Says version line (EquivalenceIs Semilinear))
    rank : ¬ ((n : ℕ) × Says version line (RankIs n))
    field : ¬ ((fs : List ℕ) × Says version line (FieldIs fs))
    size : ¬ ((n : ℕ) × Says version line (SizeIs n))
    forbids : ¬ ((m : MinorName) × Says version line (Forbids m))
    connected : ¬ (Says version line ListsConnected)
    three : ¬ (Says version line ListsThreeConnected)
    cosimple : ¬ (Says version line ListsCosimple)
    distinct : ¬ (Says version line ListsDistinct)
    has : ¬ ((m : MinorName) × Says version line (ListsWith m))
    prints_forms : ¬ (Says version line (Prints Forms))
    prints_counts : ¬ (Says version line (Prints Counts))

  -- so they say nothing
  nothing_said : NoneSaid → (e : Statement) → ¬ (Says version line e)
  nothing_said w (VersionIs n) s = w.version_line (n, s)
  nothing_said w (EquivalenceIs Linear) s = w.linear s
  nothing_said w (EquivalenceIs Semilinear) s = w.semilinear s
  nothing_said w (RankIs n) s = w.rank (n, s)
  nothing_said w (FieldIs fs) s = w.field (fs, s)
  nothing_said w (SizeIs n) s = w.size (n, s)
  nothing_said w (Forbids m) s = w.forbids (m, s)
  nothing_said w ListsConnected s = w.connected s
  nothing_said w ListsThreeConnected s = w.three s
  nothing_said w ListsCosimple s = w.cosimple s
  nothing_said w ListsDistinct s = w.distinct s
  nothing_said w (ListsWith m) s = w.has (m, s)
  nothing_said w (Prints Forms) s = w.prints_forms s
  nothing_said w (Prints Counts) s = w.prints_counts s

  -- kind by kind
  pub said_decided : IsDecided ((e : Statement) × Says version line e)
  said_decided = elim (number_said VersionIs (λ n m. m)) [
    | inl w ↦ inl (VersionIs w.0, w.1)
    | inr n0 ↦ elim (number_said RankIs (λ n m. m)) [
      | inl w ↦ inl (RankIs w.0, w.1)
      | inr n1 ↦ elim field_said [
        | inl w ↦ inl (FieldIs w.0, w.1)
        | inr n2 ↦ elim (number_said SizeIs (λ n m. m)) [
          | inl w ↦ inl (SizeIs w.0, w.1)
          | inr n3 ↦ elim (minor_said Forbids (λ m w. w) (λ order columns. (let e : length
              (map column_word columns) ≡ length columns = length-map columns column_word in omega arith))) [
                | inl w ↦ inl (Forbids w.0, w.1)
                | inr n4 ↦ elim (minor_said ListsWith (λ m w. w) (λ order columns. (let e : length
                    (map column_word columns) ≡ length columns = length-map columns column_word in omega arith))) [
                      | inl w ↦ inl (ListsWith w.0, w.1)
                      | inr n5 ↦ elim (one_said ListsConnected) [
                        | inl s ↦ inl (ListsConnected, s)
                        | inr n6 ↦ elim (one_said ListsThreeConnected) [
                          | inl s ↦ inl (ListsThreeConnected, s)
                          | inr n7 ↦ elim (one_said ListsCosimple) [
                            | inl s ↦ inl (ListsCosimple, s)
                            | inr n8 ↦ elim (one_said ListsDistinct) [
                              | inl s ↦ inl (ListsDistinct, s)
                              | inr n9 ↦ elim (one_said (Prints Forms)) [
                                | inl s ↦ inl (Prints Forms, s)
                                | inr n10 ↦ elim (one_said (Prints Counts)) [
                                  | inl s ↦ inl (Prints Counts, s)
                                  | inr n11 ↦ elim (one_said (EquivalenceIs Linear)) [
                                    | inl s ↦ inl (EquivalenceIs Linear, s)
                                    | inr n12 ↦ elim (one_said (EquivalenceIs Semilinear)) [
                                      | inl s ↦ inl (EquivalenceIs Semilinear, s)
                                      | inr n13 ↦ inr (λ w. nothing_said (record {
                                        version_line = n0;
                                        rank = n1;
                                        field = n2;
                                        size = n3;
                                        forbids = n4;
                                        has = n5;
                                        connected = n6;
                                        three = n7;
                                        cosimple = n8;
                                        distinct = n9;
                                        prints_forms = n10;
                                        prints_counts = n11;
                                        linear = n12;
                                        semilinear = n13;
                                      }) w.0 w.1)
                                    ]
                                  ]
                                ]
                              ]
                            ]
                          ]
                        ]
                      ]
                    ]
              ]
        ]
      ]
    ]
  ]
