-- The words of a representation, place by place, and that they tell it.
use Rattle.std.proofs.Common.{◌≡◌, ◌≢◌, ℕ, zero, suc, ◌+◌, ◌-◌, ◌*◌, ◌<◌, ◌≤◌, sym, ◌∙◌, ap, subst, arith, List, [], ◌∷◌, ◌++◌, map, length, take, drop, inl, inr}
use Rattle.std.specs.Prelude.{codes, decimal}
use Rattle.std.specs.List.{slice_index, slice_index_or}
use Rattle.std.proofs.lemmas.Bool.{cases_lt}
use Rattle.std.proofs.lemmas.Fmt.{decimal_injective}
use Rattle.std.proofs.lemmas.List.{ext_get_or, get_or-map, length-map, get_or_append_left, get_or-append-add, get_or-take, get_or-drop, length-take-le, length-drop, take-append-drop}
use Rattle.std.proofs.lemmas.List.FromFn.{get_or-map-range_with_len, length-map-range_with_len}
use Rattle.std.proofs.Common.{length-append}
use Rattle.matroid_theory.specs.Field.{IsFactors}
use Rattle.matroid_theory.specs.Rep.{Rep, count, size, matrix, order, column_of}
use Rattle.matroid_laws.proofs.First.{same_codes}
use Rattle.formats.specs.Statement.{column_word}
use Rattle.formats.specs.Levels.{columns_of, columns_of_factor}
use Rattle.formats.proofs.Unique.{order_small, letter_same}
use Rattle.ask_formats.specs.Question.{field_words, form_words, representation_words, CanBeSpelled}
use Rattle.ask_formats.specs.Places.{word_at, column_place, IsOrderCount, AreReadAsFactors, AreReadAsColumns, IsReadAsEntry, IsReadAs}
use Rattle.ask_formats.proofs.Parted.{AreEven, parted-length, parted-at, parted-between, parted-from}
use Rattle.ask_formats.proofs.Letters.{letter_not_x, word-length, letter-at, word-from}

abbrev order_groups : List ℕ → List (List (List ℕ))
order_groups orders = map (λ order. decimal order ∷ []) orders

abbrev column_groups : Rep → List (List (List ℕ))
column_groups M = map (map column_word) (columns_of M)

-- ---- the lists with the words between

order_group : (orders : List ℕ) (f : ℕ) → f < length orders → slice_index_or (order_groups orders) f [] ≡ decimal (slice_index orders f) ∷ []
order_group orders f l = get_or-map (λ (order : ℕ). decimal order ∷ []) orders f 0 [] l

orders_even : (orders : List ℕ) → AreEven 1 (order_groups orders)
orders_even orders f l =
    ap (λ (g : List (List ℕ)). length g) (order_group orders f (subst (λ (n : ℕ). f < n) (length-map orders (λ (order : ℕ). decimal order ∷ [])) l))

orders_many : (orders : List ℕ) → length (order_groups orders) ≡ length orders
orders_many orders = length-map orders (λ (order : ℕ). decimal order ∷ [])

columns_many : (M : Rep) → length (column_groups M) ≡ count M
columns_many M = length-map (columns_of M) (map column_word) ∙ length-map-range_with_len (columns_of_factor M) 0 (count M)

column_group : (M : Rep) (f : ℕ) → f < count M → slice_index_or (column_groups M) f [] ≡ map column_word (columns_of_factor M f)
column_group M f l =
    get_or-map (map column_word) (columns_of M) f [] [] (subst (λ (n : ℕ). f < n) (sym (length-map-range_with_len (columns_of_factor M) 0 (count M))) l)
    ∙ ap (map column_word) (get_or-map-range_with_len (columns_of_factor M) 0 (count M) f f [] l (omega arith))

columns_even : (M : Rep) → AreEven (size M) (column_groups M)
columns_even M f l =
    ap (λ (g : List (List ℕ)). length g) (column_group M f (subst (λ (n : ℕ). f < n) (columns_many M) l))
    ∙ length-map (columns_of_factor M f) column_word ∙ length-map-range_with_len (column_of M f) 0 (size M)

column_cell : (M : Rep) (f j : ℕ) → f < count M → j < size M → slice_index_or (slice_index_or (column_groups M) f []) j [] ≡ column_word (column_of M f j)
column_cell M f j l m =
    ap (λ (g : List (List ℕ)). slice_index_or g j []) (column_group M f l)
    ∙ get_or-map column_word (columns_of_factor M f) j [] [] (subst (λ (n : ℕ). j < n) (sym (length-map-range_with_len (column_of M f) 0 (size M))) m)
    ∙ ap column_word (get_or-map-range_with_len (column_of M f) 0 (size M) j j [] m (omega arith))

module _ (M : Rep) (c : CanBeSpelled M) where
  some_factor : 0 < count M
  some_factor = c.limits.fields.some

  field_long : length (field_words M.factors) + 1 ≡ count M * 2
  field_long = parted-length (codes "x") 1 (order_groups M.factors) (subst (λ (n : ℕ). 0 < n) (sym (orders_many M.factors)) some_factor) (orders_even M.factors)
      ∙ ap (λ (n : ℕ). n * 2) (orders_many M.factors)

  form_long : length (form_words (columns_of M)) + 1 ≡ count M * suc (size M)
  form_long = parted-length (codes "|") (size M) (column_groups M) (subst (λ (n : ℕ). 0 < n) (sym (columns_many M)) some_factor) (columns_even M)
      ∙ ap (λ (n : ℕ). n * suc (size M)) (columns_many M)

  field_at : (k : ℕ) → k < count M * 2 - 1 → word_at (representation_words M) k ≡ word_at (field_words M.factors) k
  field_at k l = get_or_append_left (field_words M.factors) (form_words (columns_of M)) [] k
      (let h : length (field_words M.factors) + 1 ≡ count M * 2 = field_long in omega arith)

  form_at : (k : ℕ) → word_at (representation_words M) (count M * 2 - 1 + k) ≡ word_at (form_words (columns_of M)) k
  form_at k =
      let h : length (field_words M.factors) + 1 ≡ count M * 2 = field_long in
      let e : length (field_words M.factors) ≡ count M * 2 - 1 = omega arith in
      subst (λ (n : ℕ). word_at (representation_words M) (n + k) ≡ word_at (form_words (columns_of M)) k) e
      (get_or-append-add (field_words M.factors) (form_words (columns_of M)) k [])

  cell_at : (f j : ℕ) → f < count M → j < size M → word_at (representation_words M) (column_place (count M) (size M) f j) ≡ column_word (column_of M f j)
  cell_at f j l m =
      form_at (f * suc (size M) + j)
      ∙ parted-at (codes "|") (size M) (column_groups M) (columns_even M) f j (subst (λ (n : ℕ). f < n) (sym (columns_many M)) l) m
      ∙ column_cell M f j l m

  first_code : matrix M 0 0 0 < 14
  first_code =
      let h : matrix M 0 0 0 < order M 0 = c.limits.shaped.codes 0 0 0 some_factor c.limits.rank_positive c.some in
      let o : order M 0 < 14 = order_small (order M 0) (c.limits.fields.fields 0 some_factor) in
      omega arith

  -- the first column isn't `x`
  first_not_x : column_word (column_of M 0 0) ≢ codes "x"
  first_not_x = λ e. letter_not_x (matrix M 0 0 0) first_code (sym (letter-at M 0 0 0 c.limits.rank_positive) ∙ ap (λ (w : List ℕ). slice_index w 0) e)

  reads : IsReadAs (representation_words M) M
  reads = record {
    orders = record {
      count = record {
        some = some_factor;
        few = c.limits.fields.few;
        between = λ f l.
            field_at (f * 2 + 1) (omega arith)
            ∙ parted-between (codes "x") 1 (order_groups M.factors) (orders_even M.factors) f (subst (λ (n : ℕ). f + 1 < n) (sym (orders_many M.factors)) l);
        behind = λ _ e.
            let p : count M * 2 - 1 ≡ column_place (count M) (size M) 0 0 = omega arith in
            first_not_x (sym (cell_at 0 0 some_factor c.some) ∙ ap (λ (k : ℕ). word_at (representation_words M) k) (sym p) ∙ e);
      };
      spelled = λ f l.
          let p : f * 2 ≡ f * 2 + 0 = omega arith in
          field_at (f * 2) (omega arith) ∙ ap (λ (k : ℕ). word_at (field_words M.factors) k) p
          ∙ parted-at (codes "x") 1 (order_groups M.factors) (orders_even M.factors) f 0
          (subst (λ (n : ℕ). f < n) (sym (orders_many M.factors)) l) (omega arith)
          ∙ ap (λ (g : List (List ℕ)). slice_index_or g 0 []) (order_group M.factors f l);
    };
    layout = record {
      total =
          (let h : length (field_words M.factors) + 1 ≡ count M * 2 = field_long in
          let g : length (form_words (columns_of M)) + 1 ≡ count M * suc (size M) = form_long in
          omega (arith, length-append (field_words M.factors) (form_words (columns_of M))));
      between = λ f l.
          form_at (f * suc (size M) + size M)
          ∙ parted-between (codes "|") (size M) (column_groups M) (columns_even M) f (subst (λ (n : ℕ). f + 1 < n) (sym (columns_many M)) l);
      rows = ap (λ (w : List ℕ). length w) (cell_at 0 0 some_factor c.some) ∙ word-length M 0 0;
    };
    entries = λ f i j l m n. record {
      rows = ap (λ (w : List ℕ). length w) (cell_at f j l n) ∙ word-length M f j;
      letter = ap (λ (w : List ℕ). slice_index w i) (cell_at f j l n) ∙ letter-at M f j i m;
    };
  }

  module _ (words : List (List ℕ)) (h : IsReadAs words M) where
    fronts : ℕ
    fronts = count M * 2 - 1

    long : fronts ≤ length words
    unfolding fronts
    long = let t : length words + 2 ≡ count M * 2 + count M * suc (size M) = h.layout.total in let s : 1 ≤ count M = some_factor in more (count M) t s
      where
        more : (n : ℕ) → length words + 2 ≡ n * 2 + n * suc (size M) → 1 ≤ n → n * 2 - 1 ≤ length words
        more zero t s = absurd (omega arith)
        more (suc n) t s = omega arith

    front_is : take fronts words ≡ field_words M.factors
    unfolding fronts
    front_is = parted-from (codes "x") 1 (order_groups M.factors) (take fronts words)
        (subst (λ (n : ℕ). 0 < n) (sym (orders_many M.factors)) some_factor) (orders_even M.factors)
        (let e : length (take fronts words) ≡ fronts = length-take-le fronts words long in let m = orders_many M.factors in
        let s : 0 < count M = some_factor in omega arith)
        (λ f j l m.
        let l' : f < count M = subst (λ (n : ℕ). f < n) (orders_many M.factors) l in
        let z : j ≡ 0 = omega arith in
        let p : f * 2 + j ≡ f * 2 = omega arith in
        get_or-take fronts words (f * 2 + j) [] (omega arith) ∙ ap (λ (k : ℕ). word_at words k) p ∙ h.orders.spelled f l'
        ∙ sym (ap (λ (k : ℕ). slice_index_or (slice_index_or (order_groups M.factors) f []) k []) z
        ∙ ap (λ (g : List (List ℕ)). slice_index_or g 0 []) (order_group M.factors f l')))
        (λ f l. let l' : f + 1 < count M = subst (λ (n : ℕ). f + 1 < n) (orders_many M.factors) l in
        get_or-take fronts words (f * 2 + 1) [] (omega arith) ∙ h.orders.count.between f l')

    back_is : drop fronts words ≡ form_words (columns_of M)
    unfolding fronts
    back_is = parted-from (codes "|") (size M) (column_groups M) (drop fronts words)
        (subst (λ (n : ℕ). 0 < n) (sym (columns_many M)) some_factor) (columns_even M)
        (let e : length (drop fronts words) ≡ length words - fronts = length-drop fronts words in
        let t : length words + 2 ≡ count M * 2 + count M * suc (size M) = h.layout.total in
        let s : 0 < count M = some_factor in
        let b : fronts ≤ length words = long in
        (let q : length (drop fronts words) + 1 ≡ count M * suc (size M) = omega arith in q) ∙ sym (ap (λ (n : ℕ). n * suc (size M)) (columns_many M)))
        (λ f j l m. let l' : f < count M = subst (λ (n : ℕ). f < n) (columns_many M) l in
        get_or-drop fronts words (f * suc (size M) + j) []
        ∙ word-from M f j (word_at words (column_place (count M) (size M) f j))
        (let E = h.entries f 0 j l' c.limits.rank_positive m in E.rows) (λ i k. let E = h.entries f i j l' k m in E.letter)
        ∙ sym (column_cell M f j l' m))
        (λ f l. get_or-drop fronts words (f * suc (size M) + size M) [] ∙ h.layout.between f (subst (λ (n : ℕ). f + 1 < n) (columns_many M) l))

    spelled : words ≡ representation_words M
    spelled = sym (take-append-drop fronts words) ∙ (λ i. front_is i ++ back_is i)

  pub read_as : (words : List (List ℕ)) → words ≡ representation_words M → IsReadAs words M
  read_as words e = subst (λ ws. IsReadAs ws M) (sym e) reads

  pub spelled_as : (words : List (List ℕ)) → IsReadAs words M → words ≡ representation_words M
  spelled_as words h = spelled words h

-- ---- what is read is one

module _ (words : List (List ℕ)) where
  -- there can't be more orders than these
  not_more : (m n : ℕ) → IsOrderCount words m → IsOrderCount words n → n ≤ m
  not_more m n a b =
      elim (cases_lt m n) [
        | inl l ↦ (
            let e : (m - 1) * 2 + 1 ≡ m * 2 - 1 = omega (arith, a.some) in
            absurd (a.behind (omega (arith, b.few)) (ap (word_at words) (sym e) ∙ b.between (m - 1) (omega (arith, a.some)))))
        | inr g ↦ g
      ]

  pub same_count : (m n : ℕ) → IsOrderCount words m → IsOrderCount words n → m ≡ n
  same_count m n a b = let p : n ≤ m = not_more m n a b in let q : m ≤ n = not_more n m b a in omega arith

  pub same_orders : (xs ys : List ℕ) → IsFactors xs → IsFactors ys → AreReadAsFactors words xs → AreReadAsFactors words ys → xs ≡ ys
  same_orders xs ys p q a b =
      let e : length xs ≡ length ys = same_count (length xs) (length ys) a.count b.count in
      ext_get_or 0 xs ys e (λ f l.
      let l' : f < length ys = omega arith in
      let s : slice_index xs f < 14 = order_small (slice_index xs f) (p.fields f l) in
      let t : slice_index ys f < 14 = order_small (slice_index ys f) (q.fields f l') in
      decimal_injective (slice_index xs f) (slice_index ys f) (omega (arith, s)) (omega (arith, t)) (sym (a.spelled f l) ∙ b.spelled f l'))

  pub cancelled : (c m n : ℕ) → 0 < c → c * m ≡ c * n → m ≡ n
  cancelled c m n s e =
      elim (cases_lt m n) [
        | inl l ↦ absurd (let h = less c m n s l in omega arith)
        | inr g ↦ elim (cases_lt n m) [
          | inl l ↦ absurd (let h = less c n m s l in omega arith)
          | inr k ↦ omega arith
        ]
      ]
    where
      less : (c m n : ℕ) → 0 < c → m < n → c * m < c * n
      less zero m n s l = absurd (omega arith)
      less (suc zero) m n s l = omega arith
      less (suc (suc c)) m n s l = let h : suc c * m < suc c * n = less (suc c) m n (omega arith) l in omega arith

  pub same_layout : (factors m n r s : ℕ) → 0 < factors → AreReadAsColumns words factors m r → AreReadAsColumns words factors n s → (m ≡ n) × (r ≡ s)
  same_layout factors m n r s some a b =
      let t : length words + 2 ≡ factors * 2 + factors * suc m = a.total in
      let u : length words + 2 ≡ factors * 2 + factors * suc n = b.total in
      let e : suc m ≡ suc n = cancelled factors (suc m) (suc n) some (omega arith) in
      let p : column_place factors m 0 0 ≡ column_place factors n 0 0 = omega arith in
      (omega arith, sym a.rows ∙ ap (λ (k : ℕ). length (word_at words k)) p ∙ b.rows)

  pub same_entry : (factors columns rank f i j x y : ℕ) → x < 14 → y < 14 → IsReadAsEntry words factors columns rank f i j x
      → IsReadAsEntry words factors columns rank f i j y → x ≡ y
  same_entry factors columns rank f i j x y l m a b = letter_same x y l m (sym a.letter ∙ b.letter)

  pub read_same : (M N : Rep) → CanBeSpelled M → CanBeSpelled N → IsReadAs words M → IsReadAs words N → M ≡ N
  read_same M N c d a b =
      same_codes N M d.limits.shaped c.limits.shaped (λ k. record { factors = fs k; rank = both.1 k; size = both.0 k })
      (λ f i j l m n.
      let l' : f < count M = subst (λ (x : List ℕ). f < length x) (sym fs) l in
      let m' : i < M.rank = omega (arith, both.1) in
      let n' : j < size M = omega (arith, both.0) in
      let s : matrix M f i j < order M f = c.limits.shaped.codes f i j l' m' n' in
      let t : matrix N f i j < order N f = d.limits.shaped.codes f i j l m n in
      let u = order_small (order M f) (c.limits.fields.fields f l') in
      let v = order_small (order N f) (d.limits.fields.fields f l) in
      same_entry (count N) (size N) N.rank f i j (matrix M f i j) (matrix N f i j) (omega (arith, s, u)) (omega (arith, t, v))
      (subst (λ (x : ℕ). IsReadAsEntry words (count N) (size N) x f i j (matrix M f i j)) both.1
      (subst (λ (x : ℕ). IsReadAsEntry words (count N) x M.rank f i j (matrix M f i j)) both.0
      (subst (λ (x : List ℕ). IsReadAsEntry words (length x) (size M) M.rank f i j (matrix M f i j)) fs (a.entries f i j l' m' n'))))
      (b.entries f i j l m n))
    where
      fs : M.factors ≡ N.factors
      fs = same_orders M.factors N.factors c.limits.fields d.limits.fields a.orders b.orders

      both : (size M ≡ size N) × (M.rank ≡ N.rank)
      both = same_layout (count M) (size M) (size N) M.rank N.rank c.limits.fields.some a.layout
          (subst (λ (x : List ℕ). AreReadAsColumns words (length x) (size N) N.rank) (sym fs) b.layout)
