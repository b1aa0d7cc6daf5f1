-- The steps of the search: one more scalar, and one more column.
use Rattle.std.proofs.Common.{◌≡◌, ◌≢◌, ℕ, zero, ◌+◌, ◌*◌, ◌/◌, ◌%◌, ◌<◌, ◌≤◌, ◌⊎◌, inl, inr, refl, sym, ◌∙◌, ap, subst, arith, List, [], ◌∷◌, ◌++◌, length, length-append, Option, Some, None, IfSome}
use Rattle.std.specs.List.{slice_index}
use Rattle.std.specs.declared.cmp.Ordering.TheVariants.{Greater}
use Rattle.std.proofs.lemmas.Bool.{cases_lt}
use Rattle.std.proofs.lemmas.Nat.{mod-mul-add}
use Rattle.std.proofs.Math.Nat.{mod-lt, div-lt_iff_lt-mul, div-eq_of_lt, mul-le-mul}
use Rattle.matroid_theory.specs.Field.{IsField}
use Rattle.matroid_theory.specs.Rep.{Rep, Shape, count, order, size, KeepsLimits}
use Rattle.matroid_theory.specs.Move.{Move}
use Rattle.matrix_lemmas.proofs.FieldLaws.{field_laws}
use Rattle.matroid_laws.proofs.Levels.{columns_total}
use Rattle.matrix_lemmas.proofs.Orderings.{at_most_chain}
use Rattle.product_rep.proofs.PiecesLemmas.{place_below}
use Rattle.canonical_form.specs.Search.{Reaches, PicksFirst, HasScalars, row_scalar, AreScalars, AreIndependentColumns, IsOrderedBasis, IsCandidate, AreOfClass, IsNotAbove, columns_cmp, later}
use Rattle.canonical_form.specs.Found.{IsAtMost, CoversBases, CoversScalars, AreFirstScalars}
use Rattle.canonical_form.proofs.Least.{candidate_least}
use Rattle.canonical_form.proofs.Made.{candidate_made}
use Rattle.canonical_form.proofs.Places.{one_more_item, field_at}
use Rattle.canonical_form.proofs.Whole.{begins_independent, row_scalar_code, row_scalar_nonzero, row_scalar_first}

-- what was found is of the class, and not above what was found before
pub record IsFound (M : Rep) (old new : Option (List (List ℕ))) : Type 0 where
  pub sound : IfSome new (AreOfClass M)
  pub lower : (columns : List (List ℕ)) → IsAtMost old columns → IsAtMost new columns

-- the scalars are tried with each next one below the code
pub record IsTriedBelow (M : Rep) (basis scalars : List ℕ) (code : ℕ) (old new : Option (List (List ℕ))) : Type 0 where
  pub found : IsFound M old new
  pub covers : (m : Move) (N : Rep) → Reaches M m N → PicksFirst basis m → HasScalars M scalars m →
      row_scalar M m (length scalars % count M) (length scalars / count M) < code → IsNotAbove new N

-- the ordered bases that begin with the columns are gone through with each next column below j
pub record IsGoneThroughBelow (M : Rep) (columns : List ℕ) (j : ℕ) (old new : Option (List (List ℕ))) : Type 0 where
  pub found : IsFound M old new
  pub covers : (m : Move) (N : Rep) → Reaches M m N → PicksFirst columns m → m.label (length columns) < j → IsNotAbove new N

-- where the codes for the next scalar end: after 1 in row 0, and else at the order
abbrev pub EndsAt : Rep → List ℕ → ℕ → Type 0
EndsAt M scalars end = (length scalars < count M × (end ≡ 2)) ⊎ (end ≡ order M (length scalars % count M))

pub ends_at_two : (M : Rep) (scalars : List ℕ) (place c end : ℕ) → place ≡ length scalars → c ≡ count M → place < c → end ≡ 2 → EndsAt M scalars end
ends_at_two M scalars place c end e n l d = inl (omega arith, d)

pub ends_at_order : (M : Rep) (fs scalars : List ℕ) (place c end q x : ℕ) → fs ≡ M.factors → place ≡ length scalars →
    c ≡ length fs → q ≡ slice_index fs (place % c) → x ≡ q → end ≡ x → EndsAt M scalars end
ends_at_order M fs scalars place c end q x f e n h k d =
    inr (d ∙ k ∙ field_at M fs q c place f n h ∙ ap (λ (p : ℕ). order M (p % count M)) e)

-- where what was found is at most x, and x isn't above y
pub at_most_trans : (found : Option (List (List ℕ))) (x y : List (List ℕ)) → IsAtMost found x → columns_cmp x y ≢ Greater → IsAtMost found y
at_most_trans None x y h n = h
at_most_trans (Some z) x y h n = at_most_chain columns_cmp columns_total z x y h n

module _ (M : Rep) (r : KeepsLimits M) where
  some : 0 < count M
  some = let f = r.fields in f.some

  -- at most 18 scalars
  pub scalars_most : M.rank * count M ≤ 18
  scalars_most =
      let a : M.rank ≤ 6 = r.rank_most in let f = r.fields in let b : length M.factors ≤ 3 = f.few in
      let h : M.rank * count M ≤ 6 * 3 = mul-le-mul a b in h

  -- scalars of all rows
  pub all_scalars : (scalars : List ℕ) → AreFirstScalars M scalars → length scalars ≡ M.rank * count M → AreScalars M scalars
  all_scalars scalars h e = record {
    column = record {
      rows = e;
      codes = λ i f l m. (let b : i * count M + f < M.rank * count M = place_below M.rank (count M) i f l m in
          subst (λ (x : ℕ). slice_index scalars (i * count M + f) < order M x) (mod-mul-add i (count M) f m) (h.codes (i * count M + f) (omega arith)));
    };
    nonzero = λ i f l m. (let b : i * count M + f < M.rank * count M = place_below M.rank (count M) i f l m in h.nonzero (i * count M + f) (omega arith));
  }

  pub no_scalars : (scalars : List ℕ) → scalars ≡ [] → AreFirstScalars M scalars
  no_scalars scalars e = let n : length scalars ≡ zero = ap (λ (w : List ℕ). length w) e in record {
    room = omega arith;
    codes = λ e l. absurd (omega arith);
    nonzero = λ e l. absurd (omega arith);
  }

  -- before the end of the scalars
  pub room_left : (scalars : List ℕ) (n : ℕ) → AreFirstScalars M scalars → n ≡ M.rank * count M → length scalars ≢ n → length scalars < M.rank * count M
  room_left scalars n h e d = let o : length scalars ≤ M.rank * count M = h.room in omega arith

  -- one more scalar
  pub more_scalars : (scalars longer : List ℕ) (code : ℕ) → AreFirstScalars M scalars → length scalars < M.rank * count M →
      longer ≡ scalars ++ code ∷ [] → code < order M (length scalars % count M) → 0 < code → AreFirstScalars M longer
  more_scalars scalars longer code h l e c z =
      let n : length longer ≡ length scalars + 1 = ap (λ (w : List ℕ). length w) e ∙ length-append scalars (code ∷ []) in
      record {
        room = omega arith;
        codes = λ p b. one_more_item (λ p x. x < order M (p % count M)) scalars longer code 0 (length scalars) refl e h.codes c p (omega arith);
        nonzero = λ p b. one_more_item (λ p x. x ≢ 0) scalars longer code 0 (length scalars) refl e h.nonzero
            (λ z'. (let y : code ≡ zero = z' in absurd (omega arith))) p (omega arith);
      }

  -- a code before the end is one of the field
  pub before_end : (scalars : List ℕ) (end code : ℕ) → EndsAt M scalars end → code < end → code < order M (length scalars % count M)
  before_end scalars end code e l = elim e [
    | inl d ↦ (let f = r.fields in
        let F : IsField (order M (length scalars % count M)) = field_laws (order M (length scalars % count M))
        (f.fields (length scalars % count M) (mod-lt (length scalars) some)) in
        let two : 1 < order M (length scalars % count M) = F.two in let d' : end ≡ 2 = d.1 in omega arith)
    | inr d ↦ omega arith
  ]

  module _ (m : Move) (N : Rep) (h : Reaches M m N) (scalars : List ℕ) (l : length scalars < M.rank * count M) where
    row_below : length scalars / count M < M.rank
    row_below = (div-lt_iff_lt-mul some).1 l

    factor_below : length scalars % count M < count M
    factor_below = mod-lt (length scalars) some

    abbrev next : ℕ
    next = row_scalar M m (length scalars % count M) (length scalars / count M)

    next_code : next < order M (length scalars % count M)
    next_code = row_scalar_code M m N (length scalars % count M) (length scalars / count M) r h factor_below row_below

    next_nonzero : next ≢ 0
    next_nonzero = row_scalar_nonzero M m N (length scalars % count M) (length scalars / count M) r h factor_below row_below

    -- in row 0 it is 1
    next_first : length scalars < count M → next ≡ 1
    next_first b =
        ap (row_scalar M m (length scalars % count M)) (div-eq_of_lt b)
        ∙ row_scalar_first M m N (length scalars % count M) r h factor_below

  module _ (basis scalars : List ℕ) where
    -- before the first code
    pub none_tried : (old : Option (List (List ℕ))) → length scalars < M.rank * count M → IfSome old (AreOfClass M) → IsTriedBelow M basis scalars 1 old old
    none_tried old l s = record {
      found = record { sound = s; lower = λ columns h. h };
      covers = λ m N h b t k. (let z : row_scalar M m (length scalars % count M) (length scalars / count M) ≡ zero = omega arith in
          absurd (next_nonzero m N h scalars l z));
    }

    -- one more code
    pub one_more_tried : (longer : List ℕ) (code : ℕ) (old now new : Option (List (List ℕ))) →
        IsTriedBelow M basis scalars code old now → longer ≡ scalars ++ code ∷ []
        → IfSome new (AreOfClass M) → ((columns : List (List ℕ)) → IsAtMost now columns → IsAtMost new columns) →
        CoversScalars M basis longer new → IsTriedBelow M basis scalars (code + 1) old new
    one_more_tried longer code old now new t e s w c = record {
      found = record { sound = s; lower = λ columns h. w columns (t.found.lower columns h) };
      covers = λ m N h b v k. elim (cases_lt (row_scalar M m (length scalars % count M) (length scalars / count M)) code) [
        | inl d ↦ w (later N) (t.covers m N h b v d)
        | inr d ↦ c m N h b (λ p o.
            (let n : length longer ≡ length scalars + 1 = ap (λ (w : List ℕ). length w) e ∙ length-append scalars (code ∷ []) in
            one_more_item (λ p x. row_scalar M m (p % count M) (p / count M) ≡ x) scalars longer code 0 (length scalars) refl e v
            (omega arith) p (omega arith)))
      ];
    }

    -- after the last code
    pub all_tried : (end code : ℕ) (old new : Option (List (List ℕ))) → length scalars < M.rank * count M →
        IsTriedBelow M basis scalars code old new → end ≤ code
        → EndsAt M scalars end → CoversScalars M basis scalars new
    all_tried end code old new l t g e m N h b v = t.covers m N h b v (elim e [
      | inl d ↦ (let s : row_scalar M m (length scalars % count M) (length scalars / count M) ≡ 1 =
          next_first m N h scalars l d.0 in let d' : end ≡ 2 = d.1 in omega arith)
      | inr d ↦ (let s : row_scalar M m (length scalars % count M) (length scalars / count M) < order M (length scalars % count M) =
          next_code m N h scalars l in omega arith)
    ])

    -- a full list of scalars, and the candidate that it gives
    pub candidate_sound : (columns : List (List ℕ)) (old new : Option (List (List ℕ))) → IsOrderedBasis M basis →
        AreScalars M scalars → IsCandidate M basis scalars columns
        → IfSome old (AreOfClass M) → (new ≡ old) ⊎ (new ≡ Some columns) → IfSome new (AreOfClass M)
    candidate_sound columns old new b s c o e = elim e [
      | inl d ↦ subst (λ (x : Option (List (List ℕ))). IfSome x (AreOfClass M)) (sym d) o
      | inr d ↦ subst (λ (x : Option (List (List ℕ))). IfSome x (AreOfClass M)) (sym d) (candidate_made M basis scalars columns r b s c)
    ]

    pub candidate_covers : (columns : List (List ℕ)) (new : Option (List (List ℕ))) → IsOrderedBasis M basis →
        length scalars ≡ M.rank * count M → AreScalars M scalars → IsCandidate M basis scalars columns
        → IsAtMost new columns → CoversScalars M basis scalars new
    candidate_covers columns new b l s c a m N h w t = at_most_trans new columns (later N) a (candidate_least M basis scalars columns r b s c m N h w l t)

  module _ (columns : List ℕ) where
    pub none_gone_through : (old : Option (List (List ℕ))) → IfSome old (AreOfClass M) → IsGoneThroughBelow M columns 0 old old
    none_gone_through old s = record {
      found = record { sound = s; lower = λ columns h. h };
      covers = λ m N h b k. absurd (omega arith);
    }

    -- what begins with the columns and this one
    begins_longer : (longer : List ℕ) (j : ℕ) (m : Move) → longer ≡ columns ++ j ∷ [] → PicksFirst columns m →
        m.label (length columns) ≡ j → PicksFirst longer m
    begins_longer longer j m e b d i l =
        let n : length longer ≡ length columns + 1 = ap (λ (w : List ℕ). length w) e ∙ length-append columns (j ∷ []) in
        one_more_item (λ i x. m.label i ≡ x) columns longer j 0 (length columns) refl e b d i (omega arith)

    -- one more column, independent of the columns
    pub one_more_gone_through : (longer : List ℕ) (j : ℕ) (old now new : Option (List (List ℕ))) →
        IsGoneThroughBelow M columns j old now → longer ≡ columns ++ j ∷ []
        → IfSome new (AreOfClass M) → ((columns : List (List ℕ)) → IsAtMost now columns → IsAtMost new columns) →
        CoversBases M longer new → IsGoneThroughBelow M columns (j + 1) old new
    one_more_gone_through longer j old now new t e s w c = record {
      found = record { sound = s; lower = λ columns h. w columns (t.found.lower columns h) };
      covers = λ m N h b k. elim (cases_lt (m.label (length columns)) j) [
        | inl d ↦ w (later N) (t.covers m N h b d)
        | inr d ↦ c m N h (begins_longer longer j m e b (omega arith))
      ];
    }

    -- or dependent
    pub dependent_passed : (longer : List ℕ) (j : ℕ) (old now : Option (List (List ℕ))) → IsGoneThroughBelow M columns j old now →
        longer ≡ columns ++ j ∷ [] → length columns < M.rank
        → ¬ (AreIndependentColumns M longer) → IsGoneThroughBelow M columns (j + 1) old now
    dependent_passed longer j old now t e l n = record {
      found = t.found;
      covers = λ m N h b k. elim (cases_lt (m.label (length columns)) j) [
        | inl d ↦ t.covers m N h b d
        | inr d ↦ absurd (n (begins_independent M longer m N r
            (let i : length longer ≡ length columns + 1 = ap (λ (w : List ℕ). length w) e ∙ length-append columns (j ∷ []) in omega arith)
            h (begins_longer longer j m e b (omega arith))))
      ];
    }

    -- after the last column
    pub all_gone_through : (end j : ℕ) (old new : Option (List (List ℕ))) → length columns < M.rank →
        IsGoneThroughBelow M columns j old new → end ≡ size M → end ≤ j → CoversBases M columns new
    all_gone_through end j old new l t e g m N h b =
        t.covers m N h b (let room : N.rank ≤ size N = h.standard.room in
        let s : N.rank ≡ M.rank = ap (λ (S : Shape). S.rank) h.takes.same_shape in
        let z : size N ≡ size M = ap (λ (S : Shape). S.size) h.takes.same_shape in
        let d : m.label (length columns) < size M = h.valid.labels.below (length columns) (omega arith) in omega arith)
