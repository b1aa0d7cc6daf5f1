-- The lines of a text are in order, or one of them is the first at fault.
use Rattle.std.proofs.Common.{◌≡◌, ℕ, ◌<◌, ◌≤◌, refl, sym, ◌∙◌, ap, subst, arith, Bool}
use Rattle.std.proofs.Common.{true, false, cond, List, [], ◌∷◌, ◌++◌, map, inl, inr, ◌⊎◌, not, append_assoc}
use Rattle.std.specs.Prelude.{filter}
use Rattle.std.proofs.lemmas.Bool.{cases_lt, cases_eq, cases_Bool}
use Rattle.std.proofs.lemmas.List.{map-append, append-nil}
use Rattle.std.proofs.lemmas.List.Elements.{filter-append}
use Rattle.list_lemmas.proofs.Lists.{all_push}
use Rattle.formats.specs.Lines.{words_of, is_skipped, statements_of}
use Rattle.formats.specs.Statement.{Statement, IsStatement, IsOfVersion, spelling, Says, kind_number, forbid_kind, most_of_kind, named_elements}
use Rattle.formats.specs.Request.{SayInTurn, AreInOrder, count_of_kind}
use Rattle.formats.specs.Refusal.{Fault, NoForm, Again, NinthForbid, TooBig, HasFault}
use Rattle.formats.proofs.Unique.{statements_split}
use Rattle.formats.proofs.KindCounts.{order_end}
use Rattle.existence.proofs.Deciding.{less, at_most}
use Rattle.request_laws.proofs.Said.{said_decided}

-- ---- one more line

-- the statements of lines one after another
statements_append : (xs ys : List (List ℕ)) → statements_of (xs ++ ys) ≡ statements_of xs ++ statements_of ys
statements_append xs ys = ap (filter (λ words. not (is_skipped words))) (map-append words_of xs ys)
    ∙ filter-append (λ words. not (is_skipped words)) (map words_of xs) (map words_of ys)

-- a line that is skipped has none
skipped_line : (line : List ℕ) → is_skipped (words_of line) ≡ true → statements_of (line ∷ []) ≡ []
skipped_line line s = ap (λ (b : Bool). cond (not b) (words_of line ∷ []) []) s

module _ (version : ℕ) where
  skips : (before : List (List ℕ)) (line : List ℕ) (said : List Statement) → is_skipped (words_of line) ≡ true → SayInTurn version before said
      → SayInTurn version (before ++ line ∷ []) said
  skips before line said s t = record {
    may = t.may;
    of_version = t.of_version;
    spelled = statements_append before (line ∷ []) ∙ ap (λ (l : List (List (List ℕ))). statements_of before ++ l) (skipped_line line s)
        ∙ append-nil (statements_of before) ∙ t.spelled;
  }

  -- a line that says one more statement
  says_more : (before : List (List ℕ)) (line : List ℕ) (said : List Statement) (e : Statement) → is_skipped (words_of line) ≡ false
      → SayInTurn version before said → Says version (words_of line) e → SayInTurn version (before ++ line ∷ []) (said ++ e ∷ [])
  says_more before line said e s t w = record {
    may = all_push IsStatement said e t.may w.may;
    of_version = all_push (IsOfVersion version) said e t.of_version w.of_version;
    spelled = statements_split before line [] s ∙ (λ i. t.spelled i ++ w.spelled i ∷ []) ∙ sym (map-append spelling said (e ∷ []));
  }

  -- ---- a fault of one line

  -- the words have some fault
  abbrev SomeFault : List Statement → List (List ℕ) → Type 0
  SomeFault said words = (fault : Fault) × HasFault version said words fault

  -- a line that isn't skipped says one more statement in order, or it has a fault
  next_line : (said : List Statement) (words : List (List ℕ)) → AreInOrder said → ((e : Statement) × Says version words e × AreInOrder
      (said ++ e ∷ [])) ⊎ SomeFault said words
  next_line said words order = elim (said_decided version words) [
    | inr none ↦ inr (NoForm, λ e s. none (e, s))
    | inl w ↦ elim (less (count_of_kind (kind_number w.0) said) (most_of_kind (kind_number w.0))) [
      | inl room ↦ elim (at_most (named_elements w.0) 10) [
        | inl small ↦ inl (w.0, w.1, order_end said w.0 order small room)
        | inr big ↦ inr (TooBig, (w.0, w.1, room, beyond (named_elements w.0) big))
      ]
      | inr full ↦ elim (cases_eq (kind_number w.0) forbid_kind) [
        | inl e ↦ inr (NinthForbid, (w.0, w.1, e, subst (λ (k : ℕ). most_of_kind k ≤ count_of_kind k said) e (reached _ _ full)))
        | inr other ↦ inr (Again, (w.0, w.1, other, reached _ _ full))
      ]
    ]
  ]
    where
      beyond : (n : ℕ) → ¬ (n ≤ 10) → 10 < n
      beyond n h = elim (cases_lt 10 n) [ inl l ↦ l | inr g ↦ absurd (h g) ]

      reached : (m n : ℕ) → ¬ (m < n) → n ≤ m
      reached m n h = elim (cases_lt m n) [ inl l ↦ absurd (h l) | inr g ↦ g ]

  -- ---- all lines

  -- the lines say statements in order
  pub record InOrder (lines : List (List ℕ)) : Type 0 where
    pub said : List Statement
    pub says : SayInTurn version lines said
    pub in_order : AreInOrder said

  -- a line is the first at fault
  pub record AtFault (lines : List (List ℕ)) : Type 0 where
    pub before : List (List ℕ)
    pub line : List ℕ
    pub after : List (List ℕ)
    pub split : lines ≡ before ++ line ∷ after
    pub said : List Statement
    pub says : SayInTurn version before said
    pub in_order : AreInOrder said
    pub counts : is_skipped (words_of line) ≡ false
    pub fault : Fault
    pub wrong : HasFault version said (words_of line) fault

  -- line by line, after those that are in order
  walk : (before rest : List (List ℕ)) (said : List Statement) → SayInTurn version before said → AreInOrder said
      → InOrder (before ++ rest) ⊎ AtFault (before ++ rest)
  walk before [] said t o = inl (subst InOrder (sym (append-nil before)) (record { said = said; says = t; in_order = o }))
  walk before (line ∷ rest) said t o = elim (cases_Bool (is_skipped (words_of line))) [
    | inl s ↦ onward (walk (before ++ line ∷ []) rest said (skips before line said s t) o)
    | inr s ↦ elim (next_line said (words_of line) o) [
      | inl w ↦ onward (walk (before ++ line ∷ []) rest (said ++ w.0 ∷ []) (says_more before line said w.0 s t w.1) w.2)
      | inr f ↦ inr (record {
        before = before;
        line = line;
        after = rest;
        split = refl;
        said = said;
        says = t;
        in_order = o;
        counts = s;
        fault = f.0;
        wrong = f.1;
      })
    ]
  ]
    where
      onward : InOrder ((before ++ line ∷ []) ++ rest) ⊎ AtFault ((before ++ line ∷ []) ++ rest)
          → InOrder (before ++ line ∷ rest) ⊎ AtFault (before ++ line ∷ rest)
      onward w = subst (λ (ls : List (List ℕ)). InOrder ls ⊎ AtFault ls) (append_assoc before (line ∷ []) rest) w

  none_too_often : (kind : ℕ) → 0 ≤ most_of_kind kind
  none_too_often kind = omega arith

  -- from the first line on
  pub lines_walked : (lines : List (List ℕ)) → InOrder lines ⊎ AtFault lines
  lines_walked lines = walk [] lines [] (record { may = tt; of_version = tt; spelled = refl }) (record { not_often = none_too_often; not_big = tt })
