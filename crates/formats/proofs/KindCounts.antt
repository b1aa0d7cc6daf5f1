-- How many statements of a kind there are, and which values they have.
use Rattle.std.proofs.Common.{◌≡◌, ◌∙◌, ℕ, ◌+◌, ◌<◌, ◌≤◌, ◌==◌, ◌||◌, inl, inr, Bool, true, false, cond, List, [], ◌∷◌, ◌++◌, length, Option, None, Some, refl, ap, subst, arith, not}
use Rattle.std.specs.Option.{is_some}
use Rattle.std.specs.Prelude.{filter_map, option_to_list}
use Rattle.std.specs.List.{list_any, cons_option}
use Rattle.std.proofs.lemmas.Bool.{cases_Bool}
use Rattle.std.proofs.lemmas.Bool.Decides.{nat_tests}
use Rattle.std.proofs.lemmas.List.{append-nil}
use Rattle.std.proofs.lemmas.List.Sums.{sum_by-append, sum_by-cons}
use Rattle.std.proofs.lemmas.List.Elements.{filter_map-append}
use Rattle.list_lemmas.proofs.Lists.{all_push}
use Rattle.formats.specs.Statement.{Statement, RankIs, FieldIs, SizeIs, Forbids, ListsWith, kind_number, most_of_kind, named_elements}
use Rattle.formats.specs.Request.{AreInOrder, count_of_kind, rank_in, field_in, size_in, forbidden_in, wanted_in}

-- a statement is one of a kind, or not
abbrev pub of_kind : ℕ → Statement → ℕ
of_kind kind e = cond (kind_number e == kind) 1 0

pub some_of_kind : (kind : ℕ) → 1 ≤ most_of_kind kind
some_of_kind kind = grind (arith, nat_tests)

pub count_cons : (kind : ℕ) (e : Statement) (entries : List Statement) → count_of_kind kind (e ∷ entries) ≡ of_kind kind e + count_of_kind kind entries
count_cons kind e entries = sum_by-cons (of_kind kind) e entries

pub count_end : (kind : ℕ) (es : List Statement) (e : Statement) → count_of_kind kind (es ++ e ∷ []) ≡ count_of_kind kind es + of_kind kind e
count_end kind es e = sum_by-append (of_kind kind) es (e ∷ []) ∙ ap (λ (n : ℕ). count_of_kind kind es + n) (count_cons kind e [] ∙ add)
  where
    add : of_kind kind e + 0 ≡ of_kind kind e
    add = omega arith

-- the entries stay in order by one of a kind of which there were fewer than may be
pub order_end : (es : List Statement) (e : Statement) → AreInOrder es → named_elements e ≤ 10 →
    count_of_kind (kind_number e) es < most_of_kind (kind_number e) → AreInOrder (es ++ e ∷ [])
order_end es e order small fewer = record {
  not_often = λ kind. often kind;
  not_big = all_push (λ x. named_elements x ≤ 10) es e order.not_big small;
}
  where
    often : (kind : ℕ) → count_of_kind kind (es ++ e ∷ []) ≤ most_of_kind kind
    often kind = elim (cases_Bool (kind_number e == kind)) [
      | inl same ↦
          let one : of_kind kind e ≡ 1 = ap (λ (b : Bool). cond b 1 0) same in
          let alike : kind_number e ≡ kind = grind (arith, nat_tests, same) in
          let room : count_of_kind kind es < most_of_kind kind = subst (λ (k : ℕ). count_of_kind k es < most_of_kind k) alike fewer in
          omega (arith, count_end kind es e, one, room)
      | inr other ↦
          let no : of_kind kind e ≡ 0 = ap (λ (b : Bool). cond b 1 0) other in
          omega (arith, count_end kind es e, no, order.not_often kind)
    ]

-- the entries stay in order by one of a kind that wasn't there
pub order_new : (es : List Statement) (e : Statement) → AreInOrder es → named_elements e ≤ 10 → count_of_kind (kind_number e) es ≡ 0 → AreInOrder (es ++ e ∷ [])
order_new es e order small new = order_end es e order small (omega (arith, new, some_of_kind (kind_number e)))

-- as many entries of a kind as values of it
pub rank_count : (es : List Statement) → count_of_kind 1 es ≡ length (filter_map rank_in es)
rank_count [] = refl
rank_count (RankIs n ∷ es) = omega (arith, count_cons 1 (RankIs n) es, rank_count es)
rank_count (e ∷ es) = omega (arith, count_cons 1 e es, rank_count es)

pub field_count : (es : List Statement) → count_of_kind 2 es ≡ length (filter_map field_in es)
field_count [] = refl
field_count (FieldIs n ∷ es) = omega (arith, count_cons 2 (FieldIs n) es, field_count es)
field_count (e ∷ es) = omega (arith, count_cons 2 e es, field_count es)

pub size_count : (es : List Statement) → count_of_kind 3 es ≡ length (filter_map size_in es)
size_count [] = refl
size_count (SizeIs n ∷ es) = omega (arith, count_cons 3 (SizeIs n) es, size_count es)
size_count (e ∷ es) = omega (arith, count_cons 3 e es, size_count es)

pub forbid_count : (es : List Statement) → count_of_kind 4 es ≡ length (filter_map forbidden_in es)
forbid_count [] = refl
forbid_count (Forbids minor ∷ es) = omega (arith, count_cons 4 (Forbids minor) es, forbid_count es)
forbid_count (e ∷ es) = omega (arith, count_cons 4 e es, forbid_count es)

pub wanted_count : (es : List Statement) → count_of_kind 9 es ≡ length (filter_map wanted_in es)
wanted_count [] = refl
wanted_count (ListsWith minor ∷ es) = omega (arith, count_cons 9 (ListsWith minor) es, wanted_count es)
wanted_count (e ∷ es) = omega (arith, count_cons 9 e es, wanted_count es)

-- no entry of a kind more
pub count_kept : (kind : ℕ) (es : List Statement) (e : Statement) (n : ℕ) → count_of_kind kind es ≡ n → of_kind kind e ≡ 0 →
    count_of_kind kind (es ++ e ∷ []) ≡ n
count_kept kind es e n held none = omega (arith, count_end kind es e, held, none)

-- one value more
pub values_end : {X : Type 0} (value : Statement → Option X) (es : List Statement) (e : Statement) (o : Option X) →
    filter_map value es ≡ [] → value e ≡ o → filter_map value (es ++ e ∷ []) ≡ option_to_list o
values_end value es e o none is = filter_map-append value es (e ∷ []) ∙ ap (λ l. l ++ filter_map value (e ∷ [])) none ∙ one o is
  where
    one : (o : Option _) → value e ≡ o → filter_map value (e ∷ []) ≡ option_to_list o
    one None is = ap (λ o. cons_option o []) is
    one (Some x) is = ap (λ o. cons_option o []) is

-- no value more
pub values_kept : {X : Type 0} (value : Statement → Option X) (es : List Statement) (e : Statement) (xs : List X) →
    filter_map value es ≡ xs → value e ≡ None → filter_map value (es ++ e ∷ []) ≡ xs
values_kept value es e xs held none = filter_map-append value es (e ∷ []) ∙ ap (λ o. filter_map value es ++ cons_option o []) none
    ∙ append-nil (filter_map value es) ∙ held

-- one value more after others
pub values_more : {X : Type 0} (value : Statement → Option X) (es : List Statement) (e : Statement) (x : X) (xs : List X) →
    filter_map value es ≡ xs → value e ≡ Some x → filter_map value (es ++ e ∷ []) ≡ xs ++ x ∷ []
values_more value es e x xs held is = filter_map-append value es (e ∷ []) ∙ ap (λ o. filter_map value es ++ cons_option o []) is ∙ ap (λ l. l ++ x ∷ []) held

-- a kind that has a value was there
pub flag_again : (es : List Statement) (kind : ℕ) (flag : Bool) → count_of_kind kind es ≡ cond flag 1 0 → flag ≡ true → 1 ≤ count_of_kind kind es
flag_again es kind flag e set = let one : count_of_kind kind es ≡ 1 = e ∙ ap (λ (b : Bool). cond b 1 0) set in omega arith

pub value_again : {X : Type 0} (o : Option X) (xs : List X) (n : ℕ) → n ≡ length xs → xs ≡ option_to_list o → is_some o ≡ true → 1 ≤ n
value_again None xs n m e is = cc (is)
value_again (Some x) xs n m e is = let l : length xs ≡ 1 = ap length e in omega arith

pub none_there : {X : Type 0} (o : Option X) → is_some o ≡ false → o ≡ None
none_there None is = refl
none_there (Some x) is = cc (is)

-- what a test for none says of what is there
pub is_there : (there none : Bool) → there ≡ not none → none ≡ false → there ≡ true
is_there there none e is = cc

pub not_there : (there none : Bool) → there ≡ not none → none ≡ true → there ≡ false
not_there there none e is = cc

-- whether a kind is there, from how many of it are
abbrev there : ℕ → List Statement → Bool
there kind es = list_any (λ e. kind_number e == kind) es

none_of : (kind : ℕ) (es : List Statement) → count_of_kind kind es ≡ 0 → there kind es ≡ false
none_of kind [] none = refl
none_of kind (e ∷ es) none = elim (cases_Bool (kind_number e == kind)) [
  | inl same ↦
      let one : of_kind kind e ≡ 1 = ap (λ (b : Bool). cond b 1 0) same in
      absurd (omega (arith, count_cons kind e es, one, none))
  | inr other ↦
      let no : of_kind kind e ≡ 0 = ap (λ (b : Bool). cond b 1 0) other in
      let later = none_of kind es (omega (arith, count_cons kind e es, no, none)) in
      cc
]

one_of : (kind : ℕ) (es : List Statement) → count_of_kind kind es ≡ 1 → there kind es ≡ true
one_of kind [] one = absurd (omega (arith, one))
one_of kind (e ∷ es) one = elim (cases_Bool (kind_number e == kind)) [
  | inl same ↦ ap (λ (b : Bool). b || there kind es) same
  | inr other ↦
      let no : of_kind kind e ≡ 0 = ap (λ (b : Bool). cond b 1 0) other in
      let later = one_of kind es (omega (arith, count_cons kind e es, no, one)) in
      cc
]

pub flag_there : (kind : ℕ) (es : List Statement) (flag : Bool) → count_of_kind kind es ≡ cond flag 1 0 → list_any (λ e. kind_number e == kind) es ≡ flag
flag_there kind es true e = one_of kind es e
flag_there kind es false e = none_of kind es e

-- what a test for a flag that isn't set says of it
pub on_from_not : (flag : Bool) → not flag ≡ false → flag ≡ true
on_from_not true e = refl
on_from_not false e = cc (e)
