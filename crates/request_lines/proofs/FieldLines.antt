-- The words of the factors on a field line, read one after another.
use Rattle.std.proofs.Common.{◌≡◌, ◌∙◌, Option, Some, None, length-append, ℕ, zero, suc, ◌+◌, ◌<◌, ◌≤◌, List, [], ◌∷◌, ◌++◌, length, slice_index, refl, sym, ap, subst, arith}
use Rattle.std.specs.Prelude.{codes, decimal, IsSome, IfSome, MatchOption}
use Rattle.std.specs.List.{AllByRecursion}
use Rattle.matroid_theory.specs.Field.{IsFactors}
use Rattle.formats.specs.Statement.{most_order}
use Rattle.request_lines.specs.Spellings.{factor_words}
use Rattle.request_lines.specs.Versions.{IsOrderIn, AreFactorsIn}

-- the words of some orders, each with an `x` behind it
abbrev pub begun : List ℕ → List (List ℕ)
begun [] = []
begun (q ∷ qs) = decimal q ∷ codes "x" ∷ begun qs

-- one more order, with more to come
pub begun_more : (qs : List ℕ) (q : ℕ) (words : List (List ℕ)) → begun qs ++ decimal q ∷ codes "x" ∷ words ≡ begun (qs ++ q ∷ []) ++ words
begun_more [] q words = refl
begun_more (o ∷ qs) q words = ap (λ (l : List (List ℕ)). decimal o ∷ codes "x" ∷ l) (begun_more qs q words)

-- the last order
pub begun_last : (qs : List ℕ) (q : ℕ) → begun qs ++ decimal q ∷ [] ≡ factor_words (qs ++ q ∷ [])
begun_last [] q = refl
begun_last (o ∷ []) q = refl
begun_last (o ∷ p ∷ qs) q = ap (λ (l : List (List ℕ)). decimal o ∷ codes "x" ∷ l) (begun_last (p ∷ qs) q)

-- The words are those of what is left of some factors after the first n, at least one.
pub record AreLeft (version n : ℕ) (factors : List ℕ) (words : List (List ℕ)) : Type 0 where
  pub next : ℕ
  pub more : List ℕ
  pub fields : (f : ℕ) → f < length (next ∷ more) → IsOrderIn version (slice_index (next ∷ more) f)
  pub long : n + 1 + length more ≡ length factors
  pub words_are : words ≡ factor_words (next ∷ more)

small_at : (version : ℕ) (qs : List ℕ) → AllByRecursion (λ order. order ≤ most_order version) qs → (f : ℕ) → f < length qs →
    slice_index qs f ≤ most_order version
small_at version [] all f l = absurd (omega arith)
small_at version (q ∷ qs) all zero l = all.0
small_at version (q ∷ qs) all (suc f) l = small_at version qs all.1 f (omega arith)

-- orders one by one are factors
small_all : (version : ℕ) (qs : List ℕ) → ((f : ℕ) → f < length qs → IsOrderIn version (slice_index qs f)) →
    AllByRecursion (λ order. order ≤ most_order version) qs
small_all version [] all = tt
small_all version (q ∷ qs) all = ((all 0 (omega arith)).1, small_all version qs (λ f l. all (suc f) (omega arith)))

pub are_factors : (version : ℕ) (qs : List ℕ) → 0 < length qs → length qs ≤ 3 →
    ((f : ℕ) → f < length qs → IsOrderIn version (slice_index qs f)) → AreFactorsIn version qs
are_factors version qs some few all = (record { some = some; few = few; fields = λ f l. (all f l).0 }, small_all version qs all)

-- before the first word, all are left
pub all_left : (version : ℕ) (factors : List ℕ) (words : List (List ℕ)) → AreFactorsIn version factors →
    words ≡ factor_words factors → AreLeft version 0 factors words
all_left version [] words are e = absurd (omega (arith, are.0.some))
all_left version (q ∷ qs) words are e =
    record { next = q; more = qs; fields = λ f l. (are.0.fields f l, small_at version (q ∷ qs) are.1 f l); long = omega arith; words_are = e }

-- one order less
pub less_left : (version n : ℕ) (factors : List ℕ) (word between : List ℕ) (words : List (List ℕ)) →
    AreLeft version n factors (word ∷ between ∷ words) → AreLeft version (n + 1) factors words
less_left version n factors word between words left = by left.more left.fields left.long left.words_are
  where
    by : (more : List ℕ) → ((f : ℕ) → f < length (left.next ∷ more) → IsOrderIn version (slice_index (left.next ∷ more) f)) →
        n + 1 + length more ≡ length factors → word ∷ between ∷ words ≡ factor_words (left.next ∷ more) → AreLeft version (n + 1) factors words
    by [] fields long e = cc (e)
    by (q ∷ qs) fields long e = record { next = q; more = qs; fields = λ f lt. fields (suc f) (omega arith); long = omega (arith, long); words_are = cc (e) }

-- the first word is an order
pub order_left : (version n : ℕ) (factors : List ℕ) (word : List ℕ) (words : List (List ℕ)) →
    AreLeft version n factors (word ∷ words) → (q : ℕ) × IsOrderIn version q × (word ≡ decimal q)
order_left version n factors word words left = (left.next, left.fields 0 (omega arith), by left.more left.words_are)
  where
    by : (more : List ℕ) → word ∷ words ≡ factor_words (left.next ∷ more) → word ≡ decimal left.next
    by [] e = cc (e)
    by (q ∷ qs) e = cc (e)

-- one more order is read
pub orders_more : (version : ℕ) (qs items : List ℕ) (q : ℕ) → ((f : ℕ) → f < length qs → IsOrderIn version (slice_index qs f)) →
    IsOrderIn version q → items ≡ qs ++ q ∷ [] → (f : ℕ) → f < length items → IsOrderIn version (slice_index items f)
orders_more version qs items q all is e = subst (λ (l : List ℕ). (f : ℕ) → f < length l → IsOrderIn version (slice_index l f)) (sym e) (pushed qs all)
  where
    pushed : (xs : List ℕ) → ((f : ℕ) → f < length xs → IsOrderIn version (slice_index xs f)) → (f : ℕ) →
        f < length (xs ++ q ∷ []) → IsOrderIn version (slice_index (xs ++ q ∷ []) f)
    pushed [] all zero lt = is
    pushed [] all (suc f) lt = absurd (omega arith)
    pushed (x ∷ xs) all zero lt = all 0 (omega arith)
    pushed (x ∷ xs) all (suc f) lt = pushed xs (λ k l. all (suc k) (omega arith)) f (omega arith)

-- the words read so far, with one more order and the `x` behind it
pub words_more : (qs items : List ℕ) (q : ℕ) (word : List ℕ) (words left after next : List (List ℕ)) → words ≡ begun qs ++ left →
    left ≡ word ∷ after → after ≡ codes "x" ∷ next → word ≡ decimal q → items ≡ qs ++ q ∷ [] → words ≡ begun items ++ next
words_more qs items q word words left after next e f g h k =
    e ∙ ap (λ (l : List (List ℕ)). begun qs ++ l) (f ∙ ap (λ (l : List (List ℕ)). word ∷ l) g ∙ ap (λ (w : List ℕ). w ∷ codes "x" ∷ next) h)
    ∙ begun_more qs q next ∙ ap (λ (l : List ℕ). begun l ++ next) (sym k)

-- all words, with the last order
pub words_all : (qs items : List ℕ) (q : ℕ) (word : List ℕ) (words left after : List (List ℕ)) → words ≡ begun qs ++ left →
    left ≡ word ∷ after → after ≡ [] → word ≡ decimal q → items ≡ qs ++ q ∷ [] → words ≡ factor_words items
words_all qs items q word words left after e f g h k =
    e ∙ ap (λ (l : List (List ℕ)). begun qs ++ l) (f ∙ ap (λ (l : List (List ℕ)). word ∷ l) g ∙ ap (λ (w : List ℕ). w ∷ []) h)
    ∙ begun_last qs q ∙ ap factor_words (sym k)

-- what is left after one more order
pub left_more : (version : ℕ) (qs items factors : List ℕ) (q : ℕ) (word between : List ℕ) (left after next : List (List ℕ)) →
    AreLeft version (length qs) factors left → left ≡ word ∷ after → after ≡ between ∷ next → items ≡ qs ++ q ∷ [] →
    AreLeft version (length items) factors next
left_more version qs items factors q word between left after next h e f k =
    let long : length qs + 1 ≡ length items = sym (ap length k ∙ length-append qs (q ∷ [])) in
    subst (λ (n : ℕ). AreLeft version n factors next) long
    (less_left version (length qs) factors word between next
    (subst (AreLeft version (length qs) factors) (e ∙ ap (λ (l : List (List ℕ)). word ∷ l) f) h))

-- the factors are found, as these orders
pub found_factors : (version : ℕ) {A : Type 0} (view : A → List ℕ) (o : Option A) (orders : List ℕ) (words : List (List ℕ)) (No : Type 0)
    → (IsFactors orders → IsSome o) → IfSome o (λ a. view a ≡ orders) → AreFactorsIn version orders → words ≡ factor_words orders
    → MatchOption o No (λ a. AreFactorsIn version (view a) × (words ≡ factor_words (view a)))
found_factors version view None orders words No some e are is = let h = some are.0 in cc (h)
found_factors version view (Some a) orders words No some e are is = (subst (AreFactorsIn version) (sym e) are, is ∙ ap factor_words (sym e))
