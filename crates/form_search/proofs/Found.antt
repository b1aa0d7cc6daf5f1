-- Lists of numbers, and what was found.
use Rattle.std.proofs.Common.{◌≡◌, ◌≢◌, inl, inr, refl, ℕ, zero, suc, ◌+◌, ◌-◌, ◌<◌, ◌≤◌, Bool, true, false, List, [], ◌∷◌, ◌++◌, length, length-append, slice_index, Option, Some, None, IfSome, sym, ◌∙◌, ap, subst, arith}
use Rattle.std.specs.Option.{MatchOption}
use Rattle.std.proofs.lemmas.Bool.{cases_lt}
use Rattle.std.specs.Cmp.{nat_cmp_total}
use Rattle.std.proofs.lemmas.Cmp.{ranked, nat_list_cmp_total, tied_itself}
use Rattle.std.specs.Cmp.Lexicographic.{slice_cmp}
use Rattle.std.specs.Ordering.{nat_cmp, ordering_then, MatchOrdering}
use Rattle.std.specs.declared.cmp.Ordering.{Ordering}
use Rattle.std.specs.declared.cmp.Ordering.TheVariants.{Less, Equal, Greater}
use Rattle.std.proofs.lemmas.List.FromFn.{get_or-map-range_with_len, length-map-range_with_len}
use Rattle.std.proofs.Math.Seq.{ext_get_or, get_or-append_seam}
use Rattle.std.proofs.Math.ListN.{get_or-append}
use mathlib.Core.Bool.{true≢false}
use Rattle.matroid_theory.specs.Rep.{Rep, size, matrix}
use Rattle.matroid_theory.specs.Move.{Move}
use Rattle.matrix_lemmas.proofs.Orderings.{at_most_chain}
use Rattle.form_trails.specs.Trail.{ReachesForm, Trail, Follows}
use Rattle.form_trails.specs.Least.{number}
use Rattle.form_search.specs.Search.{numbers_of, AreOfClass, IsAtMost, Covers, BeginsWith, IsBelow, Stands, Improves}

less_by : (x y : ℕ) (o : Ordering) → MatchOrdering o (x < y) (x ≡ y) (y < x) → x < y → o ≡ Less
less_by x y Less m l = refl
less_by x y Equal m l = absurd (omega arith)
less_by x y Greater m l = absurd (omega arith)

-- a list with a less number at the first place where they differ is less
pub below_less : (xs ys : List ℕ) (p : ℕ) → p < length xs → p < length ys →
    ((j : ℕ) → j < p → slice_index xs j ≡ slice_index ys j) → slice_index xs p < slice_index ys p → slice_cmp nat_cmp xs ys ≡ Less
below_less [] ys p l m h n = absurd (omega arith)
below_less (x ∷ xs) [] p l m h n = absurd (omega arith)
below_less (x ∷ xs) (y ∷ ys) zero l m h n = ap (λ o. ordering_then o (slice_cmp nat_cmp xs ys)) (less_by x y (nat_cmp x y) (ranked x y (nat_cmp x y) refl) n)
below_less (x ∷ xs) (y ∷ ys) (suc p) l m h n =
    ap (λ o. ordering_then o (slice_cmp nat_cmp xs ys)) (ap (nat_cmp x) (sym (h 0 (omega arith))) ∙ tied_itself nat_cmp_total x)
    ∙ below_less xs ys p (omega arith) (omega arith) (λ j b. h (suc j) (omega arith)) n

pub below_at_most : (xs ys : List ℕ) → IsBelow xs ys → slice_cmp nat_cmp xs ys ≢ Greater
below_at_most xs ys b e = let l : slice_cmp nat_cmp xs ys ≡ Less =
    below_less xs ys b.place b.settled_has b.numbers_have b.same b.less in let z : Less ≡ Greater = sym l ∙ e in cc

pub at_most_trans : (found : Option (List ℕ)) (xs ys : List ℕ) → IsAtMost found xs → slice_cmp nat_cmp xs ys ≢ Greater → IsAtMost found ys
at_most_trans None xs ys h n = h
at_most_trans (Some z) xs ys h n = at_most_chain (slice_cmp nat_cmp) nat_list_cmp_total z xs ys h n

-- ---- the numbers of a representation

module _ (M N : Rep) where
  pub numbers_length : length (numbers_of M N) ≡ size M - M.rank
  numbers_length = length-map-range_with_len (λ j. number M (λ f i. matrix N f i (M.rank + j))) 0 (size M - M.rank)

  pub numbers_at : (j : ℕ) → j < size M - M.rank → slice_index (numbers_of M N) j ≡ number M (λ f i. matrix N f i (M.rank + j))
  numbers_at j l = get_or-map-range_with_len (λ j. number M (λ f i. matrix N f i (M.rank + j))) 0 (size M - M.rank) j j 0 l (omega arith)

pub class_length : (M : Rep) (numbers : List ℕ) → AreOfClass M numbers → length numbers ≡ size M - M.rank
class_length M numbers c = ap (λ (w : List ℕ). length w) (sym c.numbers_are) ∙ numbers_length M c.member

-- ---- how what is settled stands to what was found

-- one more number, level with the next of what was found
pub stands_level : (found : Option (List ℕ)) (settled longer : List ℕ) (low : ℕ) → longer ≡ settled ++ low ∷ [] → Stands true found settled
    → MatchOption found ⊥ (λ least. (length settled < length least) × (low ≡ slice_index least (length settled))) → Stands true found longer
stands_level None settled longer low e b m = m
stands_level (Some least) settled longer low e b m = record {
  room = (let n : length longer ≡ length settled + 1 = ap (λ (w : List ℕ). length w) e ∙ length-append settled (low ∷ []) in let l = m.0 in omega arith);
  same = λ j l. ap (λ (w : List ℕ). slice_index w j) e
      ∙ (let n : length longer ≡ length settled + 1 = ap (λ (w : List ℕ). length w) e ∙ length-append settled (low ∷ []) in
      elim (cases_lt j (length settled)) [
        | inl q ↦ get_or-append settled (low ∷ []) 0 j q ∙ b.same j q
        | inr q ↦ (let z : length settled ≡ j = omega arith in ap (slice_index (settled ++ low ∷ [])) (sym z)
            ∙ get_or-append_seam settled low [] 0 ∙ m.1 ∙ ap (slice_index least) z)
      ]);
}

-- or below it
pub stands_below : (found : Option (List ℕ)) (settled longer : List ℕ) (low : ℕ) → longer ≡ settled ++ low ∷ [] → Stands true found settled
    → MatchOption found ⊥ (λ least. (length settled < length least) × (low < slice_index least (length settled))) → Stands false found longer
stands_below None settled longer low e b m = absurd m
stands_below (Some least) settled longer low e b m = let n : length longer ≡ length settled + 1 = ap (λ (w : List ℕ). length w) e
    ∙ length-append settled (low ∷ []) in record {
      place = length settled;
      settled_has = omega arith;
      numbers_have = m.0;
      same = λ j q. ap (λ (w : List ℕ). slice_index w j) e ∙ get_or-append settled (low ∷ []) 0 j q ∙ b.same j q;
      less = subst (λ v. v < slice_index least (length settled))
          (sym (ap (λ (w : List ℕ). slice_index w (length settled)) e ∙ get_or-append_seam settled low [] 0)) m.1;
    }

-- what is below stays below
pub stands_on : (found : Option (List ℕ)) (settled longer : List ℕ) (low : ℕ) → longer ≡ settled ++ low ∷ [] →
    Stands false found settled → Stands false found longer
stands_on None settled longer low e b = b
stands_on (Some least) settled longer low e b = let n : length longer ≡ length settled + 1 = ap (λ (w : List ℕ). length w) e
    ∙ length-append settled (low ∷ []) in record {
      place = b.place;
      settled_has = (let l = b.settled_has in omega arith);
      numbers_have = b.numbers_have;
      same = λ j q. ap (λ (w : List ℕ). slice_index w j) e
          ∙ get_or-append settled (low ∷ []) 0 j (let l : b.place < length settled = b.settled_has in omega arith) ∙ b.same j q;
      less = subst (λ v. v < slice_index least b.place)
          (sym (ap (λ (w : List ℕ). slice_index w b.place) e ∙ get_or-append settled (low ∷ []) 0 b.place b.settled_has)) b.less;
    }

-- a list that begins with one more number begins with those before
pub begins_before : (settled longer numbers : List ℕ) (low : ℕ) → longer ≡ settled ++ low ∷ [] → BeginsWith longer numbers → BeginsWith settled numbers
begins_before settled longer numbers low e b = let n : length longer ≡ length settled + 1 = ap (λ (w : List ℕ). length w) e
    ∙ length-append settled (low ∷ []) in record {
      room = (let l = b.room in omega arith);
      same = λ j q. sym (ap (λ (w : List ℕ). slice_index w j) e ∙ get_or-append settled (low ∷ []) 0 j q) ∙ b.same j (omega arith);
    }

-- ---- giving up

module _ (M : Rep) (d : Trail) (k s : ℕ) where
  -- where each form has a greater number at the first place where it may differ
  pub given_up : (found : Option (List ℕ)) (settled : List ℕ) → length settled ≡ s → M.rank + s ≤ size M → Stands true found settled
      → ((m : Move) (N : Rep) → ReachesForm M m N → Follows M d k s m → (j : ℕ) → j < s → number M (λ f i. matrix N f i (M.rank + j)) ≡ slice_index settled j)
      → MatchOption found ⊥ (λ least. (s < length least) × (length least ≡ size M - M.rank)
      × ((m : Move) (N : Rep) → ReachesForm M m N → Follows M d k s m → slice_index least s < number M (λ f i. matrix N f i (M.rank + s))))
      → Covers M d k s found
  given_up None settled e r b h g m N reach f = b
  given_up (Some least) settled e r b h g m N reach f =
      let n : length (numbers_of M N) ≡ size M - M.rank = numbers_length M N in
      let q : s < length least = g.0 in let q' : length least ≡ size M - M.rank = g.1 in
      below_at_most least (numbers_of M N) (record {
        place = s;
        settled_has = g.0;
        numbers_have = omega arith;
        same = λ j l. sym (b.same j (omega arith)) ∙ sym (numbers_at M N j (omega arith) ∙ h m N reach f j l);
        less = subst (λ v. slice_index least s < v) (sym (numbers_at M N s (omega arith))) (g.2 m N reach f);
      })

-- ---- what was found

pub improves_nothing : (M : Rep) (found : Option (List ℕ)) (settled : List ℕ) → IfSome found (AreOfClass M) → Improves M found found settled false
improves_nothing M found settled s = record { sound = s; lower = λ _ h. h; kept = λ _. refl; begins = λ e. absurd (true≢false (sym e)) }

-- a part after a part
pub improves_more : (M : Rep) (old now new : Option (List ℕ)) (settled : List ℕ) (a b c : Bool) → Improves M old now settled a → Improves M now new settled b
    → (c ≡ false → (a ≡ false) × (b ≡ false)) → (c ≡ true → (b ≡ false → a ≡ true)) → Improves M old new settled c
improves_more M old now new settled a b c x y none one = record {
  sound = y.sound;
  lower = λ n h. y.lower n (x.lower n h);
  kept = λ e. y.kept ((none e).1) ∙ x.kept ((none e).0);
  begins = λ e. by b refl e;
}
  where
    by : (b' : Bool) → b ≡ b' → c ≡ true → MatchOption new ⊥ (λ least. BeginsWith settled least)
    by true z e = y.begins z
    by false z e = subst (λ (w : Option (List ℕ)). MatchOption w ⊥ (λ least. BeginsWith settled least)) (sym (y.kept z)) (x.begins (one e z))

-- seen from fewer settled numbers
pub improves_before : (M : Rep) (old new : Option (List ℕ)) (settled longer : List ℕ) (low : ℕ) (r : Bool) →
    longer ≡ settled ++ low ∷ [] → Improves M old new longer r → Improves M old new settled r
improves_before M old new settled longer low r e w = record { sound = w.sound; lower = w.lower; kept = w.kept; begins = λ z. by new (w.begins z) }
  where
    by : (o : Option (List ℕ)) → MatchOption o ⊥ (λ least. BeginsWith longer least) → MatchOption o ⊥ (λ least. BeginsWith settled least)
    by None h = h
    by (Some least) h = begins_before settled longer least low e h

-- what covers goes on covering
pub covers_on : (M : Rep) (d : Trail) (k s : ℕ) (old new : Option (List ℕ)) →
    ((numbers : List ℕ) → IsAtMost old numbers → IsAtMost new numbers) → Covers M d k s old → Covers M d k s new
covers_on M d k s old new w c m N reach f = w (numbers_of M N) (c m N reach f)

-- how it stands afterwards: level where it was replaced
pub stands_after : (M : Rep) (old new : Option (List ℕ)) (settled : List ℕ) (replaced level after : Bool) →
    Improves M old new settled replaced → Stands level old settled
    → (replaced ≡ true → after ≡ true) → (replaced ≡ false → after ≡ level) → Stands after new settled
stands_after M old new settled true level after w h a b = subst (λ (v : Bool). Stands v new settled) (sym (a refl)) (w.begins refl)
stands_after M old new settled false level after w h a b = subst (λ (v : Bool). Stands v new settled) (sym (b refl))
    (subst (λ (o : Option (List ℕ)). Stands level o settled) (sym (w.kept refl)) h)

-- ---- a full list

-- the settled numbers are those of each form
pub full_at_most : (M : Rep) (N : Rep) (settled : List ℕ) → M.rank + length settled ≡ size M →
    ((j : ℕ) → j < length settled → number M (λ f i. matrix N f i (M.rank + j)) ≡ slice_index settled j)
    → numbers_of M N ≡ settled
full_at_most M N settled e h = ext_get_or 0 (numbers_of M N) settled (numbers_length M N ∙ omega arith)
    (λ j l. let n : length (numbers_of M N) ≡ size M - M.rank = numbers_length M N in numbers_at M N j (omega arith) ∙ h j (omega arith))

-- a list of one length that begins with the settled numbers is these
pub full_begins : (settled numbers : List ℕ) → length settled ≡ length numbers → BeginsWith settled numbers → settled ≡ numbers
full_begins settled numbers e b = ext_get_or 0 settled numbers e b.same

-- it takes the place of what it is below
pub replaced : (M : Rep) (old : Option (List ℕ)) (settled : List ℕ) → Stands false old settled → AreOfClass M settled →
    Improves M old (Some settled) settled true
replaced M old settled b c = record {
  sound = c;
  lower = by old b;
  kept = λ e. absurd (true≢false e);
  begins = λ _. record { room = omega arith; same = λ j l. refl };
}
  where
    by : (o : Option (List ℕ)) → Stands false o settled → (numbers : List ℕ) → IsAtMost o numbers → IsAtMost (Some settled) numbers
    by None b n h = absurd h
    by (Some least) b n h = at_most_chain (slice_cmp nat_cmp) nat_list_cmp_total settled least n (below_at_most settled least b) h
