-- Each step of a turn keeps the rule.
use Rattle.std.proofs.Common.{◌≡◌, ◌≢◌, ℕ, zero, suc, ◌<◌, List, [], ◌∷◌, ◌++◌, map, length, eqb, refl, ap, sym, ◌∙◌, subst, inl, inr, ⊎_elim, arith, set, slice_index, slice_get, length-set, get_or-set_same, get_or-set_other, Option, Some}
use mathlib.Core.Logic.{dite}
use mathlib.Core.Option as maybe
use native.Mathlib.Decide.{ℕ_discrete}
use prog.Atomic.{either}
use lib.ListN.{get_elem?}
use Rattle.atomic_table.specs.Table.{step, keeps, takes, gives, Allows, Splits, opening}
use Rattle.atomic_table.proofs.Lists.{at_set, at_snoc, set_here, set_else}
use Rattle.stripe_turn.specs.declared.stripe.Stripe.{Stripe}
use Rattle.stripe_turn.specs.declared.stripe.Tables.{Tables}
use Rattle.stripe_turn.specs.Rule.{tables_in, tables_of, TurnFits, IsTurned, Turned, Turning, tries, gives_back}

module _ (key : Tables) (words : List ℕ) (homes : List (maybe.Option (Option Stripe))) (views : List Tables) (k : IsTurned key words homes views) where
  set_turn : (id : ℕ) (v : Tables) (at n : ℕ) (homes' : List (maybe.Option (Option Stripe))) → v ≡ key → length homes' ≡ length homes
      → ((i : ℕ) → i ≢ at → get_elem? homes' i ≡ get_elem? homes i)
      → TurnFits key (set words at n) homes' at → IsTurned key (set words at n) homes' (set views id v)
  set_turn id v at n homes' is len same here = record {
    told = λ seat u e. ⊎_elim (λ t. sym t.1 ∙ is) (λ t. k.told seat u t.1) (at_set views id seat v u e);
    width = length-set words at n ∙ k.width;
    places = len ∙ k.places;
    turns = λ i lt. dite (ℕ_discrete i at) (λ e. subst (TurnFits key (set words at n) homes') (sym e) here)
        (λ ne. let w : slice_index (set words at n) i ≡ slice_index words i = get_or-set_other words at i n 0 ne in
        ⊎_elim (λ f. inl (w ∙ f.0, (f.1.0, same i ne ∙ f.1.1, f.1.2))) (λ o. inr (w ∙ o.0, same i ne ∙ o.1)) (k.turns i lt));
  }

  word_set : (at n : ℕ) → at < length (tables_of key) → slice_index (set words at n) at ≡ n
  word_set at n lt = get_or-set_same words at n 0 (let w = k.width in omega arith)

two_words : (n : ℕ) → n ≡ 1 → n ≡ 0 → ⊥
two_words n p q = omega arith

pub attempts : (key : Tables) (slots id : ℕ) (me : Turning) (at : ℕ) → at < length (tables_of key)
    → Allows (Turned key) slots id me at (λ n. either (eqb n 0) 1 n) (tries (step slots at 0 1 maybe.none) me)
attempts key slots id me at lt s k hs there small = let is : me.0 ≡ key = k.told id me.0 there in ⊎_elim
    (λ f. (
      me.0,
      takes at (Some f.1.0),
      f.1.1,
      subst (λ n. IsTurned key (set s.words at (either (eqb n 0) 1 n)) (set s.homes at maybe.none) (set s.views id me.0)) (sym f.0)
          (set_turn key s.words s.homes s.views k id me.0 at 1 (set s.homes at maybe.none) is (length-set s.homes at maybe.none)
          (λ i ne. set_else s.homes at i maybe.none ne)
          (inr (word_set key s.words s.homes s.views k at 1 lt, set_here s.homes at maybe.none (let p = k.places in omega arith)))),
      ((λ zero_found. (f.1.0, refl, subst (λ t. slice_get (tables_of t) at ≡ Some f.1.0.book.table) (sym is) f.1.2)), λ ne. absurd (ne f.0)),
    ))
    (λ o. (
      me.0,
      keeps,
      tt,
      subst (λ n. IsTurned key (set s.words at (either (eqb n 0) 1 n)) s.homes (set s.views id me.0)) (sym o.0)
          (set_turn key s.words s.homes s.views k id me.0 at 1 s.homes is refl (λ i ne. refl) (inr (word_set key s.words s.homes s.views k at 1 lt, o.1))),
      ((λ z. absurd (two_words (slice_index s.words at) o.0 z)), λ ne. refl),
    ))
    (k.turns at lt)

pub gives_well : (key : Tables) (slots id : ℕ) (v : Tables) (at : ℕ) (y : Stripe) (r : List (ℕ × Option Stripe)) → at < length (tables_of key)
    → slice_get (tables_of v) at ≡ Some y.book.table
    → Allows (Turned key) slots id (v, (at, Some y) ∷ r) at (λ _. 0) (λ _. gives_back (step slots at 0 0 maybe.none) (v, (at, Some y) ∷ r) 0)
gives_well key slots id v at y r lt tab s k hs there small = let is : v ≡ key = k.told id v there in (
  v,
  gives,
  tt,
  set_turn key s.words s.homes s.views k id v at 0 (set s.homes at (maybe.some (Some y))) is (length-set s.homes at (maybe.some (Some y)))
      (λ i ne. set_else s.homes at i (maybe.some (Some y)) ne)
      (inl (
        word_set key s.words s.homes s.views k at 0 lt,
        (
          y,
          set_here s.homes at (maybe.some (Some y)) (let p = k.places in omega arith),
          subst (λ t. slice_get (tables_of t) at ≡ Some y.book.table) is tab,
        ),
      )),
  refl,
)

pub gives_at : (key : Tables) (slots id : ℕ) (me : Turning) (at : ℕ) (v : Tables) (y : Stripe) (r : List (ℕ × Option Stripe))
    → me ≡ (v, (at, Some y) ∷ r) → at < length (tables_of key) → slice_get (tables_of v) at ≡ Some y.book.table
    → Allows (Turned key) slots id me at (λ _. 0) (λ _. gives_back (step slots at 0 0 maybe.none) me 0)
gives_at key slots id me at v y r e lt tab = subst
    (λ m. Allows (Turned key) slots id m at (λ _. 0) (λ _. gives_back (step slots at 0 0 maybe.none) m 0)) (sym e)
    (gives_well key slots id v at y r lt tab)

at_end : (views : List Tables) (key : Tables) (seat : ℕ) (v : Tables) → ((i : ℕ) (u : Tables) → get_elem? views i ≡ maybe.some u → u ≡ key)
    → get_elem? (views ++ key ∷ []) seat ≡ maybe.some v → v ≡ key
at_end views key seat v told e = ⊎_elim (λ t. told seat v t) (λ t. sym t) (at_snoc views key v seat e)

-- one more seat, which knows the key
pub splits_well : (key : Tables) (id : ℕ) (v : Tables) → Splits (Turned key) id v v v
splits_well key id v s k there = let is : v ≡ key = k.told id v there in record {
  told = λ seat u e. ⊎_elim (λ (t : get_elem? (set s.views id v) seat ≡ maybe.some u). ⊎_elim (λ p. sym p.1 ∙ is) (λ p. k.told seat u p.1)
      (at_set s.views id seat v u t)) (λ (t : v ≡ u). sym t ∙ is) (at_snoc (set s.views id v) v u seat e);
  width = k.width;
  places = k.places;
  turns = k.turns;
}

homes_are : (stripes : List Stripe) (i : ℕ) → i < length (tables_in stripes)
    → (y : Stripe) × (get_elem? (map maybe.some (map Some stripes)) i ≡ maybe.some (maybe.some (Some y)))
    × (slice_get (tables_in stripes) i ≡ Some y.book.table)
homes_are [] i below = absurd (omega arith)
homes_are (y ∷ ys) zero below = (y, refl, refl)
homes_are (y ∷ ys) (suc i) below = homes_are ys i (omega arith)

homes_length : (stripes : List Stripe) → length (map maybe.some (map Some stripes)) ≡ length (tables_in stripes)
homes_length [] = refl
homes_length (y ∷ ys) = ap suc (homes_length ys)

only_view : (key : Tables) (seat : ℕ) (v : Tables) → get_elem? (key ∷ []) seat ≡ maybe.some v → v ≡ key
only_view key zero v e = sym (maybe.some-injective key v e)
only_view key (suc n) v e = absurd (maybe.some-ne-none v (sym e))

-- the rule at the start
pub begins_well : (key : Tables) (words : List ℕ) (slots : List (Option Stripe)) → slots ≡ map Some key.of.value.items
    → length words ≡ length (tables_of key) → ((i : ℕ) → slice_index words i ≡ 0)
    → Turned key (opening words slots key)
begins_well key words slots is width zero_words = subst (λ l. Turned key (opening words l key)) (sym is) record {
  told = only_view key;
  width = width;
  places = homes_length key.of.value.items;
  turns = λ i below. inl (zero_words i, homes_are key.of.value.items i below);
}
