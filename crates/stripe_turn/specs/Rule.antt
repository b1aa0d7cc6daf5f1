-- The rule of the turns' table, and what its steps tell.
use Rattle.std.specs.Prelude.{ℕ, ◌<◌, ◌≡◌, ◌≢◌, ◌⊎◌, List, ◌∷◌, map, length, slice_index, slice_get, Option, Some}
use mathlib.Core.Option as maybe
use lib.ListN.{get_elem?}
use Rattle.atomic_table.specs.Table.{State, Me, Step, rest}
use Rattle.atomic_table.specs.Seated.{TableId}
use Rattle.stripe_turn.specs.declared.stripe.Stripe.{Stripe}
use Rattle.stripe_turn.specs.declared.stripe.Tables.{Tables}

-- the tables of the stripes' books
abbrev pub tables_in : List Stripe → List TableId
tables_in stripes = map (λ (s : Stripe). s.book.table) stripes

abbrev pub tables_of : Tables → List TableId
tables_of t = tables_in t.of.value.items

-- the turn i is free, and its stripe is at home, or it is held, and the stripe is out
abbrev pub TurnFits : Tables → List ℕ → List (maybe.Option (Option Stripe)) → ℕ → Type 0
TurnFits key words homes i =
    ((slice_index words i ≡ 0) × ((y : Stripe) × (get_elem? homes i ≡ maybe.some (maybe.some (Some y))) × (slice_get (tables_of key) i ≡ Some y.book.table)))
    ⊎ ((slice_index words i ≡ 1) × (get_elem? homes i ≡ maybe.some maybe.none))

pub record IsTurned (key : Tables) (words : List ℕ) (homes : List (maybe.Option (Option Stripe))) (views : List Tables) : Type 0 where
  pub told : (seat : ℕ) (v : Tables) → get_elem? views seat ≡ maybe.some v → v ≡ key
  pub width : length words ≡ length (tables_of key)
  pub places : length homes ≡ length (tables_of key)
  pub turns : (i : ℕ) → i < length (tables_of key) → TurnFits key words homes i

abbrev pub Turned : Tables → State (Option Stripe) Tables → Type 0
Turned key s = IsTurned key s.words s.homes s.views

abbrev pub Turning : Type 0
Turning = Me (Option Stripe) Tables

-- an attempt gets the stripe where the turn was free
abbrev pub tries : Step (Option Stripe) → Turning → ℕ → Turning → Type 0
tries st me found w =
    (found ≡ 0 → (y : Stripe) × (w ≡ (me.0, (st.word, Some y) ∷ me.1)) × (slice_get (tables_of me.0) st.word ≡ Some y.book.table))
    × (found ≢ 0 → w ≡ me)

abbrev pub gives_back : Step (Option Stripe) → Turning → ℕ → Turning → Type 0
gives_back st me found w = w ≡ (me.0, rest me.1)
