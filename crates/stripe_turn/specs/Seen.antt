-- What contracts see of the turns of a level.
use Rattle.std.specs.Prelude.{ℕ, ◌<◌, ◌≡◌, ◌==◌, not, List, map, zero, suc, Option, None}
use Rattle.std.specs.List.{filter, IsDistinct, AllByRecursion}
use lib.Dec.{eqb}
use Rattle.atomic_table.specs.Table.{Me, turned}
use Rattle.atomic_table.specs.Seated.{TableId}
use Rattle.stripe_turn.specs.declared.stripe.Stripe.{Stripe}
use Rattle.stripe_turn.specs.declared.stripe.Tables.{Tables}

-- the turns: their table, and the tables of the stripes in order
pub record TurnsSide : Type 0 where
  pub turns : TableId
  pub tables : List TableId

-- a turn: the table of turns and the tables of the stripes, and the stripes that it holds, the last one first
pub record TurnSide : Type 0 where
  pub turns : TableId
  pub tables : List TableId
  pub held : List ℕ

-- the numbers but this one
abbrev pub without : ℕ → List ℕ → List ℕ
without at held = filter (λ k. not (at == k)) held

-- a stripe that is held is out of its slot
abbrev pub out_slot : ℕ → ℕ × Option Stripe
out_slot k = (k, None)

-- the seat holds just the slots of these stripes
pub record IsTurn (held : List ℕ) (words : ℕ) (me : Me (Option Stripe) Tables) : Type 0 where
  pub slots : me.1 ≡ map out_slot held
  pub apart : IsDistinct eqb held
  pub within : AllByRecursion (λ k. k < words) held

-- the first of the list goes behind the others, so many times
abbrev pub turned_by : {A : Type 0} → ℕ → List (ℕ × A) → List (ℕ × A)
turned_by zero xs = xs
turned_by (suc n) xs = turned_by n (turned xs)
