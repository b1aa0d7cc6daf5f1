-- The move that changes nothing, with the power of one factor set.
use Rattle.std.proofs.Common.{◌≡◌, ◌≢◌, ℕ, ◌<◌, length, sym, ◌∙◌, ap, subst, inl, inr, slice_index, slice_set}
use Rattle.std.proofs.lemmas.Bool.{cases_eq}
use Rattle.std.proofs.lemmas.List.{get_or-set_same, get_or-set_other}
use Rattle.matroid_theory.specs.declared.Mode.TheVariants.{Semilinear}
use Rattle.matroid_theory.specs.Field.{degree, raised}
use Rattle.matroid_theory.specs.Rep.{Rep, Shape, count, order, matrix, shape, KeepsLimits}
use Rattle.matroid_theory.specs.Move.{MoveTable, IsMove, TakesTo, move_of}
use Rattle.matroid_theory.specs.Powers.{IsRaised}
use Rattle.matroid_laws.proofs.Semilinear.{with_power, power_here, power_elsewhere, power_move}
use Rattle.product_rep.specs.Tables.{KeepsMove, IsIdentityTable}
use Rattle.product_rep.proofs.IdentityLemmas.{unit_moved}

-- the table with that power of factor f
abbrev with_table_power : MoveTable → ℕ → ℕ → MoveTable
with_table_power t f p = record t { powers = slice_set t.powers f p }

module _ (M : Rep) (t : MoveTable) (f p : ℕ) (h : KeepsLimits M) (k : KeepsMove t) (e : t.shape ≡ shape M) (l : f < count M) where
  set_here : slice_index (slice_set t.powers f p) f ≡ p
  set_here = get_or-set_same t.powers f p 0 (subst (λ (n : ℕ). f < n) (sym (k.powers ∙ ap (λ (S : Shape). length S.factors) e)) l)

  set_elsewhere : (g : ℕ) → g ≢ f → slice_index (slice_set t.powers f p) g ≡ slice_index t.powers g
  set_elsewhere g n = get_or-set_other t.powers f g p 0 n

  -- a move stays one
  pub power_valid : p < degree (order M f) → IsMove Semilinear (shape M) (move_of t) → IsMove Semilinear (shape M) (move_of (with_table_power t f p))
  power_valid d v = subst (IsMove Semilinear (shape M)) (λ u. record (move_of t) { power = λ g. sym (at g) u }) (power_move (shape M) (move_of t) f p d v)
    where
      at : (g : ℕ) → slice_index (slice_set t.powers f p) g ≡ with_power f p (slice_index t.powers) g
      at g = elim (cases_eq g f) [
        | inl e ↦ ap (slice_index (slice_set t.powers f p)) e ∙ set_here
            ∙ sym (ap (with_power f p (slice_index t.powers)) e ∙ power_here f p (slice_index t.powers))
        | inr n ↦ set_elsewhere g n ∙ sym (power_elsewhere f p (slice_index t.powers) g n)
      ]

  -- what the move that changes nothing makes of M with that power
  pub power_takes : (N : Rep) → IsIdentityTable (shape M) t → TakesTo M (move_of (with_table_power t f p)) N → IsRaised M f p N
  power_takes N i x = record {
    same_shape = x.same_shape;
    shaped = x.shaped;
    here = λ a j m n. x.codes f a j l m n ∙ unit_moved M (with_table_power t f p) h i.rows i.scalars i.labels f a j l m n
        ∙ ap (λ (y : ℕ). raised (order M f) y (matrix M f a j)) set_here;
    elsewhere = λ g a j o d m n. x.codes g a j o m n ∙ unit_moved M (with_table_power t f p) h i.rows i.scalars i.labels g a j o m n
        ∙ ap (λ (y : ℕ). raised (order M g) y (matrix M g a j)) (set_elsewhere g d ∙ i.powers g o);
  }
