use Rattle.std.proofs.Common.{◌≡◌, ◌/◌, ◌%◌, ◌^◌, ℕ, List, sym, ◌∙◌, ap, subst, arith, bit_and, slice_index}
use Rattle.std.specs.Bool.{◌==◌}
use Rattle.std.specs.Int.{bit_at}
use Rattle.std.specs.List.{Contains}
use Rattle.std.proofs.lemmas.Nat.Bits.{shr_and_one}
use Rattle.matroid_theory.specs.Tables.{has}
use Rattle.represent.proofs.TableMasks.{contains_masks}
use Rattle.represent.proofs.table.Table.contains.Goals as goal

-- the bit of a mask that is shifted down to the lowest place
shifted : (words : List ℕ) (set word : ℕ) → word ≡ set / 64 → (bit_and (slice_index words word / 2 ^ (set % 64)) 1 == 1) ≡ has words set
shifted words set word e =
    ap (λ b. b == 1) (shr_and_one (slice_index words word) (set % 64)) ∙ ap (λ w. bit_at (slice_index words w) (set % 64) == 1) e

pub returns : goal.returns
returns c =
    let k = contains_masks 65536 c.self.inside.words c.args.set in
    let e = shifted c.self.inside.words c.args.set c.from-word.result c.from-word.ensures in (
      (λ t. subst (λ (xs : List ℕ). Contains xs c.args.set) c.self.view_is (k.1 (omega arith, sym e ∙ t))),
      (λ m. let w = k.0 (subst (λ (xs : List ℕ). Contains xs c.args.set) (sym c.self.view_is) m) in e ∙ w.1),
    )
