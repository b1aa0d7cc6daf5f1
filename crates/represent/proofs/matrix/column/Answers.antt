use Rattle.std.proofs.Common.{◌≡◌, ◌+◌, ◌++◌, ◌∷◌, [], ℕ, List, length, map, sym, ◌∙◌, ap, arith}
use Rattle.std.specs.List.{range_with_len}
use Rattle.std.proofs.lemmas.List.FromFn.{map-range_with_len_more, length-map-range_with_len}
use Rattle.represent.specs.Filled.{entry}
use Rattle.represent.proofs.matrix.column.Goals as goal

-- one more code
one_more : (f : ℕ → ℕ) (i v : ℕ) (old new : List ℕ) → new ≡ old ++ v ∷ [] → v ≡ f i → old ≡ map f (range_with_len 0 i)
    → new ≡ map f (range_with_len 0 (i + 1))
one_more f i v old new e d h = e ∙ (λ t. h t ++ d t ∷ []) ∙ sym (map-range_with_len_more f 0 i i (omega arith))

pub loop-i-preserved : goal.loop-i-preserved
loop-i-preserved c =
    let e = one_more (λ i. entry c.args.rank c.args.codes.now.items i c.args.j) c.loop-i.i c.entry.result c.loop-i.column.items
    c.push.new.self.items c.push.ensures.items c.entry.ensures c.loop-i.invariant.codes in
    record { rows = ap (λ (xs : List ℕ). length xs) e ∙ length-map-range_with_len _ 0 (c.loop-i.i + 1); codes = e }
