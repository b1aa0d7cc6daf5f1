use Rattle.std.proofs.Common.{◌≡◌, ℕ, List, [], ◌∷◌, ◌++◌, drop, sym, ◌∙◌, ap, arith, inl, inr}
use Rattle.std.specs.Prelude.{decimal}
use Rattle.named_matroids.proofs.Spelt.{rest_of, same_numbers}
use Rattle.named_matroids.proofs.spelling.uniform_of.Goals as goal

-- what is behind the first letter
behind : (w text : List ℕ) → (85 ∷ w) ∷ [] ≡ text ∷ [] → w ≡ drop 1 text
behind w text e = let h : 85 ∷ w ≡ text = cc (e) in ap (λ (t : List ℕ). drop 1 t) h

pub returns-in_err-rank : goal.returns-in_err-rank
returns-in_err-rank c = rw c.from_residual.ensures (λ r s u e.
    c.in_err-rank.ensures r s (omega (arith, u.low, u.short)) u.short
    (behind (decimal r ++ 44 ∷ decimal s) c.args.text.now e ∙ sym (rest_of c.args.text.now 1)))

pub returns-else-rank-size : goal.returns-else-rank-size
returns-else-rank-size c = λ r s u e.
    let n = c.in_ok-rank.ensures in
    let w = same_numbers c.in_ok-rank.rank c.in_ok-rank.size r s n.0 n.1 (omega (arith, u.low, u.short)) u.short
    (n.2 ∙ rest_of c.args.text.now 1 ∙ sym (behind (decimal r ++ 44 ∷ decimal s) c.args.text.now e)) in
    elim c.else-rank-size.either [ inl h ↦ omega (arith, h.1, w.1, u.some) | inr h ↦ omega (arith, h, w.0, w.1, u.low) ]
