-- The order of representations, read from their codes.
use Rattle.std.proofs.Common.{◌≡◌, ℕ, zero, suc, ◌*◌, refl, sym, ◌∙◌, ap, arith, List, [], ◌∷◌, length, take, drop, length-drop, length-take}
use Rattle.std.proofs.lemmas.List.{take-append-drop}
use Rattle.std.specs.Cmp.Lexicographic.{slice_cmp}
use Rattle.std.specs.Ordering.{ordering_then, nat_cmp}
use Rattle.std.specs.declared.cmp.Ordering.{Ordering}
use Rattle.matroid_theory.specs.Rep.{shape}
use Rattle.matroid_theory.specs.Order.{rep_cmp}
use Rattle.matroid_laws.proofs.Prefix.{slice_cmp-append}
use Rattle.product_rep.specs.declared.rep.Rep.TheInside.{Inside}
use Rattle.product_rep.specs.Pieces.{pieces, matrices, KeepsRep}
use Rattle.product_rep.proofs.PiecesLemmas.{size-matrices}

-- the order column by column is the order code by code
slice_cmp-pieces : (R : ℕ → ℕ → Ordering) (w n : ℕ) (xs ys : List ℕ) → length xs ≡ n * w → length ys ≡ n * w →
    slice_cmp (slice_cmp R) (pieces w n xs) (pieces w n ys) ≡ slice_cmp R xs ys
slice_cmp-pieces R w zero [] [] e h = refl
slice_cmp-pieces R w zero [] (y ∷ ys) e h = absurd (omega arith)
slice_cmp-pieces R w zero (x ∷ xs) ys e h = absurd (omega arith)
slice_cmp-pieces R w (suc n) xs ys e h =
    ap (ordering_then (slice_cmp R (take w xs) (take w ys)))
    (slice_cmp-pieces R w n (drop w xs) (drop w ys) (omega (arith, length-drop w xs)) (omega (arith, length-drop w ys)))
    ∙ sym (slice_cmp-append R (take w xs) (drop w xs) (take w ys) (drop w ys) (omega (arith, length-take w xs, length-take w ys)))
    ∙ (λ i. slice_cmp R (take-append-drop w xs i) (take-append-drop w ys i))

-- codes compare as representations of one shape do
pub compare-matrices : (a b : Inside) → KeepsRep a → KeepsRep b → shape (matrices a) ≡ shape (matrices b) →
    slice_cmp nat_cmp a.codes.items b.codes.items ≡ rep_cmp (matrices a) (matrices b)
compare-matrices a b k h e =
    let n : b.size ≡ a.size = sym (size-matrices b) ∙ sym (ap (λ s. s.size) e) ∙ size-matrices a in
    let w : b.rank * length b.factors ≡ a.rank * length a.factors = sym (ap (λ s. s.rank * length s.factors) e) in
    let l : length b.codes.items ≡ a.size * (a.rank * length a.factors) = h.full ∙ (λ i. n i * w i) in
    sym (slice_cmp-pieces nat_cmp (a.rank * length a.factors) a.size a.codes.items b.codes.items k.full l)
    ∙ ap (slice_cmp (slice_cmp nat_cmp) (pieces (a.rank * length a.factors) a.size a.codes.items)) (λ i. pieces (sym w i) (sym n i) b.codes.items)
