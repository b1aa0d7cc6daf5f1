-- A column less: what its removal leaves of the codes, of the columns and of the representation.
use Rattle.std.proofs.Common.{◌≡◌, ℕ, zero, suc, ◌+◌, ◌-◌, ◌*◌, ◌<◌, ◌≤◌, sym, ◌∙◌, ap, subst, arith, List, [], ◌∷◌, ◌++◌, length, take, drop, length-append, length-drop, inl, inr, add-one}
use Rattle.std.specs.List.{slice_index, slice_index_or, remove}
use Rattle.std.proofs.lemmas.Bool.{cases_lt}
use Rattle.std.proofs.lemmas.List.{take-append-le, drop-append-le, drop-take, drop-drop, length-take-le}
use Rattle.std.proofs.lemmas.List.Edits.{length-remove, get_or-remove_below, get_or-remove_above}
use Rattle.std.proofs.Math.Nat.{mul-le-mul, le_refl}
use Rattle.std.proofs.Math.Seq.{take-add}
use Rattle.matroid_theory.specs.Rep.{Rep, count, size, order, IsShaped, KeepsLimits}
use Rattle.product_rep.specs.declared.rep.Rep.TheInside.{Inside}
use Rattle.product_rep.specs.Pieces.{pieces, matrices, KeepsRep}
use Rattle.product_rep.proofs.PiecesLemmas.{take-all, size-matrices, place_within}

-- what is left of a list without the places from a to b, cut where it is whole
front : (w a b : ℕ) (xs : List ℕ) → w + a ≤ length xs → take w (take (w + a) xs ++ drop (w + b) xs) ≡ take w xs
front w a b xs l =
    take-append-le w (take (w + a) xs) (drop (w + b) xs) (omega (arith, length-take-le (w + a) xs l))
    ∙ (ap (take w) (take-add w a xs) ∙ take-append-le w (take w xs) (take a (drop w xs)) (omega (arith, length-take-le w xs (omega arith))))
    ∙ take-all w (take w xs) (omega (arith, length-take-le w xs (omega arith)))

back : (w a b : ℕ) (xs : List ℕ) → w + a ≤ length xs → drop w (take (w + a) xs ++ drop (w + b) xs) ≡ take a (drop w xs) ++ drop b (drop w xs)
back w a b xs l =
    drop-append-le w (take (w + a) xs) (drop (w + b) xs) (omega (arith, length-take-le (w + a) xs l))
    ∙ (λ i. drop-take w a xs i ++ sym (drop-drop b w xs) i)

-- the pieces without piece j
pub pieces-remove : (w n : ℕ) (xs : List ℕ) (j : ℕ) → j ≤ n → length xs ≡ suc n * w →
    pieces w n (take (j * w) xs ++ drop (suc j * w) xs) ≡ remove (pieces w (suc n) xs) j
pieces-remove w n xs zero l e = (λ i. pieces w n (take (none i) xs ++ drop (one i) xs))
  where
    none : zero * w ≡ zero
    none = omega arith

    one : suc zero * w ≡ w
    one = omega arith
pieces-remove w zero xs (suc j) l e = absurd (omega arith)
pieces-remove w (suc n) xs (suc j) l e =
    (λ i. pieces w (suc n) (take (next i) xs ++ drop (over i) xs))
    ∙ (λ i. front w (j * w) (suc j * w) xs room i ∷ pieces w n (back w (j * w) (suc j * w) xs room i))
    ∙ ap (λ (ps : List (List ℕ)). take w xs ∷ ps) (pieces-remove w n (drop w xs) j (omega arith) (omega (arith, length-drop w xs)))
  where
    next : suc j * w ≡ w + j * w
    next = omega arith

    over : suc (suc j) * w ≡ w + suc j * w
    over = omega arith

    room : w + j * w ≤ length xs
    room = let h : j * w ≤ n * w = mul-le-mul (omega arith) (le_refl w) in omega arith

-- a column that is left was one before
was_column : (columns : List (List ℕ)) (j k : ℕ) → j < length columns → k < length (remove columns j) →
    (m : ℕ) × (m < length columns) × (slice_index_or (remove columns j) k [] ≡ slice_index_or columns m [])
was_column columns j k l m =
    let n : length (remove columns j) + 1 ≡ length columns = length-remove columns j l in
    elim (cases_lt k j) [
      | inl b ↦ (k, omega arith, get_or-remove_below columns j [] k b l)
      | inr g ↦ (k + 1, omega arith, get_or-remove_above columns j [] k g l)
    ]

-- the representation without column j
abbrev pub without : Rep → ℕ → Rep
without M j = record M { columns = remove M.columns j }

pub shaped_without : (M : Rep) (j : ℕ) → j < size M → IsShaped M → IsShaped (without M j)
shaped_without M j l s = record {
  orders = s.orders;
  lengths = λ k m. let c = was_column M.columns j k l m in ap (λ (v : List ℕ). length v) c.2 ∙ s.lengths c.0 c.1;
  codes = λ f i k o p m. let c = was_column M.columns j k l m in
      subst (λ (v : List ℕ). slice_index v (i * count M + f) < order M f) (sym c.2) (s.codes f i c.0 o p c.1);
}

-- how many codes are left
length-without : (n w j : ℕ) (xs : List ℕ) → j < n → length xs ≡ n * w → length (take (j * w) xs ++ drop ((j + 1) * w) xs) ≡ (n - 1) * w
length-without n w j xs l e =
    let b : j * w + w ≤ n * w = place_within n w j l in
    let p : (n - 1 + 1) * w ≡ n * w = ap (λ n. n * w) (omega arith) in
    omega (arith, length-append (take (j * w) xs) (drop ((j + 1) * w) xs), length-take-le (j * w) xs (omega arith), length-drop ((j + 1) * w) xs)

-- what the removal of a column makes of the fields
pub remove_view : (a b : Inside) (j : ℕ) → KeepsRep a → j < a.size → b.factors ≡ a.factors → b.rank ≡ a.rank → b.size + 1 ≡ a.size →
    b.codes.items ≡ take (j * (a.rank * length a.factors)) a.codes.items ++ drop
    ((j + 1) * (a.rank * length a.factors)) a.codes.items → matrices b ≡ without (matrices a) j
remove_view a b j k l f r s c =
    λ i. record { factors = f i; rank = r i; columns = columns i }
  where
    w : ℕ
    w = a.rank * length a.factors

    sizes : suc b.size ≡ a.size
    sizes = omega arith

    columns : (matrices b).columns ≡ remove (matrices a).columns j
    columns =
        (λ i. pieces (r i * length (f i)) b.size (c i))
        ∙ (λ i. pieces w b.size (take (j * w) a.codes.items ++ drop (add-one j i * w) a.codes.items))
        ∙ pieces-remove w b.size a.codes.items j (omega arith) (k.full ∙ ap (λ n. n * w) (sym sizes))
        ∙ ap (λ n. remove (pieces w n a.codes.items) j) sizes

pub remove_keeps : (a b : Inside) (j : ℕ) → KeepsRep a → j < a.size → b.factors ≡ a.factors → b.rank ≡ a.rank →
    b.size + 1 ≡ a.size → b.codes.items ≡ take (j * (a.rank * length a.factors)) a.codes.items ++ drop
    ((j + 1) * (a.rank * length a.factors)) a.codes.items → KeepsRep b
remove_keeps a b j k l f r s c = record {
  full = ap (λ (xs : List ℕ). length xs) c ∙ length-without a.size w j a.codes.items l k.full ∙ rows ∙ (λ i. b.size * (sym r i * length (sym f i)));
  is_rep = subst KeepsLimits (sym (remove_view a b j k l f r s c)) (record {
    fields = whole.fields;
    rank_positive = whole.rank_positive;
    rank_most = whole.rank_most;
    size_most = (let n : length (remove (matrices a).columns j) + 1 ≡ size (matrices a) =
        length-remove (matrices a).columns j below in let m = whole.size_most in omega arith);
    shaped = shaped_without (matrices a) j below whole.shaped;
  });
}
  where
    open k use {is_rep as whole}

    w : ℕ
    w = a.rank * length a.factors

    rows : (a.size - 1) * w ≡ b.size * w
    rows = ap (λ n. n * w) (omega arith)

    below : j < size (matrices a)
    below = let n : size (matrices a) ≡ a.size = size-matrices a in omega arith
