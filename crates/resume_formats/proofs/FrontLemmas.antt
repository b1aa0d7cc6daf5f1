-- Fronts of one text, and the front that two texts have in common.
use Rattle.std.proofs.Common.{◌≡◌, ◌⊎◌, inl, inr, ℕ, List, [], ◌∷◌, ◌++◌, length, refl, sym, ◌∙◌, ap, arith, append_assoc, length-append}
use Rattle.std.proofs.lemmas.List.{append-nil, append_cancel_left, nil_from_length}
use Rattle.resume_formats.specs.Fronts.{BeginsWith, IsCommonFront, PartHere}

-- of two fronts of a text one begins with the other
pub fronts_ordered : (text a b : List ℕ) → BeginsWith text a → BeginsWith text b → BeginsWith a b ⊎ BeginsWith b a
fronts_ordered text [] b p q = inr (b, refl)
fronts_ordered text (x ∷ a) [] p q = inl (x ∷ a, refl)
fronts_ordered [] (x ∷ a) (y ∷ b) p q = let e : [] ≡ x ∷ (a ++ p.0) = p.1 in cc (e)
fronts_ordered (z ∷ text) (x ∷ a) (y ∷ b) p q =
    let e : z ∷ text ≡ x ∷ (a ++ p.0) = p.1 in
    let f : z ∷ text ≡ y ∷ (b ++ q.0) = q.1 in
    let first : z ≡ x = cc (e) in
    let second : z ≡ y = cc (f) in
    let more : text ≡ a ++ p.0 = cc (e) in
    let others : text ≡ b ++ q.0 = cc (f) in
    elim (fronts_ordered text a b (p.0, more) (q.0, others)) [
      | inl r ↦ inl (r.0, λ i. (sym first ∙ second) i ∷ r.1 i)
      | inr r ↦ inr (r.0, λ i. (sym second ∙ first) i ∷ r.1 i)
    ]

-- texts that begin with each other are one
begins_both : (a b : List ℕ) → BeginsWith a b → BeginsWith b a → a ≡ b
begins_both a b p q =
    let none : length p.0 ≡ 0 = omega (arith, ap length p.1, ap length q.1, length-append b p.0, length-append a q.0) in
    p.1 ∙ ap (λ (l : List ℕ). b ++ l) (nil_from_length p.0 none) ∙ append-nil b

-- the longest common front is one
pub common_same : (a b c d : List ℕ) → IsCommonFront a b c → IsCommonFront a b d → c ≡ d
common_same a b c d p q = begins_both c d (p.longest d q.first q.second) (q.longest c p.first p.second)

none_longer : (common u v other : List ℕ) → PartHere u v → BeginsWith (common ++ u) other → BeginsWith (common ++ v) other → BeginsWith common other
none_longer common u v [] part p q = (common, refl)
none_longer [] [] v (o ∷ other) part p q = absurd part
none_longer [] (x ∷ u) [] (o ∷ other) part p q = let e : [] ≡ o ∷ (other ++ q.0) = q.1 in cc (e)
none_longer [] (x ∷ u) (y ∷ v) (o ∷ other) part p q =
    let e : x ∷ u ≡ o ∷ (other ++ p.0) = p.1 in
    let f : y ∷ v ≡ o ∷ (other ++ q.0) = q.1 in
    let first : x ≡ o = cc (e) in
    let second : y ≡ o = cc (f) in
    absurd (part (first ∙ sym second))
none_longer (c ∷ common) u v (o ∷ other) part p q =
    let e : c ∷ (common ++ u) ≡ o ∷ (other ++ p.0) = p.1 in
    let f : c ∷ (common ++ v) ≡ o ∷ (other ++ q.0) = q.1 in
    let first : c ≡ o = cc (e) in
    let more : common ++ u ≡ other ++ p.0 = cc (e) in
    let others : common ++ v ≡ other ++ q.0 = cc (f) in
    let r = none_longer common u v other part (p.0, more) (q.0, others) in
    (r.0, λ i. first i ∷ r.1 i)

-- texts that part behind a front have no longer one in common
pub parted_common : (common u v : List ℕ) → PartHere u v → IsCommonFront (common ++ u) (common ++ v) common
parted_common common u v part = record {
  first = (u, refl);
  second = (v, refl);
  longest = λ other p q. none_longer common u v other part p q;
}

no_front : (u v rest : List ℕ) → PartHere u v → v ≡ u ++ rest → ⊥
no_front [] v rest part e = part
no_front (x ∷ u) [] rest part e = let f : [] ≡ x ∷ (u ++ rest) = e in cc (f)
no_front (x ∷ u) (y ∷ v) rest part e = let f : y ∷ v ≡ x ∷ (u ++ rest) = e in let same : x ≡ y = cc (f) in part same

-- and the second doesn't begin with the first
pub parted_no_front : (common u v : List ℕ) → PartHere u v → ¬ (BeginsWith (common ++ v) (common ++ u))
parted_no_front common u v part begins =
    no_front u v begins.0 part (append_cancel_left common v (u ++ begins.0) (begins.1 ∙ append_assoc common u begins.0))
