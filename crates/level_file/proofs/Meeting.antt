-- From the bytes that two texts have in common to pieces, and from pieces to those behind them.
use mathlib.Core.Bool.{true≢false}
use Rattle.std.proofs.Common.{Bool, true, false, ◌==◌, inl, inr, eqb-true, eq-eqb, ◌≡◌, ◌≢◌, ◌∙◌, ℕ, ◌+◌, ◌<◌, List, [], ◌∷◌, ◌++◌, length, take, drop, get_or, sym, ap, subst, arith, append_assoc, length-append, take-append-drop}
use Rattle.std.proofs.lemmas.List.{append-nil, drop_more}
use Rattle.std.proofs.lemmas.Bool.{cases_eq}
use Rattle.formats.specs.Listing.{end_text}
use Rattle.resume_formats.specs.Fronts.{PartHere}
use Rattle.level_file.specs.declared.compare.Unmet.{Unmet}
use Rattle.level_file.specs.declared.compare.Unmet.TheVariants.{Ends, Parts}
use Rattle.level_file.specs.Compared.{PartsWith, IsUnmet}

-- ---- tests of what is left

pub some_left : (b : Bool) (n : ℕ) → b ≡ (n == 0) → b ≡ false → 0 < n
some_left b n e f = elim (cases_eq n 0) [ inl z ↦ absurd (true≢false (sym (eq-eqb n 0 z) ∙ sym e ∙ f)) | inr other ↦ omega arith ]

pub nothing_left : (b : Bool) (n : ℕ) → b ≡ (n == 0) → b ≡ true → n ≡ 0
nothing_left b n e t = eqb-true n 0 (sym e ∙ t)

-- ---- two texts with so many bytes in common

module _ (rest piece : List ℕ) (k : ℕ) (same : take k rest ≡ take k piece) where
  -- they part
  pub met_parts : (left : ℕ) → k < length rest → k < length piece → get_or rest k 0 ≢ get_or piece k 0 → left ≡ length (drop k rest)
      → (more : List ℕ) → PartsWith left rest (piece ++ more)
  met_parts left l m differ is more = record {
    common = take k rest;
    mine = drop k rest;
    others = drop k piece ++ more;
    text_is = sym (take-append-drop k rest);
    other_is = ap (λ (t : List ℕ). t ++ more) (sym (take-append-drop k piece))
        ∙ append_assoc (take k piece) (drop k piece) more
        ∙ ap (λ (t : List ℕ). t ++ (drop k piece ++ more)) (sym same);
    parts = subst (λ (u : List ℕ). PartHere u (drop k piece ++ more)) (sym (drop_more rest k 0 l))
        (subst (λ (v : List ℕ). PartHere (get_or rest k 0 ∷ drop (k + 1) rest) (v ++ more)) (sym (drop_more piece k 0 m)) differ);
    left_is = is;
  }

-- ---- pieces behind others

pub unmet_more : (rest piece more : List ℕ) (why : Unmet) → IsUnmet rest piece why → IsUnmet rest (piece ++ more) why
unmet_more rest piece more Ends unmet = record {
  rest = unmet.rest ++ more;
  split = ap (λ (t : List ℕ). t ++ more) unmet.split ∙ append_assoc rest unmet.rest more;
  proper = omega (arith, unmet.proper, length-append unmet.rest more);
}
unmet_more rest piece more (Parts left) unmet = λ others. subst (λ (t : List ℕ). PartsWith left rest t)
    (sym (append_assoc piece more others)) (unmet (more ++ others))

parts_after : (left : ℕ) (rest a after other : List ℕ) → rest ≡ a ++ after → PartsWith left after other → PartsWith left rest (a ++ other)
parts_after left rest a after other is p = record {
  common = a ++ p.common;
  mine = p.mine;
  others = p.others;
  text_is = is ∙ ap (λ (t : List ℕ). a ++ t) p.text_is ∙ sym (append_assoc a p.common p.mine);
  other_is = ap (λ (t : List ℕ). a ++ t) p.other_is ∙ sym (append_assoc a p.common p.others);
  parts = p.parts;
  left_is = p.left_is;
}

pub unmet_after : (rest a after piece : List ℕ) (why : Unmet) → rest ≡ a ++ after → IsUnmet after piece why → IsUnmet rest (a ++ piece) why
unmet_after rest a after piece Ends is unmet = record {
  rest = unmet.rest;
  split = ap (λ (t : List ℕ). a ++ t) unmet.split ∙ sym (append_assoc a after unmet.rest) ∙ ap (λ (t : List ℕ). t ++ unmet.rest) (sym is);
  proper = unmet.proper;
}
unmet_after rest a after piece (Parts left) is unmet =
    λ more. subst (λ (t : List ℕ). PartsWith left rest t) (sym (append_assoc a piece more)) (parts_after left rest a after (piece ++ more) is (unmet more))

-- ---- the end line

pub parts_from_end : (rest : List ℕ) (left : ℕ) → IsUnmet rest end_text (Parts left) → PartsWith left rest end_text
parts_from_end rest left unmet = subst (λ (t : List ℕ). PartsWith left rest t) (append-nil end_text) (unmet [])
