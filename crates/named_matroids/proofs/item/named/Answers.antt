use Rattle.std.proofs.Common.{◌≡◌, ◌↔◌, ℕ, List, [], ◌∷◌, Err, refl, sym, ◌∙◌, ap, arith}
use Rattle.std.specs.Prelude.{IsErrOf}
use Rattle.formats.specs.Statement as line
use Rattle.formats.specs.Statement.{minor_words, elements_of}
use Rattle.formats.proofs.Unique.{minor_same}
use Rattle.named_matroids.specs.declared.spelling.NameFault.{NameFault}
use Rattle.named_matroids.specs.declared.spelling.NameFault.TheVariants.{TooBig, Unknown}
use Rattle.named_matroids.specs.Names.{named_by, IsSmallName, NamesTooBig, NamesNone, IsNameFault}
use Rattle.named_matroids.proofs.item.named.Goals as goal

-- a text that names a matroid of few elements names no larger one
small_only : (text : List ℕ) (minor : line.MinorName) → IsSmallName minor → minor_words minor ≡ text ∷ [] → NamesTooBig text → ⊥
small_only text minor h e w =
    let s : minor ≡ line.Uniform w.0 w.1 = minor_same minor (line.Uniform w.0 w.1) h.is_minor w.2 (e ∙ sym w.4) in
    let n : elements_of minor ≡ w.1 = ap elements_of s in
    omega (arith, h.few, w.3)

-- one fault alone is right
too_big_only : {T : Type 0} (text : List ℕ) (fault : NameFault) → IsNameFault text fault → IsErrOf {T = T} {E = NameFault} (Err fault) TooBig ↔ NamesTooBig text
too_big_only text TooBig h = (λ _. h, λ _. refl)
too_big_only text Unknown h = (λ e. cc (e), λ w. absurd (h (line.Uniform w.0 w.1) w.2 w.4))

unknown_only : {T : Type 0} (text : List ℕ) (fault : NameFault) → IsNameFault text fault → IsErrOf {T = T} {E = NameFault} (Err fault) Unknown ↔ NamesNone text
unknown_only text TooBig h = (λ e. cc (e), λ none. absurd (none (line.Uniform h.0 h.1) h.2 h.4))
unknown_only text Unknown h = (λ _. h, λ _. refl)

pub returns-in-Ok-clause-too_big : goal.returns-in-Ok-clause-too_big
returns-in-Ok-clause-too_big c = (λ e. cc (e), λ w. absurd (small_only c.args.text.now (named_by c.in-Ok.spelling) c.in-Ok.ensures.0 c.in-Ok.ensures.1 w))

pub returns-in-Err-clause-too_big : goal.returns-in-Err-clause-too_big
returns-in-Err-clause-too_big c = too_big_only c.args.text.now c.in-Err.fault c.in-Err.ensures

pub returns-in-Err-clause-unknown : goal.returns-in-Err-clause-unknown
returns-in-Err-clause-unknown c = unknown_only c.args.text.now c.in-Err.fault c.in-Err.ensures
