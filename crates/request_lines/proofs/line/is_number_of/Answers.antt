use Rattle.std.proofs.Common.{◌≡◌, ◌∙◌, ℕ, List, [], ◌∷◌, refl, sym, ap, subst}
use Rattle.std.specs.Prelude.{codes, decimal, IsTrue, ◌↔◌}
use Rattle.std.specs.Fmt.{digits}
use Rattle.formats.specs.Lines.{words_of}
use Rattle.request_lines.specs.Versions.{version_number}
use Rattle.request_lines.specs.declared.version.Version.{Version}
use Rattle.request_lines.specs.declared.version.Version.TheVariants.{One, Two}
use Rattle.request_lines.proofs.line.is_number_of.Goals as goal

-- the numbers of the two versions, as words
number_one : decimal (version_number One) ≡ codes "1"
unfolding digits
number_one = refl

number_two : decimal (version_number Two) ≡ codes "2"
unfolding digits
number_two = refl

pub returns-in-One : goal.returns-in-One
returns-in-One c =
    let same : codes "1" ≡ decimal (version_number c.args.version) = sym (ap (λ (v : Version). decimal (version_number v)) c.in-One.is ∙ number_one) in
    subst (λ (w : List ℕ). IsTrue c.is_only_word.result ↔ (words_of c.args.rest.now ≡ w ∷ [])) same c.is_only_word.ensures

pub returns-in-Two : goal.returns-in-Two
returns-in-Two c =
    let same : codes "2" ≡ decimal (version_number c.args.version) = sym (ap (λ (v : Version). decimal (version_number v)) c.in-Two.is ∙ number_two) in
    subst (λ (w : List ℕ). IsTrue c.is_only_word-in-Two.result ↔ (words_of c.args.rest.now ≡ w ∷ [])) same c.is_only_word-in-Two.ensures
