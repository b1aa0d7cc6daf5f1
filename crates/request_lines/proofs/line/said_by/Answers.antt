use Rattle.std.proofs.Common.{◌≡◌, ◌∙◌, ℕ, List, ◌∷◌, refl, ap, subst, lit<}
use Rattle.std.specs.Prelude.{codes}
use Rattle.formats.specs.Lines.{words_of}
use Rattle.formats.specs.Statement.{VersionIs, Forbids, IsNumber, Says}
use Rattle.request_lines.specs.declared.version.Version.{Version}
use Rattle.request_lines.specs.declared.version.Version.TheVariants.{One, Two}
use Rattle.request_lines.specs.Versions.{version_number}
use Rattle.request_lines.specs.Spellings.{keyword_word}
use Rattle.request_lines.proofs.Spellings.{keyword_said}
use Rattle.request_lines.proofs.line.said_by.Goals as goal

pub returns-in_err-keyword_of : goal.returns-in_err-keyword_of
returns-in_err-keyword_of c = rw c.from_residual-in_err-keyword_of.ensures (λ entry said.
    let is = keyword_said (version_number c.args.version) c.in_ok-word.word.now (words_of c.in_ok-word.rest.now) entry
    (subst (λ (l : List (List ℕ)). Says (version_number c.args.version) l entry) c.in_ok-word.ensures.words said) in
    c.in_err-keyword_of.ensures is.0 is.1)

-- the number of a version is short
short_number : (v : Version) → IsNumber (version_number v)
short_number One = lit< tt
short_number Two = lit< tt

pub returns-in-Version : goal.returns-in-Version
returns-in-Version c =
    let word : c.in_ok-word.word.now ≡ codes "version" = c.in_ok-keyword_of.ensures ∙ ap keyword_word c.in-Version.is in
    let rest = c.is_number_of.ensures.0 c.if-is_number_of.true in
    let v = version_number c.args.version in (
      VersionIs v,
      record { may = short_number c.args.version; of_version = refl; spelled = c.in_ok-word.ensures.words ∙ (λ i. word i ∷ rest i) },
      (v, refl),
    )

pub returns-in_ok-minor_of-in-Forbid : goal.returns-in_ok-minor_of-in-Forbid
returns-in_ok-minor_of-in-Forbid c =
    let named = c.in_ok-minor_of-in-Forbid.ensures in
    let word : c.in_ok-word.word.now ≡ codes "forbid" = c.in_ok-keyword_of.ensures ∙ ap keyword_word c.in-Forbid.is in (
      Forbids named.0,
      record { may = named.1; of_version = named.2; spelled = c.in_ok-word.ensures.words ∙ (λ i. word i ∷ named.3 i) },
      (named.0, refl, named.4),
    )
