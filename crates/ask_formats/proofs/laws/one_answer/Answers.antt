use Rattle.std.proofs.Common.{◌≡◌, ◌∙◌, ℕ, List, sym, ap, subst}
use Rattle.matroid_theory.specs.declared.Mode.TheVariants.{Linear}
use Rattle.matroid_theory.specs.Rep.{Rep}
use Rattle.matroid_theory.specs.Minor.{Matroid}
use Rattle.matroid_laws.proofs.Equivalence.{equivalent-reflexive}
use Rattle.matroid_laws.proofs.GivenLemmas.{given_unique}
use Rattle.formats.specs.Listing.{form_text}
use Rattle.formats.specs.Levels.{columns_of}
use Rattle.formats.specs.Minors.{given_as}
use Rattle.dual_theory.proofs.EquivalentDuals.{one_dual_form}
use Rattle.dual_theory.proofs.Representations.{one_matroid}
use Rattle.ask_formats.specs.Question.{Question, Dual, OverName, OverForm, MayAsk}
use Rattle.ask_formats.specs.Answer.{IsLineOver, IsAnswer}
use Rattle.ask_formats.proofs.OneLine.{one_line}
use Rattle.ask_formats.proofs.laws.one_answer.Goals as goal

pub returns : goal.returns
returns c = answers
  where
    answers : (question : Question) (line other : List ℕ) → MayAsk question → IsAnswer question line → IsAnswer question other → line ≡ other
    answers (Dual M) line other may (N, d, e) (K, h, g) =
        e ∙ ap (λ (L : Rep). form_text (columns_of L))
        (one_dual_form Linear M M N K (equivalent-reflexive Linear M may.named.limits.shaped) may.named.agrees.some d h) ∙ sym g
    answers (OverName q name) line other may (N, given, a) (P, also, b) =
        one_line q P line other (subst (λ (N : Matroid). IsLineOver q N line) (given_unique (given_as name) N P given also) a) b
    answers (OverForm q M) line other may (N, has, a) (P, also, b) =
        one_line q P line other (subst (λ (N : Matroid). IsLineOver q N line) (one_matroid M N P has also) a) b
