use Rattle.std.proofs.Common.{◌≡◌, ◌∙◌, ℕ, List, [], ◌∷◌, ◌++◌, ap, codes}
use Rattle.std.specs.List.{join_with_byte}
use Rattle.named_matroids.specs.Names.{named_by}
use Rattle.formats.specs.Lines.{line_of_words}
use Rattle.formats.specs.Statement.{minor_words}
use Rattle.lister.proofs.Names.{joined_after}
use Rattle.lister.proofs.head.push_forbid_line.Goals as goal

pub returns-clause-bytes : goal.returns-clause-bytes
returns-clause-bytes c =
    let name : c.as_slice-2.result.now ≡ join_with_byte 32 (minor_words (named_by c.args.item.now.spelling)) =
    c.as_slice-2.ensures.value ∙ c.name_of-name.ensures.name ∙ ap (λ s. join_with_byte 32 (minor_words (named_by s))) c.spelling.ensures.value in
    c.push_line.ensures
    ∙ ap (λ (w : List ℕ). c.args.head.now.items ++ line_of_words (w ∷ c.as_slice-2.result.now ∷ [])) c.as_slice.ensures
    ∙ ap (λ (w : List ℕ). c.args.head.now.items ++ line_of_words (codes "forbid" ∷ w ∷ [])) name
    ∙ ap (λ (t : List ℕ). c.args.head.now.items ++ t) (joined_after (codes "forbid") (named_by c.args.item.now.spelling))
