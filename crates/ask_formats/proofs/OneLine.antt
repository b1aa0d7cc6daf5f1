-- A matroid has one line over a field.
use Rattle.std.proofs.Common.{◌≡◌, ◌∙◌, ℕ, List, sym, ap, inl, inr}
use Rattle.matroid_theory.specs.Rep.{Rep}
use Rattle.matroid_theory.specs.Minor.{Matroid}
use Rattle.formats.specs.Listing.{form_text}
use Rattle.formats.specs.Levels.{columns_of}
use Rattle.dual_theory.proofs.Representations.{one_least}
use Rattle.ask_formats.specs.Answer.{IsLineOver}

pub one_line : (q : ℕ) (N : Matroid) (line other : List ℕ) → IsLineOver q N line → IsLineOver q N other → line ≡ other
one_line q N line other (inl (L, d, e)) (inl (K, h, g)) = e ∙ ap (λ (L : Rep). form_text (columns_of L)) (one_least q N L K d h) ∙ sym g
one_line q N line other (inl (L, d, e)) (inr (none, g)) = absurd (none L d.represents)
one_line q N line other (inr (none, e)) (inl (L, d, g)) = absurd (none L d.represents)
one_line q N line other (inr (none, e)) (inr (never, g)) = e ∙ sym g
