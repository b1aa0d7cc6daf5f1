use Rattle.std.proofs.Common.{sym, ◌∙◌, inl, inr}
use Rattle.std.proofs.lemmas.Bool.{cases_Bool}
use mathlib.Core.Bool.{true≢false}
use Rattle.matrix_lemmas.proofs.Dimension.{inverse_matrix}
use Rattle.matrix_lemmas.proofs.Ranks.{but}
use Rattle.matrix_lemmas.proofs.Bases.{smaller_independent, augmentation, exchange, exchanged_set, greatest_part, set_bound, part-same, with_element}
use Rattle.matroid_laws.proofs.laws.independence_of_columns.Goals as goal

pub returns-clause-parts : goal.returns-clause-parts
returns-clause-parts c = λ q r n A I J h within. smaller_independent q r n A I J
    (λ j l f. elim (cases_Bool (I j)) [ inl t ↦ absurd (true≢false (sym (within j l t) ∙ f)) | inr g ↦ g ]) h

pub returns-clause-augmentation : goal.returns-clause-augmentation
returns-clause-augmentation c = λ q r n A I J F codes. augmentation q F r n A codes I J

pub returns-clause-exchange : goal.returns-clause-exchange
returns-clause-exchange c = λ q r n k A S B D x F codes b d l t f.
    let (y, m, ty, fy, p) = exchange q F r n A codes S k B D b d x l t f in
    (y, m, ty, fy, part-same q r n A S k (with_element y (but x B)) _ (λ j _. exchanged_set x y B j) p)

pub returns-clause-greatest : goal.returns-clause-greatest
returns-clause-greatest c = λ q r n k m A S B F codes. greatest_part q F r n A codes S k m B

pub returns-clause-at_most_rows : goal.returns-clause-at_most_rows
returns-clause-at_most_rows c = λ q r n A S F codes. set_bound q F r n A codes S

pub returns-clause-inverse : goal.returns-clause-inverse
returns-clause-inverse c = λ q n A F. inverse_matrix q F n A
