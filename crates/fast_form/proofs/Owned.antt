-- The numbers of a standard representation's own later columns.
use Rattle.std.proofs.Common.{◌≡◌, ◌≢◌, refl, sym, ◌∙◌, ap, List, ℕ, Option, Some, None, IfSome}
use Rattle.std.specs.Cmp.Lexicographic.{slice_cmp}
use Rattle.std.specs.Ordering.{nat_cmp}
use Rattle.std.specs.declared.cmp.Ordering.TheVariants.{Less, Equal, Greater}
use Rattle.std.proofs.lemmas.Cmp.{nat_list_cmp_total, tied_itself}
use Rattle.matroid_theory.specs.declared.Mode.TheVariants.{Linear}
use Rattle.matroid_theory.specs.Rep.{Rep, IsShaped, IsStandard}
use Rattle.matroid_theory.specs.Order.{rep_cmp, IsForm}
use Rattle.matroid_laws.proofs.Equivalence.{equivalent-reflexive}
use Rattle.matroid_laws.proofs.Levels.{rep_cmp-reversed, rep_cmp-equal}
use Rattle.matrix_lemmas.proofs.Orderings.{neither}
use Rattle.form_search.specs.Search.{AreOfClass, numbers_of}
use Rattle.form_search.proofs.Finish.{numbers_decide}

-- they are of the class
pub own_class : (M : Rep) → IsShaped M → IsStandard M → (numbers : List ℕ) → numbers ≡ numbers_of M M → AreOfClass M numbers
own_class M shaped standard numbers e = record { member = M; standard = standard; equivalent = equivalent-reflexive Linear M shaped; numbers_are = sym e }

pub own_classes : (M : Rep) → IsShaped M → IsStandard M → (found : Option (List ℕ)) → IfSome found (λ least. least ≡ numbers_of M M) → IfSome found
    (AreOfClass M)
own_classes M shaped standard None w = w
own_classes M shaped standard (Some least) w = own_class M shaped standard least w

-- where the class has less numbers, it is no form
pub not_form : (M : Rep) → IsShaped M → IsStandard M → (numbers : List ℕ) → AreOfClass M numbers → slice_cmp nat_cmp numbers (numbers_of M M) ≡ Less → IsForm
    Linear M → ⊥
not_form M shaped standard numbers class less form =
    let L = class.member in let x = class.equivalent in
    let below : slice_cmp nat_cmp (numbers_of M L) (numbers_of M M) ≡ Less = ap (λ (w : List ℕ). slice_cmp nat_cmp w (numbers_of M M)) class.numbers_are ∙
    less in
    let not_above : slice_cmp nat_cmp (numbers_of M L) (numbers_of M M) ≢ Greater = (λ g. (let z : Less ≡ Greater = sym below ∙ g in cc)) in
    let same : M ≡ L = rep_cmp-equal M L (sym x.takes.same_shape)
    (neither (rep_cmp M L) (rep_cmp L M) (rep_cmp-reversed M L) (form.least L class.standard x)
    (numbers_decide M L M x.takes.shaped shaped class.standard standard x.takes.same_shape refl not_above)) in
    let z : Less ≡ Equal = sym below ∙ ap (λ (N : Rep). slice_cmp nat_cmp (numbers_of M N) (numbers_of M M)) (sym same) ∙ tied_itself nat_list_cmp_total
    (numbers_of M M) in cc
