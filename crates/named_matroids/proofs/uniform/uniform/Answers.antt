use Rattle.std.proofs.Common.{◌≡◌, ◌≤◌, ◌↔◌, ℕ, List, Bool, IsTrue, sym, subst, rules}
use Rattle.matroid_theory.specs.Matrix.{size_below}
use Rattle.matroid_theory.specs.Matroid.{members}
use Rattle.matroid_theory.specs.Given.{AllSets, IsGivenBy}
use Rattle.column_sets.specs.Sets.{AreMasks, AreTaken, IsSetOfSize}
use Rattle.column_sets.proofs.SetLemmas.{masks_of_taken, masks_same}
use Rattle.named_matroids.proofs.GivenBases.{given_small, uniform_given}
use Rattle.named_matroids.proofs.uniform.uniform.Goals as goal

-- all sets of so many elements are the bases of the uniform matroid
is_uniform : (rank size n k : ℕ) → n ≡ size → k ≡ rank → rank ≤ size → (answers : ℕ → Bool → Type 0) (masks : List ℕ) →
    ((X : ℕ) → IsSetOfSize n k X → (b : Bool) → answers X b → IsTrue b ↔ Unit {0})
    → AreTaken n k answers masks → IsGivenBy (AllSets rank size) (record { rank = rank; size = size; bases = masks })
is_uniform rank size n k e d l answers masks says taken =
    uniform_given rank size masks l
    (subst (λ (n : ℕ). AreMasks n (λ X. size_below n (members X) ≡ rank) masks) e
    (subst (λ (k : ℕ). AreMasks n (λ X. size_below n (members X) ≡ k) masks) d
    (masks_same n (λ X. (size_below n (members X) ≡ k) × Unit {0}) (λ X. size_below n (members X) ≡ k) masks (λ X _. ((λ w. w.0), (λ f. (f, tt))))
    (masks_of_taken n k answers (λ _. Unit {0}) masks says taken))))

pub of-requires : goal.of-requires
of-requires c =
    given_small (AllSets c.args.rank c.args.size) (record { rank = c.args.rank; size = c.args.size; bases = c.few_sets_of_size-bases.result.items })
    (is_uniform c.args.rank c.args.size c.from.result c.from-2.result c.from.ensures c.from-2.ensures c.requires.rank
    _ c.few_sets_of_size-bases.result.items (λ X s b a. search rules) c.few_sets_of_size-bases.ensures) c.requires.some c.requires.few

pub returns : goal.returns
returns c =
    subst (IsGivenBy (AllSets c.args.rank c.args.size)) (sym c.of.ensures)
    (is_uniform c.args.rank c.args.size c.from.result c.from-2.result c.from.ensures c.from-2.ensures c.requires.rank
    _ c.few_sets_of_size-bases.result.items (λ X s b a. search rules) c.few_sets_of_size-bases.ensures)
