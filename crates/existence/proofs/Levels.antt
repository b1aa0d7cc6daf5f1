-- A family has a level of each size.
use Rattle.std.proofs.Common.{◌≡◌, ℕ, List}
use Rattle.matroid_theory.specs.Rep.{Rep, Shape, shape, size}
use Rattle.matroid_theory.specs.Minor.{IsMinor}
use Rattle.matroid_theory.specs.Level.{Family, IsMember, IsLevelForm, IsLevel}
use Rattle.existence.specs.Decided.{IsDecided}
use Rattle.existence.proofs.Deciding.{along, both, negated, equal, equal_lists}
use Rattle.existence.proofs.RisingLists.{rising_list}
use Rattle.existence.proofs.Forms.{form_decided}
use Rattle.existence.proofs.Bases.{representation_decided, simple_decided, minor_decided, all_decided}

pub member_decided : (q : Family) (n : ℕ) (M : Rep) → IsDecided (IsMember q n M)
member_decided q n M =
    along
    (both (equal_lists equal M.factors q.factors)
    (λ _. both (equal M.rank q.rank)
    (λ _. both (equal (size M) n)
    (λ _. both (representation_decided M)
    (λ r. both (simple_decided M r.shaped)
    (λ _. all_decided (λ N. ¬ (IsMinor N M)) (λ N. negated (minor_decided N M r.shaped r.some)) q.forbidden))))))
    (λ w. record { same_factors = w.0; ranks = w.1.0; sizes = w.1.1.0; representation = w.1.1.1.0; simple = w.1.1.1.1.0; avoids = w.1.1.1.1.1 })
    (λ m. (m.same_factors, (m.ranks, (m.sizes, (m.representation, (m.simple, m.avoids))))))

pub level_form_decided : (q : Family) (n : ℕ) (M : Rep) → IsDecided (IsLevelForm q n M)
level_form_decided q n M = along (both (member_decided q n M) (λ _. form_decided q.mode M)) (λ w. record { form = w.1; member = w.0 })
    (λ f. (f.member, f.form))

-- the shape of a family's members of a size
abbrev pub shape_of : Family → ℕ → Shape
shape_of q n = record { factors = q.factors; rank = q.rank; size = n }

-- a member has that shape
pub member_shape : (q : Family) (n : ℕ) (M : Rep) → IsMember q n M → shape M ≡ shape_of q n
member_shape q n M m i = record { factors = m.same_factors i; rank = m.ranks i; size = m.sizes i }

-- the forms among all representations of the shape, in rising order
pub level_exists : (q : Family) (n : ℕ) → (forms : List Rep) × IsLevel q n forms
level_exists q n = rising_list (shape_of q n) (IsLevelForm q n) (λ M f. (let r = f.form.representation in r.shaped, member_shape q n M f.member))
    (level_form_decided q n)
