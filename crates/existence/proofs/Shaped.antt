-- Whether a representation is shaped, standard, or equal to another.
use Rattle.std.proofs.Common.{◌≡◌, ℕ, ◌+◌, ◌*◌, ◌<◌, ap, List, [], length, slice_index}
use Rattle.std.specs.List.{slice_index_or}
use Rattle.matroid_theory.specs.Field.{orders, IsOrder}
use Rattle.matroid_theory.specs.Matrix.{unit}
use Rattle.matroid_theory.specs.Rep.{Rep, Shape, count, size, order, matrix, IsShaped, IsStandard, IsProductColumn}
use Rattle.existence.specs.Decided.{IsDecided}
use Rattle.existence.proofs.Deciding.{along, both, less, at_most, equal, each_below, each_two, each_three, contained, equal_lists}

pub order_decided : (q : ℕ) → IsDecided (IsOrder q)
order_decided q = along (contained equal q orders) (λ c. record { listed = c }) (λ o. o.listed)

pub shaped_decided : (M : Rep) → IsDecided (IsShaped M)
shaped_decided M =
    along
    (both (each_below (count M) (λ f. IsOrder (order M f)) (λ f _. order_decided (order M f)))
    (λ _. both (each_below (size M) (λ j. length (slice_index_or M.columns j []) ≡ M.rank * count M) (λ j _. equal _ _))
    (λ _. each_three (count M) M.rank (size M) (λ f i j. matrix M f i j < order M f) (λ f i j _ _ _. less _ _))))
    (λ w. record { orders = w.0; lengths = w.1.0; codes = w.1.1 }) (λ s. (s.orders, (s.lengths, s.codes)))

pub standard_decided : (M : Rep) → IsDecided (IsStandard M)
standard_decided M =
    along (both (at_most M.rank (size M)) (λ _. each_three (count M) M.rank M.rank (λ f i j. matrix M f i j ≡ unit i j) (λ f i j _ _ _. equal _ _)))
    (λ w. record { room = w.0; units = w.1 }) (λ s. (s.room, s.units))

pub product_column_decided : (factors : List ℕ) (rank : ℕ) (v : List ℕ) → IsDecided (IsProductColumn factors rank v)
product_column_decided factors rank v =
    along
    (both (equal (length v) (rank * length factors))
    (λ _. each_two rank (length factors) (λ i f. slice_index v (i * length factors + f) < slice_index factors f) (λ i f _ _. less _ _)))
    (λ w. record { rows = w.0; codes = w.1 }) (λ s. (s.rows, s.codes))

pub same_shape_decided : (S T : Shape) → IsDecided (S ≡ T)
same_shape_decided S T =
    along (both (equal_lists equal S.factors T.factors) (λ _. both (equal S.rank T.rank) (λ _. equal S.size T.size)))
    (λ w i. record { factors = w.0 i; rank = w.1.0 i; size = w.1.1 i })
    (λ e. (ap (λ (S : Shape). S.factors) e, (ap (λ (S : Shape). S.rank) e, ap (λ (S : Shape). S.size) e)))

pub same_rep_decided : (M N : Rep) → IsDecided (M ≡ N)
same_rep_decided M N =
    along (both (equal_lists equal M.factors N.factors) (λ _. both (equal M.rank N.rank) (λ _. equal_lists (equal_lists equal) M.columns N.columns)))
    (λ w i. record { factors = w.0 i; rank = w.1.0 i; columns = w.1.1 i })
    (λ e. (ap (λ (S : Rep). S.factors) e, (ap (λ (S : Rep). S.rank) e, ap (λ (S : Rep). S.columns) e)))
