-- Labels that are given element by element, and images of sets under them.
use Rattle.std.specs.Prelude.{ℕ, ◌+◌, ◌<◌, ◌-◌, ◌≤◌, ◌^◌, ◌≡◌, ◌≢◌, ◌==◌, nat_lt, bit_or, count_by, List, length, slice_index, false}
use Rattle.std.specs.List.{Contains}
use Rattle.matroid_theory.specs.Matroid.{members}
use Rattle.matroid_theory.specs.Minor.{Matroid, AreIsomorphicBy}

-- the labels of the first elements of n: different elements below n
pub record AreLabels (n : ℕ) (labels : List ℕ) : Type 0 where
  pub few : length labels ≤ n
  pub below : (i : ℕ) → i < length labels → slice_index labels i < n
  pub apart : (i j : ℕ) → i < j → j < length labels → slice_index labels i ≢ slice_index labels j

-- Y has the labels of the elements of X, and nothing else
pub record IsImage (labels : List ℕ) (X Y : ℕ) : Type 0 where
  pub labelled : (i : ℕ) → i < length labels → members Y (slice_index labels i) ≡ members X i
  pub others : (j : ℕ) → ((i : ℕ) → i < length labels → slice_index labels i ≢ j) → members Y j ≡ false

-- each base of M that consists of labelled elements goes to a base of N
abbrev pub CarriesBases : Matroid → Matroid → List ℕ → Type 0
CarriesBases M N labels = (X Y : ℕ) → X < 2 ^ length labels → Contains M.bases X → IsImage labels X Y → Contains N.bases Y

-- the last element that has a label is the greatest of X
abbrev pub IsLast : List ℕ → ℕ → Type 0
IsLast labels X = (2 ^ (length labels - 1) ≤ X) × (X < 2 ^ length labels)

-- X is one of the sets, and its greatest element is this one
pub record IsOneOf (sets : List ℕ) (element X : ℕ) : Type 0 where
  pub stands : Contains sets X
  pub low : 2 ^ element ≤ X
  pub high : X < 2 ^ (element + 1)

-- each set of xs whose greatest element is the last that has a label goes to a set of ys
abbrev pub CarriesLast : List ℕ → List ℕ → List ℕ → Type 0
CarriesLast xs ys labels = (X Y : ℕ) → IsLast labels X → Contains xs X → IsImage labels X Y → Contains ys Y

-- as many sets of xs consist of labelled elements as sets of ys consist of labels
abbrev pub KeepsCount : List ℕ → List ℕ → List ℕ → Type 0
KeepsCount xs ys labels =
    (W : ℕ) → IsImage labels (2 ^ 16 - 1) W →
    count_by (λ X. nat_lt X (2 ^ length labels)) xs ≡ count_by (λ Y. bit_or Y W == W) ys

-- p gives the first elements these labels
abbrev pub Begins : List ℕ → (ℕ → ℕ) → Type 0
Begins labels p = (i : ℕ) → i < length labels → p i ≡ slice_index labels i

-- no isomorphism gives the first elements these labels
abbrev pub NoneBegins : Matroid → Matroid → List ℕ → Type 0
NoneBegins M N labels = (p u : ℕ → ℕ) → Begins labels p → ¬ (AreIsomorphicBy M N p u)
