-- What the search for a minor goes through: a contracted set, and images of the first elements.
use Rattle.std.specs.Prelude.{ℕ, ◌<◌, ◌≤◌, ◌≡◌, ◌+◌, ◌^◌, ◌||◌, Bool, true, List, [], ◌∷◌, ◌++◌, length, slice_index, bit_or}
use Rattle.matroid_theory.specs.Rep.{Rep, size}
use Rattle.matroid_theory.specs.Matroid.{members}
use Rattle.matroid_theory.specs.Minor.{Matroid, image, IsMinorBy}
use Rattle.matroid_theory.specs.Tables.{has}
use Rattle.minor_test.specs.declared.search.Search.{Search}
use Rattle.minor_test.specs.declared.search.Images.{Images}

-- N with its first k elements alone, and the bases that lie within them
abbrev pub first : Matroid → ℕ → Matroid
first N k = record N { size = k }

-- f gives the first elements these images
abbrev pub BeginsWith : List ℕ → (ℕ → ℕ) → Type 0
BeginsWith images f = (x : ℕ) → x < length images → f x ≡ slice_index images x

-- with these images, the matroid that a search is for is a minor of the whole one
abbrev pub Embeds : Search → (ℕ → ℕ) → Type 0
Embeds search f = IsMinorBy search.sought.now search.whole.now f (members search.contracted)

-- f(X) together with C, for X a set of numbers below n
abbrev pub image_with : ℕ → (ℕ → ℕ) → (ℕ → Bool) → (ℕ → Bool) → ℕ → Bool
image_with n f C X j = image n f X j || C j

-- images of the first n elements: with C they are an embedding of these, and the masks of C and what has been reached are right
pub record AreImagesOf (N : Matroid) (M : Rep) (C n : ℕ) (images : Images) (sets : List ℕ) : Type 0 where
  pub few : n ≤ N.size
  pub embedding : IsMinorBy (first N n) M (slice_index images.list.items) (members C)
  pub used_below : images.used < 2 ^ size M
  pub used : (j : ℕ) → j < size M → members images.used j ≡ image_with n (slice_index images.list.items) (members C) (λ _. true) j
  pub sets_below : (X : ℕ) → X < 2 ^ n → slice_index sets X < 2 ^ size M
  pub sets_are : (X : ℕ) → X < 2 ^ n → (j : ℕ) → j < size M →
      members (slice_index sets X) j ≡ image_with n (slice_index images.list.items) (members C) (members X) j

abbrev pub AreImages : Search → Images → List ℕ → Type 0
AreImages search images sets = AreImagesOf search.sought.now search.whole.now search.contracted (length images.list.items) images sets

-- two lists agree below a place
abbrev pub AgreeBelow : ℕ → List ℕ → List ℕ → Type 0
AgreeBelow n sets others = (X : ℕ) → X < n → slice_index others X ≡ slice_index sets X

-- the next element may have this image
abbrev pub IsNext : Search → List ℕ → ℕ → Type 0
IsNext search images j =
    IsMinorBy (first search.sought.now (length images + 1)) search.whole.now (slice_index (images ++ j ∷ [])) (members search.contracted)

-- of n sets of elements, each with the next element is in the one table exactly where its image with the contracted set is in the other
abbrev pub CarriesNext : List ℕ → List ℕ → ℕ → List ℕ → ℕ → Type 0
CarriesNext minor whole n sets j = (X : ℕ) → X < n → has minor (n + X) ≡ has whole (bit_or (slice_index sets X) (2 ^ j))
