-- What a search with these images covers.
use Rattle.std.proofs.Common.{◌≡◌, ℕ, ◌+◌, ◌<◌, sym, ◌∙◌, ap, arith, inl, inr, List, [], ◌∷◌, ◌++◌, length, length-append, slice_index}
use Rattle.std.proofs.lemmas.Bool.{cases_lt}
use Rattle.std.proofs.lemmas.List.{get_or_append_left, get_or-append-add}
use Rattle.matroid_theory.specs.Matroid.{members}
use Rattle.minor_test.specs.declared.search.Search.{Search}
use Rattle.minor_test.specs.Searches.{first, BeginsWith, Embeds, IsNext}
use Rattle.minor_test.proofs.Embeddings.{embedding-same, narrower}

length_next : (images : List ℕ) (j : ℕ) → length (images ++ j ∷ []) ≡ length images + 1
length_next images j = length-append images (j ∷ [])

-- an embedding begins with its next image too
pub begins_next : (images : List ℕ) (f : ℕ → ℕ) → BeginsWith images f → BeginsWith (images ++ f (length images) ∷ []) f
begins_next images f b x l =
    let e : length (images ++ f (length images) ∷ []) ≡ length images + 1 = length_next images (f (length images)) in
    elim (cases_lt x (length images)) [
      | inl m ↦ b x m ∙ sym (get_or_append_left images (f (length images) ∷ []) 0 x m)
      | inr g ↦ (let i : x ≡ length images = omega arith in
          let z : length images + 0 ≡ length images = omega arith in
          ap f i ∙ sym (get_or-append-add images (f (length images) ∷ []) 0 0) ∙ ap (slice_index (images ++ f (length images) ∷ [])) (z ∙ sym i))
    ]

-- and the images that it begins with pass each test
pub next_of : (search : Search) (images : List ℕ) (j : ℕ) (f : ℕ → ℕ) → length images < search.sought.now.size →
    BeginsWith (images ++ j ∷ []) f → Embeds search f → IsNext search images j
next_of search images j f l b h =
    let e : length (images ++ j ∷ []) ≡ length images + 1 = length_next images j in
    embedding-same (first search.sought.now (length images + 1)) search.whole.now f (slice_index (images ++ j ∷ [])) (members search.contracted)
    (λ x m. b x (omega arith))
    (narrower search.sought.now search.whole.now (length images + 1) f (members search.contracted) (omega arith) h)
