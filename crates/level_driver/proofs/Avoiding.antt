-- Whether the first ones of several matroids are minors, and the matroids that are given.
use Rattle.std.proofs.Common.{◌≡◌, ℕ, ◌+◌, ◌<◌, ◌≤◌, List, [], ◌∷◌, ◌++◌, length, take, map, Option, None, Some, true, sym, ◌∙◌, ap, subst, get_or}
use Rattle.std.specs.Prelude.{IfSome, slice_index}
use Rattle.std.specs.Option.{is_some}
use Rattle.std.proofs.lemmas.List.{take_more, take_all, get_or-map, length-map, map-append}
use Rattle.std.proofs.lemmas.List.Elements.{All-push}
use Rattle.matroid_theory.specs.Rep.{Rep}
use Rattle.matroid_theory.specs.Matroid.{members}
use Rattle.matroid_theory.specs.Minor.{Matroid, IsMinorBy, IsMinor}
use Rattle.named_matroids.specs.Names.{NamedMatroid}
use Rattle.minor_test.specs.declared.test.Embedding.{Embedding}
use Rattle.formats.specs.Levels.{AreGivenBy}
use Rattle.formats.specs.Minors.{given_as}
use Rattle.formats.specs.Request.{Request}
use Rattle.level_driver.specs.Forbidden.{matroids_of, Avoids}

-- one more matroid
pub matroids_more : (items : List NamedMatroid) (i : ℕ) (item : NamedMatroid) → i < length items → item ≡ get_or items i item →
    matroids_of (take (i + 1) items) ≡ matroids_of (take i items) ++ item.matroid ∷ []
matroids_more items i item l is =
    ap matroids_of (take_more items i item l ∙ ap (λ (last : NamedMatroid). take i items ++ last ∷ []) (sym is))
    ∙ map-append (λ item. item.matroid) (take i items) (item ∷ [])

-- where the matroid was found, it is a minor
pub found_one : (N : Matroid) (M : Rep) (found : Option Embedding) → is_some found ≡ true →
    IfSome found (λ e. IsMinorBy N M (slice_index e.image.items) (members e.contracted)) → IsMinor N M
found_one N M None some is = cc (some)
found_one N M (Some e) some is = (slice_index e.image.items, members e.contracted, is)

module _ (items : List NamedMatroid) (i : ℕ) (item : NamedMatroid) (l : i < length items) (is : item ≡ get_or items i item) (M : Rep) where
  -- matroids of which one is a minor aren't avoided
  pub has_one : IsMinor item.matroid M → ¬ (Avoids (matroids_of items) M)
  has_one minor avoids =
      let k : length (matroids_of items) ≡ length items = length-map items (λ item. item.matroid) in
      avoids i item.matroid (subst (λ (n : ℕ). i < n) (sym k) l)
      (subst (λ (N : Matroid). IsMinor N M) (sym (get_or-map (λ item. item.matroid) items i item item.matroid l ∙ ap (λ item. item.matroid) (sym is))) minor)

  -- one more that is no minor
  pub avoids_more : Avoids (matroids_of (take i items)) M → ¬ (IsMinor item.matroid M) → Avoids (matroids_of (take (i + 1) items)) M
  avoids_more avoids not_this =
      subst (λ (Ns : List Matroid). Avoids Ns M)
      (sym (matroids_more items i item l is))
      (All-push (λ N. ¬ (IsMinor N M)) (matroids_of (take i items)) item.matroid avoids not_this)

-- all of them
pub avoids_all : (items : List NamedMatroid) (i : ℕ) (M : Rep) → length items ≤ i → Avoids (matroids_of (take i items)) M → Avoids (matroids_of items) M
avoids_all items i M l avoids = subst (λ (items : List NamedMatroid). Avoids (matroids_of items) M) (take_all i items l) avoids

-- ---- matroids without names

module _ (Ns : List Matroid) (i : ℕ) (N : Matroid) (l : i < length Ns) (is : N ≡ get_or Ns i N) (M : Rep) where
  -- matroids of which one is a minor aren't avoided
  pub has_this : IsMinor N M → ¬ (Avoids Ns M)
  has_this minor avoids = avoids i N l (subst (λ (K : Matroid). IsMinor K M) is minor)

  -- one more that is no minor
  pub avoids_this : Avoids (take i Ns) M → ¬ (IsMinor N M) → Avoids (take (i + 1) Ns) M
  avoids_this avoids not_this =
      subst (λ (Ks : List Matroid). Avoids Ks M) (sym (take_more Ns i N l ∙ ap (λ (last : Matroid). take i Ns ++ last ∷ []) (sym is)))
      (All-push (λ K. ¬ (IsMinor K M)) (take i Ns) N avoids not_this)

-- all of them
pub avoids_these : (Ns : List Matroid) (i : ℕ) (M : Rep) → length Ns ≤ i → Avoids (take i Ns) M → Avoids Ns M
avoids_these Ns i M l avoids = subst (λ (Ks : List Matroid). Avoids Ks M) (take_all i Ns l) avoids

-- the same matroids are given too
pub same_given : (q : Request) (Ms Ns : List Matroid) → Ms ≡ Ns → AreGivenBy (map given_as q.forbid) Ms → AreGivenBy (map given_as q.forbid) Ns
same_given q Ms Ns e given = subst (AreGivenBy (map given_as q.forbid)) e given
