-- The histories of a closed level are one legal history.
use Rattle.std.proofs.Common.{◌≡◌, ℕ, List, [], ◌∷◌, Some, slice_get, length, sym, ◌∙◌, subst, Contains}
use Rattle.std.specs.List.{AllByRecursion}
use Rattle.std.proofs.lemmas.List.Elements.{All-contains, All-from_recursion}
use Rattle.histories.specs.declared.entry.Entry.{Entry}
use Rattle.histories.specs.History.{IsLegal}
use Rattle.histories.specs.Counts.{keys_of}
use Rattle.histories.specs.Joined.{ShareNoKey, joined}
use Rattle.histories.proofs.Joining.{joined_legal}
use Rattle.link_set.specs.Hash.{stripe_of}
use Rattle.class_store.specs.Seen.{AreStripeHistories, IsClosedBy, LevelSide, Names, PassSide}

named_keys : (stripes s : ℕ) (history : List Entry) → Names stripes s history → AllByRecursion (λ (key : List ℕ). stripe_of stripes key ≡ s) (keys_of history)
named_keys stripes s [] names = tt
named_keys stripes s (e ∷ es) names = (names.0, named_keys stripes s es names.1)

names_key : (stripes s : ℕ) (history : List Entry) (key : List ℕ) → Names stripes s history → Contains (keys_of history) key → stripe_of stripes key ≡ s
names_key stripes s history key names there =
    All-contains (λ (k : List ℕ). stripe_of stripes k ≡ s) (keys_of history) key
    (All-from_recursion (λ (k : List ℕ). stripe_of stripes k ≡ s) (keys_of history) (named_keys stripes s history names)) there

-- a key names one stripe, so it stands in one history at most
closed_apart : (level : LevelSide) (passes : List PassSide) (histories : List (List Entry))
    → ((s : ℕ) (h : List Entry) → slice_get histories s ≡ Some h → IsClosedBy level passes s h) → ShareNoKey histories
closed_apart level passes histories each s t first second at_s at_t key a b =
    let one : IsClosedBy level passes s first = each s first at_s in
    let two : IsClosedBy level passes t second = each t second at_t in
    sym (names_key _ s first key one.names a) ∙ names_key _ t second key two.names b

pub closed_together : (level : LevelSide) (passes : List PassSide) (histories : List (List Entry))
    → ((s : ℕ) (h : List Entry) → slice_get histories s ≡ Some h → IsClosedBy level passes s h) → IsLegal (joined histories)
closed_together level passes histories each =
    joined_legal histories (λ s h at. let one : IsClosedBy level passes s h = each s h at in one.legal) (closed_apart level passes histories each)

-- the histories of a closed level are those of its stripes
pub closed_stripes : (level : LevelSide) (passes : List PassSide) (histories : List (List Entry)) → length histories ≡ length level.level.tables
    → ((s : ℕ) (h : List Entry) → slice_get histories s ≡ Some h → IsClosedBy level passes s h) → AreStripeHistories histories
closed_stripes level passes histories width each s h at =
    let one : IsClosedBy level passes s h = each s h at in
    record { legal = one.legal; names = subst (λ (n : ℕ). Names n s h) (sym width) one.names }
