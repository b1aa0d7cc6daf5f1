-- What a store holds after a level was grown through it.
use Rattle.std.specs.Prelude.{ℕ, ◌≡◌, ◌↔◌, List}
use Rattle.matroid_theory.specs.Rep.{Rep}
use Rattle.matroid_theory.specs.Level.{Family, IsLevelForm, IsCount}
use Rattle.formats.specs.Request.{Request}
use Rattle.formats.specs.Levels.{Grows}
use Rattle.histories.specs.declared.entry.Entry.{Entry}
use Rattle.histories.specs.History.{IsLegal}
use Rattle.histories.specs.Counts.{entries_in, news_among}
use Rattle.histories.specs.Joined.{joined}
use Rattle.class_store.specs.Seen.{AreStripeHistories, IsNewIn}
use Rattle.form_key.specs.Packing.{packing}
use Rattle.store_laws.specs.TryKeys.{IsTryKey}

-- The history of each stripe is a legal one of a set, and its keys name that stripe. So they are together one legal history, where each key has
-- as many entries as there are tries of size n with that key, and no others. The keys told New are those of the level, each told so just once.
pub record HoldsTries (family : Family) (n : ℕ) (histories : List (List Entry)) : Type 0 where
  pub stripes : AreStripeHistories histories
  pub legal : IsLegal (joined histories)
  pub entries : (key : List ℕ) → IsCount (λ try. IsTryKey family n try key) (entries_in histories key)
  pub fresh : (key : List ℕ) → IsNewIn histories key ↔ ((M : Rep) × IsLevelForm family n M × (packing M ≡ key))
  pub once : (M : Rep) → IsLevelForm family n M → news_among histories (packing M) ≡ 1

-- the same for what the request grows
abbrev pub HoldsTriesOf : Request → ℕ → List (List Entry) → Type 0
HoldsTriesOf q n histories = (family : Family) → Grows q family → HoldsTries family n histories
