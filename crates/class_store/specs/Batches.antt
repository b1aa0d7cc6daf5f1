-- A batch of keys that one call offers.
use Rattle.std.specs.Prelude.{ℕ, zero, suc, cond, ◌+◌, ◌≤◌, ◌≡◌, ◌⊎◌, List, [], ◌∷◌, ◌++◌, length, slice_get, slice_set, Some}
use Rattle.std.specs.List.{AllByRecursion, Contains}
use mathlib.Core.List.{IsPrefix}
use Rattle.histories.specs.declared.entry.Entry.{Entry}
use Rattle.histories.specs.SetObject.{after_offer, keys_after, reply_to}
use Rattle.histories.specs.History.{entry}
use Rattle.histories.specs.Counts.{is_new}
use Rattle.class_store.specs.Seen.{PassSide, Track}

-- the entries of the caller c for these keys, numbered from n on, at a set that has these keys before
abbrev pub entries_for : ℕ → ℕ → List (List ℕ) → List (List ℕ) → List Entry
entries_for c n set [] = []
entries_for c n set (key ∷ keys) = entry c n key (reply_to set key) ∷ entries_for c (suc n) (after_offer set key) keys

-- how many of the entries were told New
abbrev pub news_in : List Entry → ℕ
news_in [] = zero
news_in (e ∷ es) = cond (is_new e.reply) (suc (news_in es)) (news_in es)

-- One batch as a pass knows it: the history before it, of which what was seen is a beginning, and its own entries, with nothing between
pub record IsBatch (number : ℕ) (keys : List (List ℕ)) (set : List (List ℕ)) (before : List Entry) (news : ℕ) (old new : Track) : Type 0 where
  pub begun : IsPrefix old.seen before
  pub seen : new.seen ≡ before ++ entries_for number (length old.mine) set keys
  pub mine : new.mine ≡ old.mine ++ entries_for number (length old.mine) set keys
  pub count : news ≡ news_in (entries_for number (length old.mine) set keys)

-- the pass offered these keys to this stripe in one batch, so many were told New, and no other stripe of it changed
abbrev pub OffersBatch : PassSide → PassSide → ℕ → List (List ℕ) → ℕ → Type 0
OffersBatch earlier later stripe keys news = (old new : Track) × (before : List Entry) × (slice_get earlier.tracks stripe ≡ Some old)
    × (later.tracks ≡ slice_set earlier.tracks stripe new) × IsBatch earlier.number keys (keys_after before) before news old new

-- some key of the batch is none of these
abbrev pub SomeIsMissing : List (List ℕ) → List (List ℕ) → Type 0
SomeIsMissing keys seen = (key : List ℕ) × Contains keys key × ¬ (Contains seen key)

-- a set with these keys and so much room takes the rest of a batch
abbrev pub HasRoom : List (List ℕ) → ℕ → List (List ℕ) → Type 0
HasRoom keys spare rest = (length rest ≤ spare) ⊎ AllByRecursion (Contains keys) rest

-- what was seen after i offers
abbrev pub seen_after : ℕ → List Entry → List Entry → List Entry
seen_after zero seen history = seen
seen_after (suc n) seen history = history

-- where a batch stands after i of its keys
pub record IsGoing (number i news : ℕ) (all rest : List (List ℕ)) (set0 set : List (List ℕ))
    (history0 mine0 seen0 history mine seen : List Entry) : Type 0 where
  pub in_history : history0 ++ entries_for number (length mine0) set0 all ≡ history ++ entries_for number (length mine) set rest
  pub in_mine : mine0 ++ entries_for number (length mine0) set0 all ≡ mine ++ entries_for number (length mine) set rest
  pub count : news_in (entries_for number (length mine0) set0 all) ≡ news + news_in (entries_for number (length mine) set rest)
  pub few : news ≤ i
  pub seen_then : seen ≡ seen_after i seen0 history
