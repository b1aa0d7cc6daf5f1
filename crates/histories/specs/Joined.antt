-- The histories of several stripes as one history of one set.
use Rattle.std.specs.Prelude.{ℕ, suc, ◌≡◌, cond, ◌==◌, List, [], ◌∷◌, Some, slice_get}
use Rattle.std.specs.List.{flat_map, Contains}
use Rattle.histories.specs.declared.entry.Entry.{Entry}
use Rattle.histories.specs.Counts.{keys_of}

-- how many calls each caller made, after one more of the caller `c`
abbrev pub one_call_more : ℕ → (ℕ → ℕ) → ℕ → ℕ
one_call_more c made d = cond (c == d) (suc (made d)) (made d)

-- the same entries, with each caller's calls numbered anew, where each had made so many before
abbrev pub renumbered : (ℕ → ℕ) → List Entry → List Entry
renumbered made [] = []
renumbered made (e ∷ es) = record { caller = e.caller; call = made e.caller; key = e.key; reply = e.reply } ∷ renumbered (one_call_more e.caller made) es

-- the histories one after the other, with each caller's calls numbered anew
abbrev pub joined : List (List Entry) → List Entry
joined histories = renumbered (λ _. 0) (flat_map (λ history. history) histories)

-- no key stands in two of the histories
abbrev pub ShareNoKey : List (List Entry) → Type 0
ShareNoKey histories = (s t : ℕ) (first second : List Entry) → slice_get histories s ≡ Some first → slice_get histories t ≡ Some second →
    (key : List ℕ) → Contains (keys_of first) key → Contains (keys_of second) key → s ≡ t
