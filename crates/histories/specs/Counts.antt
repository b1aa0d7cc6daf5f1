-- The keys of a history, those that were told New, and how many entries have a key.
use Rattle.std.specs.Prelude.{ℕ, ◌≡◌, Bool, true, false, ◌&&◌, List, map}
use Rattle.std.specs.List.{filter, count_by, sum_by}
use Rattle.std.specs.Str.{bytes_eq}
use Rattle.histories.specs.declared.entry.Entry.{Entry}
use Rattle.histories.specs.declared.entry.Reply.{Reply}
use Rattle.histories.specs.declared.entry.Reply.TheVariants.{New, Again}

-- the keys of these entries, in order
abbrev pub keys_of : List Entry → List (List ℕ)
keys_of history = map (λ (e : Entry). e.key) history

abbrev pub is_new : Reply → Bool
is_new New = true
is_new Again = false

-- the keys of the entries that were told New, in order
abbrev pub new_keys : List Entry → List (List ℕ)
new_keys history = keys_of (filter (λ (e : Entry). is_new e.reply) history)

-- how many entries have this key, and how many of them were told New
abbrev pub entries_with : List ℕ → List Entry → ℕ
entries_with key history = count_by (λ (e : Entry). bytes_eq key e.key) history

abbrev pub news_with : List ℕ → List Entry → ℕ
news_with key history = count_by (λ (e : Entry). is_new e.reply && bytes_eq key e.key) history

-- how many entries of all these histories have the key
abbrev pub entries_in : List (List Entry) → List ℕ → ℕ
entries_in histories key = sum_by (entries_with key) histories

-- how many of these were told New
abbrev pub news_among : List (List Entry) → List ℕ → ℕ
news_among histories key = sum_by (news_with key) histories

-- the keys of the history are these, each as often as it stands in the list
abbrev pub AreItsKeys : List (List ℕ) → List Entry → Type 0
AreItsKeys keys history = (key : List ℕ) → entries_with key history ≡ count_by (bytes_eq key) keys
