-- The set as one thread sees it: a list of distinct keys. A missing key that is offered is put last.
use Rattle.std.specs.Prelude.{ℕ, Bool, cond, List, [], ◌∷◌, ◌++◌}
use Rattle.std.specs.List.{list_any}
use Rattle.std.specs.Str.{bytes_eq}
use Rattle.histories.specs.declared.entry.Entry.{Entry}
use Rattle.histories.specs.declared.entry.Reply.{Reply}
use Rattle.histories.specs.declared.entry.Reply.TheVariants.{New, Again}

-- the key is one of the list
abbrev pub has_key : List (List ℕ) → List ℕ → Bool
has_key keys key = list_any (bytes_eq key) keys

-- what the set with these keys answers to an offer, and the keys that it then has
abbrev pub reply_to : List (List ℕ) → List ℕ → Reply
reply_to keys key = cond (has_key keys key) Again New

abbrev pub after_offer : List (List ℕ) → List ℕ → List (List ℕ)
after_offer keys key = cond (has_key keys key) keys (keys ++ key ∷ [])

-- the set's keys after the calls of a history, from these keys on, and from none on
abbrev pub keys_from : List (List ℕ) → List Entry → List (List ℕ)
keys_from keys [] = keys
keys_from keys (e ∷ es) = keys_from (after_offer keys e.key) es

abbrev pub keys_after : List Entry → List (List ℕ)
keys_after = keys_from []
