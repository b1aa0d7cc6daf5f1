-- Histories of calls on the set.
use Rattle.std.specs.Prelude.{ℕ, suc, ◌≡◌, ◌==◌, List, [], ◌∷◌}
use Rattle.std.specs.List.{filter}
use Rattle.histories.specs.declared.entry.Entry.{Entry}
use Rattle.histories.specs.declared.entry.Reply.{Reply}
use Rattle.histories.specs.SetObject.{reply_to, after_offer}

-- the call number `n` of the caller `c`
abbrev pub entry : ℕ → ℕ → List ℕ → Reply → Entry
entry c n key reply = record { caller = c; call = n; key = key; reply = reply }

-- the calls of one caller in a history
abbrev pub calls_by : ℕ → List Entry → List Entry
calls_by c = filter (λ e. e.caller == c)

-- each reply is the set's, where it begins with these keys
abbrev pub RepliesFrom : List (List ℕ) → List Entry → Type 0
RepliesFrom keys [] = Unit {0}
RepliesFrom keys (e ∷ es) = (e.reply ≡ reply_to keys e.key) × RepliesFrom (after_offer keys e.key) es

-- these are calls of the caller c, numbered in order from n on
abbrev pub IsNumbered : ℕ → ℕ → List Entry → Type 0
IsNumbered c n [] = Unit {0}
IsNumbered c n (e ∷ es) = (e.caller ≡ c) × (e.call ≡ n) × IsNumbered c (suc n) es

-- each reply is the set's, which begins empty, and each caller's calls are numbered 0, 1, 2 and so on
pub record IsLegal (history : List Entry) : Type 0 where
  pub replies : RepliesFrom [] history
  pub numbers : (c : ℕ) → IsNumbered c 0 (calls_by c history)
