-- What the words behind the first one ask.
use Rattle.std.proofs.Common.{◌≡◌, ℕ, ◌+◌, ◌-◌, ◌<◌, ◌≤◌, sym, ◌∙◌, ap, subst, List, take, drop, length, length-drop}
use Rattle.std.specs.Prelude.{String, string_bytes}
use Rattle.std.specs.declared.alloc.Global.{Global}
use Rattle.std.proofs.lemmas.List.{drop-map}
use Rattle.std.proofs.Math.Seq.{take-length}
use Rattle.matroid_theory.specs.Rep.{Rep, size}
use Rattle.ask_formats.specs.Question.{Dual, Asks, MayBeNamed, representation_words}
use Rattle.ask_formats.proofs.Asked.{spelled_named, spelled_dual}
use Rattle.ask_run.specs.Texts.{texts_of}
use Rattle.ask_run.proofs.Found.{only_one}

-- all that is behind the first ones
behind : {X : Type 0} (k : ℕ) (xs : List X) → take (length xs - k) (drop k xs) ≡ drop k xs
behind {X} k xs = ap (λ (n : ℕ). take n (drop k xs)) (sym (length-drop k xs)) ∙ take-length (drop k xs)

pub texts_behind : (k : ℕ) (words : List (String Global)) → texts_of (take (length words - k) (drop k words)) ≡ drop k (texts_of words)
texts_behind k words = ap texts_of (behind k words) ∙ sym (drop-map string_bytes k words)

-- what the words behind `dual` spell is what is asked about
pub asked_is_small : (words rest : List (List ℕ)) (M N : Rep) → rest ≡ drop 1 words → MayBeNamed N → rest ≡ representation_words N → Asks words (Dual M)
    → (N.rank < size N) × (size N ≤ N.rank + 6)
asked_is_small words rest M N r may e asks =
    let h : rest ≡ representation_words M = r ∙ ap (λ (ws : List (List ℕ)). drop 1 ws) asks.spelled in
    let same : M ≡ N = only_one rest M N (spelled_dual M asks.may) (spelled_named N may) h e in
    subst (λ (L : Rep). (L.rank < size L) × (size L ≤ L.rank + 6)) same (asks.may.some, asks.may.most)
