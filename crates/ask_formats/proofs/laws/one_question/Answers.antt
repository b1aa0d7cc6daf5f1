use Rattle.std.proofs.Common.{◌≡◌, ◌∙◌, ℕ, ◌<◌, List, refl, sym, ap, arith}
use Rattle.std.specs.Prelude.{decimal}
use Rattle.std.specs.List.{slice_index}
use Rattle.std.proofs.lemmas.Fmt.{decimal_injective}
use Rattle.matroid_theory.specs.Field.{IsOrder}
use Rattle.matroid_theory.specs.Rep.{Rep}
use Rattle.formats.specs.Statement.{minor_words}
use Rattle.formats.proofs.Unique.{order_small, minor_same}
use Rattle.ask_formats.specs.Question.{Question, Dual, OverName, OverForm, Asks, CanBeSpelled, representation_words, spelling}
use Rattle.ask_formats.proofs.Readings.{read_as, read_same}
use Rattle.ask_formats.specs.Places.{word_at}
use Rattle.ask_formats.proofs.Asked.{spelled_named, spelled_dual}
use Rattle.ask_formats.proofs.laws.one_question.Goals as goal

same : (M N : Rep) → CanBeSpelled M → CanBeSpelled N → representation_words M ≡ representation_words N → M ≡ N
same M N c d e = read_same (representation_words M) M N c d (read_as M c (representation_words M) refl) (read_as N d (representation_words M) e)

same_order : (q s : ℕ) → IsOrder q → IsOrder s → decimal q ≡ decimal s → q ≡ s
same_order q s o p e =
    let l : q < 14 = order_small q o in
    let m : s < 14 = order_small s p in
    decimal_injective q s (omega arith) (omega arith) e

-- the first letter of the word at a place
abbrev letter : ℕ → List (List ℕ) → ℕ
letter place words = slice_index (word_at words place) 0

pub returns-clause-question : goal.returns-clause-question
returns-clause-question c = questions
  where
    spelled : (words : List (List ℕ)) (a b : Question) → Asks words a → Asks words b → spelling a ≡ spelling b
    spelled words a b p q = sym p.spelled ∙ q.spelled

    questions : (words : List (List ℕ)) (a b : Question) → Asks words a → Asks words b → a ≡ b
    questions words (Dual M) (Dual N) p q =
        let e = spelled words (Dual M) (Dual N) p q in
        ap Dual (same M N (spelled_dual M p.may) (spelled_dual N q.may) (cc (e)))
    questions words (OverName order name) (OverName order' name') p q =
        let e = spelled words (OverName order name) (OverName order' name') p q in
        let o : decimal order ≡ decimal order' = cc (e) in
        let w : minor_words name ≡ minor_words name' = cc (e) in
        let orders = same_order order order' p.may.is_order q.may.is_order o in
        let names = minor_same name name' p.may.sought.is_name q.may.sought.is_name w in
        cc (orders, names)
    questions words (OverForm order M) (OverForm order' N) p q =
        let e = spelled words (OverForm order M) (OverForm order' N) p q in
        let o : decimal order ≡ decimal order' = cc (e) in
        let orders = same_order order order' p.may.is_order q.may.is_order o in
        let reps = same M N (spelled_named M p.may.named) (spelled_named N q.may.named) (cc (e)) in
        cc (orders, reps)
    questions words a b p q = let e = spelled words a b p q in absurd (omega (arith, ap (letter 0) e, ap (letter 2) e))

pub returns-clause-representation : goal.returns-clause-representation
returns-clause-representation c = same
