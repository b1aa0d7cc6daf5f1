-- The text of a word that names an option, and lists of uses.
use Rattle.std.proofs.Common.{◌≡◌, ◌∙◌, ℕ, ◌+◌, ◌||◌, Bool, true, false, cond, List, [], ◌∷◌, ◌++◌, take, drop, Option, Some, None, refl, sym, ap, ap₂, arith}
use Rattle.std.proofs.Common.{suc, one-add}
use Rattle.std.specs.Prelude.{option_and_then, if◌then◌else◌, ◌==◌}
use Rattle.std.specs.Prelude.{not}
use Rattle.std.specs.List.{position_or_len}
use Rattle.std.specs.Str.{bytes_eq}
use Rattle.std.proofs.lemmas.Slice.Eq.{bytes_eq-Decides}
use Rattle.std.proofs.lemmas.Bool.Decides.{nat_tests}
use Rattle.std.proofs.lemmas.Bool.{or_parts}
use Rattle.clap.specs.Lexer.{long_of, long_of_rest, strip_byte, name_and_value, has_byte}
use Rattle.clap.specs.Walk.{Text}
use Rattle.command_words.proofs.Uses.{Wide, Sampled, Which, Takes, Flag, Use, name_of, same, option_of, has, AreOnce}
use Rattle.command_words.proofs.Walked.{which}

abbrev pub value_part : Option Text → Text
value_part None = []
value_part (Some v) = 61 ∷ v

name_parts : (text : Text) → text ≡ (name_and_value text).0 ++ value_part (name_and_value text).1
name_parts [] = refl
name_parts (x ∷ xs) = go (x == 61) refl (name_parts xs)
  where
    n : ℕ
    n = position_or_len (λ y. y == 61) xs

    go : (b : Bool) → (x == 61) ≡ b → xs ≡ take n xs ++ value_part (if has_byte 61 xs then Some (drop (n + 1) xs) else None)
        → x ∷ xs
        ≡ take (cond (not b) (1 + n) 0) (x ∷ xs) ++ value_part (if b || has_byte 61 xs then Some (drop (cond (not b) (1 + n) 0 + 1) (x ∷ xs)) else None)
    go true is ih = let head : x ≡ 61 = grind (arith, nat_tests) in ap (λ y. y ∷ xs) head
    go false is ih =
        ap (λ l. x ∷ l) ih
        ∙ ap₂ (λ (a b : ℕ). take a (x ∷ xs) ++ value_part (if has_byte 61 xs then Some (drop b (x ∷ xs)) else None)) (sym (one-add n))
        (let e : suc (n + 1) ≡ 1 + n + 1 = omega arith in e)

strip_back : (c : ℕ) (text rest : Text) → strip_byte c text ≡ Some rest → text ≡ c ∷ rest
strip_back c [] rest e = cc
strip_back c (x ∷ xs) rest e = go (x == c) refl e
  where
    go : (b : Bool) → (x == c) ≡ b → cond b (Some xs) None ≡ Some rest → x ∷ xs ≡ c ∷ rest
    go true is h = let head : x ≡ c = grind (arith, nat_tests) in cc
    go false is h = cc

and_then_back : {X Y : Type 0} (f : X → Option Y) (o : Option X) (y : Y) → option_and_then f o ≡ Some y → (x : X) × (o ≡ Some x) × (f x ≡ Some y)
and_then_back f None y e = cc
and_then_back f (Some x) y e = (x, refl, e)

rest_back : (text : Text) (name : Text) (value : Option Text) → long_of_rest text ≡ Some (name, value) → text ≡ name ++ value_part value
rest_back [] name value e = cc
rest_back (x ∷ xs) name value e =
    let parts : name_and_value (x ∷ xs) ≡ (name, value) = cc in
    name_parts (x ∷ xs) ∙ ap (λ (p : Text × Option Text). p.0 ++ value_part p.1) parts

which_back : (name : Text) (i : Which) → which name ≡ Some i → name ≡ name_of i
which_back name i e = go (bytes_eq (name_of (Takes Wide)) name) (bytes_eq (name_of (Takes Sampled)) name) (bytes_eq (name_of Flag) name) refl refl refl e
  where
    is_name : (j : Which) → bytes_eq (name_of j) name ≡ true → j ≡ i → name ≡ name_of i
    is_name j met is = sym ((bytes_eq-Decides (name_of j) name).0 met) ∙ ap name_of is

    go : (b c d : Bool) → bytes_eq (name_of (Takes Wide)) name ≡ b → bytes_eq (name_of (Takes Sampled)) name ≡ c → bytes_eq (name_of Flag) name ≡ d
        → (if b then Some (Takes Wide) else (if c then Some (Takes Sampled) else (if d then Some Flag else None))) ≡ Some i → name ≡ name_of i
    go true c d one two three h = is_name (Takes Wide) one (cc (h))
    go false true d one two three h = is_name (Takes Sampled) two (cc (h))
    go false false true one two three h = is_name Flag three (cc (h))
    go false false false one two three h = cc (h)

-- the word of a use
pub word_is : (word name : Text) (value : Option Text) (i : Which) → long_of word ≡ Some (name, value) → which name ≡ Some i
    → word ≡ 45 ∷ 45 ∷ (name_of i ++ value_part value)
word_is word name value i long is =
    let two = and_then_back long_of_rest (option_and_then (strip_byte 45) (strip_byte 45 word)) (name, value) long in
    let one = and_then_back (strip_byte 45) (strip_byte 45 word) two.0 two.1 in
    let tail : two.0 ≡ name_of i ++ value_part value = rest_back two.0 name value two.2 ∙ ap (λ (t : Text). t ++ value_part value) (which_back name i is) in
    strip_back 45 word one.0 one.1 ∙ ap (λ (t : Text). 45 ∷ t) (strip_back 45 one.0 two.0 one.2 ∙ ap (λ (t : Text). 45 ∷ t) tail)

-- ---- lists of uses

same_back : (i j : Which) → same i j ≡ same j i
same_back (Takes Wide) (Takes Wide) = refl
same_back (Takes Wide) (Takes Sampled) = refl
same_back (Takes Wide) Flag = refl
same_back (Takes Sampled) (Takes Wide) = refl
same_back (Takes Sampled) (Takes Sampled) = refl
same_back (Takes Sampled) Flag = refl
same_back Flag (Takes Wide) = refl
same_back Flag (Takes Sampled) = refl
same_back Flag Flag = refl

has_last : (u : Use) (j : Which) (us : List Use) → has j us ≡ false → same (option_of u) j ≡ false → has j (us ++ u ∷ []) ≡ false
has_last u j [] none apart = rw apart refl
has_last u j (x ∷ us) none apart = go (same (option_of x) j) none (λ h. has_last u j us h apart)
  where
    go : (b : Bool) → (b || has j us) ≡ false → (has j us ≡ false → has j (us ++ u ∷ []) ≡ false) → (b || has j (us ++ u ∷ [])) ≡ false
    go true h ih = let bad : ◌≡◌ {A = Bool} true false = h in absurd (cc)
    go false h ih = ih h

pub once_last : (u : Use) (us : List Use) → AreOnce us → has (option_of u) us ≡ false → AreOnce (us ++ u ∷ [])
once_last u [] once none = (refl, tt)
once_last u (x ∷ us) once none =
    let both = or_parts (same (option_of x) (option_of u)) (has (option_of u) us) none in
    (has_last u (option_of x) us once.0 (same_back (option_of u) (option_of x) ∙ both.0), once_last u us once.1 both.1)

has_mid : (u : Use) (j : Which) (us more : List Use) → same (option_of u) j ≡ true → has j (us ++ u ∷ more) ≡ true
has_mid u j [] more is = rw is refl
has_mid u j (x ∷ us) more is = go (same (option_of x) j) (has_mid u j us more is)
  where
    go : (b : Bool) → has j (us ++ u ∷ more) ≡ true → (b || has j (us ++ u ∷ more)) ≡ true
    go true h = refl
    go false h = h

pub once_mid : (u : Use) (us more : List Use) → AreOnce (us ++ u ∷ more) → has (option_of u) us ≡ false
once_mid u [] more once = refl
once_mid u (x ∷ us) more once = go (same (option_of x) (option_of u)) refl (once_mid u us more once.1)
  where
    go : (b : Bool) → same (option_of x) (option_of u) ≡ b → has (option_of u) us ≡ false → (b || has (option_of u) us) ≡ false
    go true is h =
        let bad : ◌≡◌ {A = Bool} true false = sym (has_mid u (option_of x) us more (same_back (option_of u) (option_of x) ∙ is)) ∙ once.0 in absurd (cc)
    go false is h = h
