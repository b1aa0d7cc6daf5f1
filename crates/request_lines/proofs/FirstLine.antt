-- The version that the first line of a text says.
use Rattle.std.proofs.Common.{◌≡◌, ◌∙◌, ℕ, Bool, true, false, not, cond, List, [], ◌∷◌, refl, sym, ap}
use Rattle.std.specs.Prelude.{codes, bytes_eq, IsTrue, ◌↔◌}
use Rattle.std.proofs.lemmas.Slice.Eq.{bytes_eq-Decides}
use Rattle.formats.specs.Lines.{lines_of, words_of, is_skipped, statements_of}
use Rattle.formats.specs.Request.{says_two, version_in, version_of}

skips : (line : List ℕ) (lines : List (List ℕ)) → is_skipped (words_of line) ≡ true → statements_of (line ∷ lines) ≡ statements_of lines
skips line lines e = ap (λ (b : Bool). cond (not b) (words_of line ∷ statements_of lines) (statements_of lines)) e

stands : (line : List ℕ) (lines : List (List ℕ)) → is_skipped (words_of line) ≡ false → statements_of (line ∷ lines) ≡ words_of line ∷ statements_of lines
stands line lines e = ap (λ (b : Bool). cond (not b) (words_of line ∷ statements_of lines) (statements_of lines)) e

-- a first line that is skipped
pub version_after : (text line after : List ℕ) → lines_of text ≡ line ∷ lines_of after → is_skipped (words_of line) ≡ true → version_of text ≡ version_of after
version_after text line after e skipped = ap (λ (l : List (List ℕ)). version_in (statements_of l)) e ∙ ap version_in (skips line (lines_of after) skipped)

-- a first line that isn't
pub version_said : (text line after : List ℕ) (two : Bool) → lines_of text ≡ line ∷ lines_of after →
    is_skipped (words_of line) ≡ false → says_two (words_of line) ≡ two
    → version_of text ≡ cond two 2 1
version_said text line after two e counts says =
    ap (λ (l : List (List ℕ)). version_in (statements_of l)) e ∙ ap version_in (stands line (lines_of after) counts) ∙ ap (λ (b : Bool). cond b 2 1) says

-- no line
pub version_none : (text : List ℕ) → text ≡ [] → version_of text ≡ 1
version_none text e = ap version_of e

two_words : (r : Bool) (word : List ℕ) → (IsTrue r ↔ (word ∷ [] ≡ codes "2" ∷ [])) → r ≡ bytes_eq word (codes "2")
two_words true word is = let e : word ≡ codes "2" = cc (is.0 refl) in sym ((bytes_eq-Decides word (codes "2")).1 e)
two_words false word is = by (bytes_eq word (codes "2")) refl
  where
    by : (b : Bool) → bytes_eq word (codes "2") ≡ b → false ≡ b
    by true e = let same : word ≡ codes "2" = (bytes_eq-Decides word (codes "2")).0 e in is.1 (ap (λ (w : List ℕ). w ∷ []) same)
    by false e = refl

-- the words after `version`
pub after_version : (r : Bool) (words : List (List ℕ)) → (IsTrue r ↔ (words ≡ codes "2" ∷ [])) → r ≡ says_two (codes "version" ∷ words)
after_version true [] is = cc (is.0 refl)
after_version false [] is = refl
after_version r (word ∷ []) is = two_words r word is
after_version true (word ∷ next ∷ more) is = cc (is.0 refl)
after_version false (word ∷ next ∷ more) is = refl
