-- Which sizes are whole in a text that begins with the text of some levels.
use Rattle.std.proofs.Common.{◌≡◌, ◌∙◌, ℕ, ◌+◌, ◌-◌, ◌<◌, ◌≤◌, List, [], ◌∷◌, ◌++◌, length, take, drop, inl, inr, refl, sym, ap, subst, arith, append_assoc, length-append, take-append-drop}
use Rattle.std.specs.Prelude.{codes, decimal}
use Rattle.std.specs.List.{concat, join_with_byte}
use Rattle.std.proofs.lemmas.Bool.{cases_lt}
use Rattle.std.proofs.lemmas.List.{append_cancel_left, length-take-le}
use Rattle.formats.specs.Request.{Request}
use Rattle.formats.specs.Lines.{line_of_words}
use Rattle.formats.specs.Listing.{LevelEntry, level_count, level_pieces, form_pieces, level_text}
use Rattle.formats.specs.Levels.{IsLevelEntry, AreFirstLevels, IsListing}
use Rattle.formats.proofs.OneListing.{first_of_levels}
use Rattle.resume_formats.specs.Cut.{IsWhole, text_of_levels}
use Rattle.resume_formats.proofs.LevelTexts.{texts, text_of_levels-append, fewer_levels, next_of_levels}

line_has_bytes : (words : List (List ℕ)) → 0 < length (line_of_words words)
line_has_bytes words = omega (arith, length-append (join_with_byte 32 words) (10 ∷ []))

line_of_level : (size classes listed tried : ℕ) → 0 < length (level_text size classes listed tried)
unfolding level_text
line_of_level size classes listed tried =
    line_has_bytes (codes "level" ∷ decimal size ∷ codes "classes" ∷ decimal classes ∷ codes "listed" ∷ decimal listed ∷ codes "tried" ∷ decimal tried ∷ [])

-- a level has a line, so it has bytes
pub level_has_bytes : (q : Request) (x : LevelEntry) → 0 < length (concat (level_pieces q.print x))
level_has_bytes q x =
    omega (
      arith,
      line_of_level x.size x.classes (length x.listed) x.tried,
      length-append (level_text x.size x.classes (length x.listed) x.tried) (concat (form_pieces q.print x.listed)),
    )

-- Nothing of a further level fits into what is left: there is none, or its bytes are more.
pub record NoMoreFits (q : Request) (levels : List LevelEntry) (rest : List ℕ) : Type 0 where
  pub none : (x : LevelEntry) → length levels < level_count q → IsLevelEntry q x → x.size ≡ q.rank + length levels
      → length rest < length (concat (level_pieces q.print x))

-- of two fronts of a list the longer begins with the other
pub longer_front : {X : Type 0} (xs ys zs ws : List X) → xs ++ zs ≡ ys ++ ws → length xs ≤ length ys → (ms : List X) × (ys ≡ xs ++ ms)
longer_front [] ys zs ws e l = (ys, refl)
longer_front (x ∷ xs) [] zs ws e l = absurd (omega arith)
longer_front (x ∷ xs) (y ∷ ys) zs ws e l =
    let first : x ≡ y = cc (e) in
    let more : xs ++ zs ≡ ys ++ ws = cc (e) in
    let r = longer_front xs ys zs ws more (omega arith) in
    (r.0, λ i. sym first i ∷ r.1 i)

module _ (q : Request) (text : List ℕ) (levels : List LevelEntry) (rest : List ℕ) (are : AreFirstLevels q levels)
    (is : text ≡ text_of_levels q levels ++ rest) where
  -- the sizes of these levels are whole
  pub whole_there : (n : ℕ) → q.rank ≤ n → n < q.rank + length levels → IsWhole q n text
  whole_there n low high =
      let k = n + 1 - q.rank in
      let few : length (take k levels) ≡ k = length-take-le k levels (omega arith) in
      let split : take k levels ++ drop k levels ≡ levels = take-append-drop k levels in
      record {
        levels = take k levels;
        are = fewer_levels q (take k levels) (drop k levels) (subst (AreFirstLevels q) (sym split) are);
        at_least = low;
        last = omega arith;
        begins = (
          texts q (drop k levels) ++ rest,
          is ∙ ap (λ (ls : List LevelEntry). text_of_levels q ls ++ rest) (sym split)
              ∙ ap (λ (t : List ℕ). t ++ rest) (text_of_levels-append q (take k levels) (drop k levels))
              ∙ append_assoc (text_of_levels q (take k levels)) (texts q (drop k levels)) rest,
        );
      }

  -- where nothing further fits, no other is
  too_long : (more : List LevelEntry) (after : List ℕ) → 0 < length more → AreFirstLevels q (levels ++ more) → NoMoreFits q levels rest
      → text ≡ text_of_levels q (levels ++ more) ++ after → ⊥
  too_long [] after some all fits e = omega arith
  too_long (x ∷ more) after some all fits e =
      let next = next_of_levels q levels x more all in
      let bytes = concat (level_pieces q.print x) in
      let left : rest ≡ (bytes ++ texts q more) ++ after =
      append_cancel_left (text_of_levels q levels) rest ((bytes ++ texts q more) ++ after)
      (sym is ∙ e ∙ ap (λ (t : List ℕ). t ++ after) (text_of_levels-append q levels (x ∷ more))
      ∙ append_assoc (text_of_levels q levels) (bytes ++ texts q more) after) in
      let short : length rest < length bytes =
      fits.none x (let most = all.at_most in omega (arith, length-append levels (x ∷ more))) next.0 next.1 in
      absurd (omega (arith, ap length left, length-append (bytes ++ texts q more) after, length-append bytes (texts q more)))

  pub whole_only : (listing : List ℕ) → IsListing q listing → NoMoreFits q levels rest → (n : ℕ) → IsWhole q n text → n < q.rank + length levels
  whole_only listing l fits n w =
      elim (cases_lt n (q.rank + length levels)) [
        | inl below ↦ below
        | inr above ↦ absurd (
            let (zs, mine) = first_of_levels q levels l.levels are l.are in
            let (ws, others) = first_of_levels q w.levels l.levels w.are l.are in
            let low = w.at_least in
            let last = w.last in
            let (more, split) = longer_front levels w.levels zs ws (sym mine ∙ others) (omega arith) in
            let some : 0 < length more = omega (arith, ap length split, length-append levels more) in
            too_long more w.begins.0 some (subst (AreFirstLevels q) split w.are) fits
            (w.begins.1 ∙ ap (λ (ls : List LevelEntry). text_of_levels q ls ++ w.begins.0) split))
      ]
