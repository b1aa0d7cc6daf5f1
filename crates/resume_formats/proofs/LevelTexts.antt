-- The text of a listing, level by level.
use Rattle.std.proofs.Common.{◌≡◌, ◌∙◌, ℕ, ◌+◌, ◌<◌, List, [], ◌∷◌, ◌++◌, map, length, refl, sym, ap, arith, append_assoc, length-append}
use Rattle.std.specs.List.{AllByRecursion, range_with_len, concat}
use Rattle.std.proofs.lemmas.List.{append-nil, map-append, nil_from_length}
use Rattle.list_lemmas.proofs.Lists.{all_between}
use Rattle.formats.specs.Request.{Request}
use Rattle.formats.specs.Listing.{LevelEntry, level_count, level_pieces, head_text, end_text, listing_blocks, text_of_blocks}
use Rattle.formats.specs.Levels.{IsLevelEntry, AreFirstLevels, IsListing}
use Rattle.formats.proofs.OneListing.{first_of_levels}
use Rattle.formats.proofs.Fronts.{level_blocks, text-append, blocks_of_all}
use Rattle.resume_formats.specs.Cut.{text_of_levels}

-- the text of the pieces of some levels
abbrev pub texts : Request → List LevelEntry → List ℕ
texts q levels = text_of_blocks (map (level_pieces q.print) levels)

pub texts-append : (q : Request) (xs ys : List LevelEntry) → texts q (xs ++ ys) ≡ texts q xs ++ texts q ys
texts-append q xs ys = ap text_of_blocks (map-append (level_pieces q.print) xs ys) ∙ text-append (map (level_pieces q.print) xs) (map (level_pieces q.print) ys)

pub text_of_levels-append : (q : Request) (xs ys : List LevelEntry) → text_of_levels q (xs ++ ys) ≡ text_of_levels q xs ++ texts q ys
text_of_levels-append q xs ys = ap (λ (t : List ℕ). head_text q ++ t) (texts-append q xs ys) ∙ sym (append_assoc (head_text q) (texts q xs) (texts q ys))

-- the whole listing
pub listing_text : (q : Request) (levels : List LevelEntry) → 0 < level_count q → length levels ≡ level_count q
    → text_of_blocks (listing_blocks q levels) ≡ text_of_levels q levels ++ end_text
listing_text q [] some all = absurd (omega arith)
listing_text q (x ∷ levels) some all =
    ap text_of_blocks (blocks_of_all q x levels all)
    ∙ text-append (level_blocks q (x ∷ levels)) ((end_text ∷ []) ∷ [])
    ∙ ap (λ (t : List ℕ). ((head_text q ++ concat (level_pieces q.print x)) ++ texts q levels) ++ t) (append-nil (end_text ++ []) ∙ append-nil end_text)
    ∙ ap (λ (t : List ℕ). t ++ end_text) (append_assoc (head_text q) (concat (level_pieces q.print x)) (texts q levels))

-- the listing behind its first levels
pub record IsBehind (q : Request) (levels : List LevelEntry) (listing behind : List ℕ) : Type 0 where
  pub more : List LevelEntry
  pub number : length levels + length more ≡ level_count q
  pub is : behind ≡ texts q more ++ end_text
  pub split : listing ≡ text_of_levels q levels ++ behind

pub behind_levels : (q : Request) (levels : List LevelEntry) (listing : List ℕ) → 0 < level_count q → AreFirstLevels q levels → IsListing q listing
    → (behind : List ℕ) × IsBehind q levels listing behind
behind_levels q levels listing some are l =
    let (more, split) = first_of_levels q levels l.levels are l.are in (
      texts q more ++ end_text,
      record {
        more = more;
        number = sym (length-append levels more) ∙ ap length (sym split) ∙ l.are.are_all;
        is = refl;
        split = l.is ∙ listing_text q l.levels some l.are.are_all
            ∙ ap (λ (ls : List LevelEntry). text_of_levels q ls ++ end_text) split
            ∙ ap (λ (t : List ℕ). t ++ end_text) (text_of_levels-append q levels more)
            ∙ append_assoc (text_of_levels q levels) (texts q more) end_text;
      },
    )

-- behind all levels there is the end line
pub behind_all : (q : Request) (levels : List LevelEntry) (listing behind : List ℕ) → IsBehind q levels listing behind → length levels ≡ level_count q
    → behind ≡ end_text
behind_all q levels listing behind b all =
    let none : length b.more ≡ 0 = omega (arith, b.number, all) in
    b.is ∙ ap (λ (ls : List LevelEntry). texts q ls ++ end_text) (nil_from_length b.more none)

-- ---- more levels, and fewer

all_front : {X : Type 0} (P : X → Type 0) (xs ys : List X) → AllByRecursion P (xs ++ ys) → AllByRecursion P xs
all_front P [] ys all = tt
all_front P (x ∷ xs) ys all = (all.0, all_front P xs ys all.1)

sizes_front : (a : ℕ) (xs ys : List LevelEntry) → map (λ l. l.size) (xs ++ ys) ≡ range_with_len a (length (xs ++ ys))
    → map (λ l. l.size) xs ≡ range_with_len a (length xs)
sizes_front a [] ys e = refl
sizes_front a (x ∷ xs) ys e =
    let first : x.size ≡ a = cc (e) in
    let more : map (λ l. l.size) (xs ++ ys) ≡ range_with_len (a + 1) (length (xs ++ ys)) = cc (e) in
    λ i. first i ∷ sizes_front (a + 1) xs ys more i

-- fewer of the first levels are first levels
pub fewer_levels : (q : Request) (xs ys : List LevelEntry) → AreFirstLevels q (xs ++ ys) → AreFirstLevels q xs
fewer_levels q xs ys are = record {
  sizes = sizes_front q.rank xs ys are.sizes;
  at_most = omega (arith, are.at_most, length-append xs ys);
  each = all_front (IsLevelEntry q) xs ys are.each;
}

next_size : (a : ℕ) (xs : List LevelEntry) (x : LevelEntry) (ys : List LevelEntry) → map (λ l. l.size) (xs ++ x ∷ ys) ≡ range_with_len a (length (xs ++ x ∷ ys))
    → x.size ≡ a + length xs
next_size a [] x ys e = let first : x.size ≡ a = cc (e) in omega arith
next_size a (y ∷ xs) x ys e =
    let more : map (λ l. l.size) (xs ++ x ∷ ys) ≡ range_with_len (a + 1) (length (xs ++ x ∷ ys)) = cc (e) in
    omega (arith, next_size (a + 1) xs x ys more)

-- what the first levels have behind others of them is the next level
pub next_of_levels : (q : Request) (xs : List LevelEntry) (x : LevelEntry) (ys : List LevelEntry) → AreFirstLevels q (xs ++ x ∷ ys)
    → IsLevelEntry q x × (x.size ≡ q.rank + length xs)
next_of_levels q xs x ys are = (all_between (IsLevelEntry q) xs ys x are.each, next_size q.rank xs x ys are.sizes)
