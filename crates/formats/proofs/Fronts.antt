-- What is written of a listing is a front of it.
use Rattle.std.proofs.Common.{◌≡◌, ◌∙◌, ℕ, ◌<◌, ◌≤◌, List, [], ◌∷◌, ◌++◌, map, length, sym, ap, subst, arith, append_assoc, length-append, inl, inr, ◌+◌, refl}
use Rattle.std.specs.List.{concat, range_with_len}
use Rattle.std.proofs.lemmas.List.{append-nil, map-append, map_push, length_push}
use Rattle.std.proofs.lemmas.Grind.{flat_map-append}
use Rattle.std.proofs.lemmas.Bool.{cases_eq, eq-eqb, ne_eqb}
use Rattle.list_lemmas.proofs.Lists.{all_push, range_more}
use Rattle.formats.specs.Request.{Request}
use Rattle.formats.specs.Listing.{LevelEntry, level_count, level_pieces, head_text, end_text, with_front, end_blocks, listing_blocks, text_of_blocks, IsCutOff}
use Rattle.formats.specs.Levels.{AreFirstLevels, AreLevels, IsListing, IsListingUpTo, IsListingCutOff, IsProperFront, IsLevelEntry}
use Rattle.formats.proofs.OneListing.{first_of_levels}

abbrev Block : Type 0
Block = List (List ℕ)

-- the blocks of some levels, without the end
abbrev pub level_blocks : Request → List LevelEntry → List Block
level_blocks q levels = with_front (head_text q) (map (level_pieces q.print) levels)

pub no_levels : (q : Request) → AreFirstLevels q []
no_levels q = record { sizes = refl; at_most = omega arith; each = tt }

-- one more level after the first ones
pub one_more_level : (q : Request) (levels : List LevelEntry) (next : LevelEntry) → AreFirstLevels q levels → IsLevelEntry q next
    → next.size ≡ q.rank + length levels → length levels < level_count q → AreFirstLevels q (levels ++ next ∷ [])
one_more_level q levels next are entry at room = record {
  sizes = map_push (λ l. l.size) levels next
      ∙ ap (λ (ns : List ℕ). ns ++ next.size ∷ []) are.sizes
      ∙ ap (λ k. range_with_len q.rank (length levels) ++ k ∷ []) at
      ∙ sym (range_more q.rank (length levels))
      ∙ ap (range_with_len q.rank) (sym (length_push levels next));
  at_most = omega (arith, length_push levels next);
  each = all_push (IsLevelEntry q) levels next are.each entry;
}

-- the texts of blocks after others
pub text-append : (xs ys : List Block) → text_of_blocks (xs ++ ys) ≡ text_of_blocks xs ++ text_of_blocks ys
text-append xs ys = flat_map-append concat xs ys

-- more levels put blocks behind those of some levels
pub more_levels : (q : Request) (x : LevelEntry) (xs ys : List LevelEntry) →
    level_blocks q ((x ∷ xs) ++ ys) ≡ level_blocks q (x ∷ xs) ++ map (level_pieces q.print) ys
more_levels q x xs ys = ap (λ (bs : List Block). (head_text q ∷ level_pieces q.print x) ∷ bs) (map-append (level_pieces q.print) xs ys)

-- while levels are missing there is no end line
pub blocks_of_some : (q : Request) (levels : List LevelEntry) → length levels < level_count q → listing_blocks q levels ≡ level_blocks q levels
blocks_of_some q levels some =
    ap (λ b. with_front (head_text q) (map (level_pieces q.print) levels ++ end_blocks b)) (ne_eqb (length levels) (level_count q) (λ same. omega arith))
    ∙ ap (with_front (head_text q)) (append-nil (map (level_pieces q.print) levels))

-- after all levels it is there
pub blocks_of_all : (q : Request) (x : LevelEntry) (levels : List LevelEntry) → length (x ∷ levels) ≡ level_count q →
    listing_blocks q (x ∷ levels) ≡ level_blocks q (x ∷ levels) ++ (end_text ∷ []) ∷ []
blocks_of_all q x levels all = ap (λ b. with_front (head_text q) (map (level_pieces q.print) (x ∷ levels) ++ end_blocks b))
    (eq-eqb (length (x ∷ levels)) (level_count q) all)

end_is_long : 0 < length end_text
unfolding end_text
end_is_long = omega arith

-- blocks with the end line have bytes
ends : (blocks : List Block) → 0 < length (text_of_blocks (blocks ++ (end_text ∷ []) ∷ []))
ends blocks = omega (
  arith,
  end_is_long,
  ap length (text-append blocks ((end_text ∷ []) ∷ [])),
  length-append (text_of_blocks blocks) ((end_text ++ []) ++ []),
  length-append (end_text ++ []) [],
  length-append end_text [],
)

-- what comes behind the blocks of some first levels
record IsContinued (q : Request) (xs ys : List LevelEntry) : Type 0 where
  more : List Block
  split : listing_blocks q ys ≡ listing_blocks q xs ++ more
  some : length xs < level_count q → 0 < length (text_of_blocks more)

continued_from : (q : Request) (xs zs : List LevelEntry) → length xs < level_count q → length (xs ++ zs) ≡ level_count q → IsContinued q xs (xs ++ zs)
continued_from q [] [] some all = absurd (omega arith)
continued_from q [] (z ∷ zs) some all = record {
  more = listing_blocks q (z ∷ zs);
  split = ap (λ (bs : List Block). bs ++ listing_blocks q (z ∷ zs)) (sym (blocks_of_some q [] some));
  some = λ l. subst (λ (bs : List Block). 0 < length (text_of_blocks bs)) (sym (blocks_of_all q z zs all)) (ends (level_blocks q (z ∷ zs)));
}
continued_from q (x ∷ xs) zs some all = record {
  more = map (level_pieces q.print) zs ++ (end_text ∷ []) ∷ [];
  split = blocks_of_all q x (xs ++ zs) all
      ∙ ap (λ (bs : List Block). bs ++ (end_text ∷ []) ∷ []) (more_levels q x xs zs)
      ∙ append_assoc (level_blocks q (x ∷ xs)) (map (level_pieces q.print) zs) ((end_text ∷ []) ∷ [])
      ∙ ap (λ (bs : List Block). bs ++ (map (level_pieces q.print) zs ++ (end_text ∷ []) ∷ [])) (sym (blocks_of_some q (x ∷ xs) some));
  some = λ l. ends (map (level_pieces q.print) zs);
}

whole : (q : Request) (xs zs : List LevelEntry) → length xs ≡ level_count q → length (xs ++ zs) ≡ level_count q → IsContinued q xs (xs ++ zs)
whole q xs [] all same = record {
  more = [];
  split = ap (listing_blocks q) (append-nil xs) ∙ sym (append-nil (listing_blocks q xs));
  some = λ l. absurd (omega arith);
}
whole q xs (z ∷ zs) all same = absurd (omega (arith, length-append xs (z ∷ zs)))

continued : (q : Request) (xs ys : List LevelEntry) → AreFirstLevels q xs → AreLevels q ys → IsContinued q xs ys
continued q xs ys a b =
    let (zs, split) = first_of_levels q xs ys a b in
    let all : length (xs ++ zs) ≡ level_count q = ap length (sym split) ∙ b.are_all in
    subst (λ (ls : List LevelEntry). IsContinued q xs ls) (sym split) (elim (cases_eq (length xs) (level_count q)) [
      | inl same ↦ whole q xs zs same all
      | inr other ↦ continued_from q xs zs (let most : length xs ≤ level_count q = a.at_most in omega arith) all
    ])

-- a listing that is cut off is a proper front of the listing
pub cut_is_front : (q : Request) (text written : List ℕ) (n : ℕ) → IsListing q text → IsListingCutOff q n written → IsProperFront written text
cut_is_front q text written n listing cut = record {
  rest = at.rest ++ text_of_blocks (at.after ++ on.more);
  split = listing.is ∙ ap text_of_blocks (on.split ∙ ap (λ (bs : List Block). bs ++ on.more) at.split ∙ append_assoc at.before (at.block ∷ at.after) on.more)
      ∙ text-append at.before (at.block ∷ (at.after ++ on.more))
      ∙ ap (λ (t : List ℕ). text_of_blocks at.before ++ (t ++ text_of_blocks (at.after ++ on.more))) at.cut
      ∙ ap (λ (t : List ℕ). text_of_blocks at.before ++ t) (append_assoc at.part at.rest (text_of_blocks (at.after ++ on.more)))
      ∙ sym (append_assoc (text_of_blocks at.before) at.part (at.rest ++ text_of_blocks (at.after ++ on.more)))
      ∙ ap (λ (t : List ℕ). t ++ (at.rest ++ text_of_blocks (at.after ++ on.more))) (sym at.is);
  proper = omega (arith, at.proper, length-append at.rest (text_of_blocks (at.after ++ on.more)));
}
  where
    at : IsCutOff (listing_blocks q cut.levels) n written
    at = cut.cut

    on : IsContinued q cut.levels listing.levels
    on = continued q cut.levels listing.levels cut.are listing.are

-- a listing up to some of its levels is a proper front of the listing
pub up_to_is_front : (q : Request) (text written : List ℕ) (n : ℕ) → IsListing q text → IsListingUpTo q n written → IsProperFront written text
up_to_is_front q text written n listing part =
    let on = continued q part.levels listing.levels part.are listing.are in
    record {
      rest = text_of_blocks on.more;
      split = listing.is ∙ ap text_of_blocks on.split ∙ text-append (listing_blocks q part.levels) on.more
          ∙ ap (λ (t : List ℕ). t ++ text_of_blocks on.more) (sym part.is);
      proper = on.some (omega (arith, part.count, part.not_all));
    }
