-- The levels of a text that were read so far, and what is then known of the text.
use Rattle.std.proofs.Common.{◌≡◌, ◌∙◌, ℕ, ◌+◌, ◌<◌, List, [], ◌∷◌, ◌++◌, length, drop, refl, sym, ap, subst, arith, append_assoc, length-append}
use Rattle.std.specs.List.{concat}
use Rattle.std.proofs.lemmas.List.{append-nil, append_cancel_left, drop_at, nil_from_length}
use Rattle.formats.specs.Request.{Request}
use Rattle.formats.specs.Listing.{LevelEntry, level_count, level_pieces, head_text, end_text}
use Rattle.formats.specs.Levels.{IsLevelEntry, AreFirstLevels, IsListing, IsProperFront}
use Rattle.formats.proofs.OneListing.{first_of_levels}
use Rattle.request_laws.proofs.Listings.{listing_exists}
use Rattle.level_driver.specs.declared.level.Level.{Level}
use Rattle.resume_formats.specs.Fronts.{BeginsWith, IsCommonFront}
use Rattle.resume_formats.specs.Cut.{BeginsWithHead, text_of_levels}
use Rattle.resume_formats.proofs.FrontLemmas.{parted_common, parted_no_front}
use Rattle.resume_formats.proofs.LevelTexts.{texts, text_of_levels-append, IsBehind, behind_levels, behind_all}
use Rattle.resume_formats.proofs.WholeSizes.{level_has_bytes, NoMoreFits, whole_there, whole_only}
use Rattle.level_file.specs.Compared.{PartsWith}
use Rattle.level_driver.specs.Grown.{IsGrown, AreGrown}
use Rattle.level_file.specs.Grown.{level_bytes}
use Rattle.level_file.specs.Started.{AreWholeLevels, PartsFromListing}
use Rattle.level_file.proofs.GrownLevels.{entry_of, entry_bytes, grown_entry}
use Rattle.formats.proofs.Fronts.{no_levels, one_more_level}

pub grown_more : (q : Request) (n : ℕ) (levels : List Level) (level : Level) → AreGrown q n levels → IsGrown q (n + length levels) level
    → AreGrown q n (levels ++ level ∷ [])
grown_more q n [] level all grown = (subst (λ (k : ℕ). IsGrown q k level) (let e : n + 0 ≡ n = omega arith in e) grown, tt)
grown_more q n (x ∷ levels) level all grown = (
  all.0,
  grown_more q (n + 1) levels level all.1
      (subst (λ (k : ℕ). IsGrown q k level) (let e : n + length (x ∷ levels) ≡ n + 1 + length levels = omega arith in e) grown),
)

-- these levels were read, and this is left behind them
pub record HaveRead (q : Request) (text : List ℕ) (levels : List Level) (rest : List ℕ) : Type 0 where
  pub entries : List LevelEntry
  pub are : AreFirstLevels q entries
  pub number : length entries ≡ length levels
  pub split : text ≡ text_of_levels q entries ++ rest
  pub grown : AreGrown q q.rank levels

-- behind the head none was read yet
pub none_read : (q : Request) (text : List ℕ) (n : ℕ) → BeginsWithHead q text → n ≡ length (head_text q) → HaveRead q text [] (drop n text)
none_read q text n begins at = record {
  entries = [];
  are = no_levels q;
  number = refl;
  split = begins.head.1
      ∙ ap (λ (t : List ℕ). head_text q ++ t) (sym (ap (drop n) begins.head.1 ∙ drop_at (head_text q) begins.head.0 n (sym at)))
      ∙ ap (λ (t : List ℕ). t ++ drop n text) (sym (append-nil (head_text q)));
  grown = tt;
}

module _ (q : Request) (text : List ℕ) (begins : BeginsWithHead q text) (some : 0 < level_count q) (levels : List Level)
    (rest : List ℕ) (read : HaveRead q text levels rest) where
  listing : (listing : List ℕ) × IsListing q listing
  listing = listing_exists begins.asking q begins.stands

  -- what follows in the listing
  behind : (behind : List ℕ) × IsBehind q read.entries listing.0 behind
  behind = behind_levels q read.entries listing.0 some read.are listing.1

  -- where the listing goes on as the text does, the text is cut there
  cut_there : BeginsWith behind.0 rest → NoMoreFits q read.entries rest → AreWholeLevels q text levels
  cut_there goes_on fits =
      let front = text_of_levels q read.entries in
      record {
        cut = record {
          head = begins;
          listing = listing.0;
          is_listing = listing.1;
          front = (
            goes_on.0,
            behind.1.split ∙ ap (λ (t : List ℕ). front ++ t) goes_on.1 ∙ sym (append_assoc front rest goes_on.0)
                ∙ ap (λ (t : List ℕ). t ++ goes_on.0) (sym read.split),
          );
        };
        grown = read.grown;
        whole = λ n. (
          λ w. (
            w.at_least,
            (let below = whole_only q text read.entries rest read.are read.split listing.0 listing.1 fits n w in
                omega (arith, below, read.number)),
          ),
          λ both. whole_there q text read.entries rest read.are read.split n both.0 (omega (arith, both.1, read.number)),
        );
      }

  -- where it goes on otherwise, they part
  part_there : (left : ℕ) → PartsWith left rest behind.0 → PartsFromListing q text left
  part_there left p =
      let front = text_of_levels q read.entries in
      let mine : text ≡ (front ++ p.common) ++ p.mine = read.split ∙ ap (λ (t : List ℕ). front ++ t) p.text_is ∙ sym (append_assoc front p.common p.mine) in
      let others : listing.0 ≡ (front ++ p.common) ++ p.others =
      behind.1.split ∙ ap (λ (t : List ℕ). front ++ t) p.other_is ∙ sym (append_assoc front p.common p.others) in
      record {
        listing = listing.0;
        is_listing = listing.1;
        parts = λ b. parted_no_front (front ++ p.common) p.mine p.others p.parts
            (subst (λ (t : List ℕ). BeginsWith t ((front ++ p.common) ++ p.mine)) others (subst (BeginsWith listing.0) mine b));
        common = front ++ p.common;
        is_common = subst (λ (t : List ℕ). IsCommonFront t listing.0 (front ++ p.common)) (sym mine)
            (subst (λ (t : List ℕ). IsCommonFront ((front ++ p.common) ++ p.mine) t (front ++ p.common)) (sym others)
            (parted_common (front ++ p.common) p.mine p.others p.parts));
        left_is = omega (arith, p.left_is, ap length mine, length-append (front ++ p.common) p.mine);
      }

  -- ---- nothing is left

  pub ends_here : length rest ≡ 0 → AreWholeLevels q text levels
  ends_here none = cut_there (behind.0, ap (λ (t : List ℕ). t ++ behind.0) (sym (nil_from_length rest none)))
      (record { none = λ x few entry at. let bytes = level_has_bytes q x in omega arith })

  -- ---- all levels were read

  pub all_read : length levels ≡ level_count q → BeginsWith end_text rest → AreWholeLevels q text levels
  all_read all ends = cut_there
      (subst (λ (t : List ℕ). BeginsWith t rest) (sym (behind_all q read.entries listing.0 behind.0 behind.1 (read.number ∙ all))) ends)
      (record { none = λ x few entry at. absurd (omega (arith, read.number, all, few)) })

  pub parts_at_all : (left : ℕ) → length levels ≡ level_count q → PartsWith left rest end_text → PartsFromListing q text left
  parts_at_all left all p = part_there left (subst (PartsWith left rest) (sym (behind_all q read.entries listing.0 behind.0 behind.1 (read.number ∙ all))) p)

  -- ---- the next level was grown

  module _ (n : ℕ) (at : n ≡ q.rank + length levels) (room : length levels < level_count q) (level : Level) (grown : IsGrown q n level) where
    entry : IsLevelEntry q (entry_of n level)
    entry = grown_entry q begins.all_forms begins.asking n level begins.stands grown

    more : AreFirstLevels q (read.entries ++ entry_of n level ∷ [])
    more = one_more_level q read.entries (entry_of n level) read.are entry (omega (arith, at, read.number)) (omega (arith, room, read.number))

    bytes_are : concat (level_pieces q.print (entry_of n level)) ≡ level_bytes n level
    bytes_are = entry_bytes q begins.all_forms n level

    texts_are : texts q (entry_of n level ∷ []) ≡ level_bytes n level
    texts_are = append-nil (concat (level_pieces q.print (entry_of n level))) ∙ bytes_are

    -- the listing goes on with its bytes
    goes_on : (later : List ℕ) × (behind.0 ≡ level_bytes n level ++ later)
    goes_on =
        let later = behind_levels q (read.entries ++ entry_of n level ∷ []) listing.0 some more listing.1 in
        let front = text_of_levels q read.entries in (
          later.0,
          append_cancel_left front behind.0 (level_bytes n level ++ later.0)
              (sym behind.1.split ∙ later.1.split
              ∙ ap (λ (t : List ℕ). t ++ later.0) (text_of_levels-append q read.entries (entry_of n level ∷ []))
              ∙ ap (λ (t : List ℕ). (front ++ t) ++ later.0) texts_are
              ∙ append_assoc front (level_bytes n level) later.0),
        )

    pub next_read : (after : List ℕ) → rest ≡ level_bytes n level ++ after → HaveRead q text (levels ++ level ∷ []) after
    next_read after is =
        let front = text_of_levels q read.entries in
        record {
          entries = read.entries ++ entry_of n level ∷ [];
          are = more;
          number = omega (arith, read.number, length-append read.entries (entry_of n level ∷ []), length-append levels (level ∷ []));
          split = read.split ∙ ap (λ (t : List ℕ). front ++ t) is
              ∙ sym (append_assoc front (level_bytes n level) after)
              ∙ ap (λ (t : List ℕ). (front ++ t) ++ after) (sym texts_are)
              ∙ ap (λ (t : List ℕ). t ++ after) (sym (text_of_levels-append q read.entries (entry_of n level ∷ [])));
          grown = grown_more q q.rank levels level read.grown (subst (λ (k : ℕ). IsGrown q k level) at grown);
        }

    pub next_parts : (left : ℕ) → ((later : List ℕ) → PartsWith left rest (level_bytes n level ++ later)) → PartsFromListing q text left
    next_parts left p = part_there left (subst (PartsWith left rest) (sym goes_on.1) (p goes_on.0))

    -- another entry of that size is the same
    entry_is : (x : LevelEntry) → IsLevelEntry q x → x.size ≡ q.rank + length read.entries → x ≡ entry_of n level
    entry_is x other size =
        let others = one_more_level q read.entries x read.are other size (omega (arith, room, read.number)) in
        let (zs, mine) = first_of_levels q (read.entries ++ entry_of n level ∷ []) listing.1.levels more listing.1.are in
        let (ws, theirs) = first_of_levels q (read.entries ++ x ∷ []) listing.1.levels others listing.1.are in
        let same : x ∷ ws ≡ entry_of n level ∷ zs =
        append_cancel_left read.entries (x ∷ ws) (entry_of n level ∷ zs)
        (sym (append_assoc read.entries (x ∷ []) ws) ∙ sym theirs ∙ mine ∙ append_assoc read.entries (entry_of n level ∷ []) zs) in
        cc (same)

    pub next_ends : IsProperFront rest (level_bytes n level) → AreWholeLevels q text levels
    next_ends front = cut_there (
      front.rest ++ goes_on.0,
      goes_on.1 ∙ ap (λ (t : List ℕ). t ++ goes_on.0) front.split ∙ append_assoc rest front.rest goes_on.0,
    ) (record {
      none = λ x few other size.
          let same = entry_is x other size in
          let long : length (concat (level_pieces q.print x)) ≡ length (level_bytes n level) =
          ap (λ (e : LevelEntry). length (concat (level_pieces q.print e))) same ∙ ap length bytes_are in
          omega (arith, front.proper, ap length front.split, length-append rest front.rest);
    })
