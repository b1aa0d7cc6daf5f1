-- From each text growth can start, or the text has a fault.
use mathlib.Core.Bool.{true≢false}
use Rattle.std.proofs.Common.{◌≡◌, ◌∙◌, ◌⊎◌, inl, inr, ℕ, ◌+◌, ◌-◌, ◌<◌, ◌≤◌, List, [], ◌∷◌, ◌++◌, length, take, drop, refl, sym, ap, subst, arith, append_assoc, length-append, false, Option, None, Some}
use Rattle.std.specs.List.{concat}
use Rattle.std.specs.Str.{bytes_eq}
use Rattle.std.proofs.lemmas.Bool.{cases_lt, cases_eq, cases_Bool}
use Rattle.std.proofs.lemmas.List.{append-nil, append_cancel_left}
use Rattle.std.proofs.lemmas.Slice.Eq.{bytes_eq-Decides}
use Rattle.matrix_lemmas.proofs.Bases.{search_below}
use Rattle.formats.specs.declared.refusal.PrintMode.{PrintMode}
use Rattle.formats.specs.declared.refusal.PrintMode.TheVariants.{Forms, Counts}
use Rattle.formats.specs.Statement.{MinorName}
use Rattle.formats.specs.Request.{Request}
use Rattle.formats.specs.Listing.{LevelEntry, level_count, level_pieces, head_text, end_text}
use Rattle.formats.specs.Levels.{IsLevelEntry, AreFirstLevels}
use Rattle.formats.proofs.Fronts.{no_levels, one_more_level}
use Rattle.formats.proofs.OneListing.{first_of_levels}
use Rattle.formats.proofs.Unique.{not_both}
use Rattle.existence.specs.Decided.{IsDecided}
use Rattle.existence.proofs.Deciding.{along, both, equal_bools}
use Rattle.resume_formats.specs.declared.fault.LevelFault.TheVariants.{TooLong, Head, Differs, NoLevel, Less}
use Rattle.resume_formats.specs.Fronts.{BeginsWith, IsCommonFront, PartHere, line_ends}
use Rattle.resume_formats.specs.Cut.{ListsAllForms, BeginsWithHead, IsCutListing, CanStart, text_of_levels, most_listing}
use Rattle.resume_formats.specs.Heads.{IsHeadOf}
use Rattle.resume_formats.specs.Fault.{HasFault}
use Rattle.resume_formats.specs.Resumed.{with_size}
use Rattle.resume_formats.proofs.FaultLemmas.{fault_for}
use Rattle.resume_formats.proofs.FrontLemmas.{parted_common, parted_no_front}
use Rattle.resume_formats.proofs.WholeHeads.{lines_stand, request_is, begins_there, ends_there, ends_within}
use Rattle.resume_formats.proofs.LevelTexts.{texts, text_of_levels-append, listing_text, fewer_levels}
use Rattle.resume_formats.proofs.WholeSizes.{NoMoreFits, longer_front, whole_there, whole_only}
use Rattle.request_laws.specs.Starts.{IsSomeStart, HasSomeFault, IsSomeStartFor, HasSomeFaultFor}
use Rattle.request_laws.proofs.Listings.{listing_exists}
use Rattle.request_laws.proofs.Texts.{answered}

-- ---- two texts

same_or_not : (a b : List ℕ) → IsDecided (a ≡ b)
same_or_not a b = elim (cases_Bool (bytes_eq a b)) [
  | inl same ↦ inl ((bytes_eq-Decides a b).0 same)
  | inr other ↦ inr (λ e. true≢false (sym ((bytes_eq-Decides a b).1 e) ∙ other))
]

-- the texts have a front in common, behind which they part
record Parted (a b : List ℕ) : Type 0 where
  common : List ℕ
  mine : List ℕ
  others : List ℕ
  is : a ≡ common ++ mine
  other_is : b ≡ common ++ others
  parts : PartHere mine others

begins_or_parts : (a b : List ℕ) → BeginsWith b a ⊎ Parted a b
begins_or_parts [] b = inl (b, refl)
begins_or_parts (x ∷ a) [] = inr (record { common = []; mine = x ∷ a; others = []; is = refl; other_is = refl; parts = tt })
begins_or_parts (x ∷ a) (y ∷ b) = elim (cases_eq x y) [
  | inl same ↦ elim (begins_or_parts a b) [
    | inl rest ↦ inl (rest.0, λ i. sym same i ∷ rest.1 i)
    | inr p ↦ inr (record {
      common = x ∷ p.common;
      mine = p.mine;
      others = p.others;
      is = ap (λ (l : List ℕ). x ∷ l) p.is;
      other_is = λ i. sym same i ∷ p.other_is i;
      parts = p.parts;
    })
  ]
  | inr not ↦ inr (record { common = []; mine = x ∷ a; others = y ∷ b; is = refl; other_is = refl; parts = not })
]

-- ---- a head

forms_or_not : (print : PrintMode) → IsDecided (print ≡ Forms)
forms_or_not Forms = inl refl
forms_or_not Counts = inr (λ e. cc (e))

none_or_not : (has : Option MinorName) → IsDecided (has ≡ None)
none_or_not None = inl refl
none_or_not (Some m) = inr (λ e. cc (e))

all_forms_or_not : (q : Request) → IsDecided (ListsAllForms q)
all_forms_or_not q =
    along
    (both (equal_bools q.connected false) (λ _. both (equal_bools q.three_connected false)
    (λ _. both (equal_bools q.cosimple false) (λ _. both (equal_bools q.distinct false)
    (λ _. both (none_or_not q.has) (λ _. forms_or_not q.print))))))
    (λ w. record {
      connected = w.0;
      three_connected = w.1.0;
      cosimple = w.1.1.0;
      distinct = w.1.1.1.0;
      has = w.1.1.1.1.0;
      print = w.1.1.1.1.1;
    })
    (λ all. (all.connected, (all.three_connected, (all.cosimple, (all.distinct, (all.has, all.print))))))

-- bytes are the head of a request, or of none
head_or_not : (head : List ℕ) → IsDecided ((q : Request) × IsHeadOf q head)
head_or_not head = elim (answered (drop 16 head)) [
  | inl asked ↦ (
      let q = asked.0 in
      let is = λ (r : Request) (h : IsHeadOf r head). request_is r q head h asked.1 in
      along
      (both (all_forms_or_not q) (λ _. same_or_not head (head_text q)))
      (λ w. (q, record { asking = drop 16 head; stands = asked.1; all_forms = w.0; is = w.1 }))
      (λ found. let same = is found.0 found.1 in
      (subst ListsAllForms (sym same) found.1.all_forms, found.1.is ∙ ap head_text (sym same))))
  | inr refused ↦ inr (λ found. not_both (drop 16 head) found.0 refused.0 (lines_stand found.0 head found.1) refused.1)
]

-- a text begins with the head of a request, or of none
begins_or_not : (text : List ℕ) → ((q : Request) × BeginsWithHead q text) ⊎ ((q : Request) → ¬ (BeginsWithHead q text))
begins_or_not text =
    elim (search_below (length text + 1) (λ k. (q : Request) × IsHeadOf q (take k text)) (λ k. ¬ ((q : Request) × IsHeadOf q (take k text)))
    (λ k _. head_or_not (take k text))) [
      | inl at ↦ inl (at.2.0, begins_there at.2.0 text at.0 at.2.1)
      | inr none ↦ inr (λ q b.
          let within : length (head_text q) < length text + 1 = (let l = ends_within q text b in omega arith) in
          none (length (head_text q)) within (q, ends_there q text b))
    ]

-- ---- the levels that are whole

module _ (q : Request) (text : List ℕ) (cut : IsCutListing q text) where
  abbrev all_levels : List LevelEntry
  all_levels = cut.is_listing.levels

  some_level : 0 < level_count q
  some_level = let s = cut.head.stands.limits.size in omega arith

  -- these levels are whole, and nothing further is
  record WholeLevels : Type 0 where
    levels : List LevelEntry
    are : AreFirstLevels q levels
    rest : List ℕ
    split : text ≡ text_of_levels q levels ++ rest
    fits : NoMoreFits q levels rest

  module _ (levels : List LevelEntry) (rest : List ℕ) (are : AreFirstLevels q levels) (split : text ≡ text_of_levels q levels ++ rest) where
    -- all levels were whole
    all_whole : all_levels ≡ levels ++ [] → WholeLevels
    all_whole is = record {
      levels = levels;
      are = are;
      rest = rest;
      split = split;
      fits = record {
        none = λ y few entry at.
            absurd (omega (arith, ap length is, length-append levels [], cut.is_listing.are.are_all));
      };
    }

    module _ (x : LevelEntry) (more : List LevelEntry) (is : all_levels ≡ levels ++ x ∷ more) where
      -- another entry of the next size is the next level
      next_is : (y : LevelEntry) → length levels < level_count q → IsLevelEntry q y → y.size ≡ q.rank + length levels → y ≡ x
      next_is y few entry at =
          let others = one_more_level q levels y are entry at few in
          let (zs, found) = first_of_levels q (levels ++ y ∷ []) all_levels others cut.is_listing.are in
          let same : y ∷ zs ≡ x ∷ more = append_cancel_left levels (y ∷ zs) (x ∷ more) (sym (append_assoc levels (y ∷ []) zs) ∙ sym found ∙ is) in
          cc (same)

      -- where what is left is shorter than the next level, no more are whole
      none_further : length rest < length (concat (level_pieces q.print x)) → WholeLevels
      none_further short = record {
        levels = levels;
        are = are;
        rest = rest;
        split = split;
        fits = record {
          none = λ y few entry at.
              subst (λ (z : LevelEntry). length rest < length (concat (level_pieces q.print z))) (sym (next_is y few entry at)) short;
        };
      }

      -- else it begins with the next level
      goes_on : length (concat (level_pieces q.print x)) ≤ length rest → (after : List ℕ) × (rest ≡ concat (level_pieces q.print x) ++ after)
      goes_on long =
          let bytes = concat (level_pieces q.print x) in
          let front = text_of_levels q levels in
          let behind = texts q more ++ end_text in
          let listing : cut.listing ≡ front ++ (bytes ++ behind) =
          cut.is_listing.is ∙ listing_text q all_levels some_level cut.is_listing.are.are_all
          ∙ ap (λ (ls : List LevelEntry). text_of_levels q ls ++ end_text) is
          ∙ ap (λ (t : List ℕ). t ++ end_text) (text_of_levels-append q levels (x ∷ more))
          ∙ append_assoc front (bytes ++ texts q more) end_text
          ∙ ap (λ (t : List ℕ). front ++ t) (append_assoc bytes (texts q more) end_text) in
          let told : cut.listing ≡ front ++ (rest ++ cut.front.0) =
          cut.front.1 ∙ ap (λ (t : List ℕ). t ++ cut.front.0) split ∙ append_assoc front rest cut.front.0 in
          longer_front bytes rest behind cut.front.0
          (append_cancel_left front (bytes ++ behind) (rest ++ cut.front.0) (sym listing ∙ told)) long

      next_are : AreFirstLevels q (levels ++ x ∷ [])
      next_are = fewer_levels q (levels ++ x ∷ []) more
          (subst (AreFirstLevels q) (is ∙ sym (append_assoc levels (x ∷ []) more)) cut.is_listing.are.are_first)

      next_split : (after : List ℕ) → rest ≡ concat (level_pieces q.print x) ++ after → text ≡ text_of_levels q (levels ++ x ∷ []) ++ after
      next_split after on =
          let bytes = concat (level_pieces q.print x) in
          let front = text_of_levels q levels in
          split ∙ ap (λ (t : List ℕ). front ++ t) on
          ∙ sym (append_assoc front bytes after)
          ∙ ap (λ (t : List ℕ). (front ++ t) ++ after) (sym (append-nil bytes))
          ∙ ap (λ (t : List ℕ). t ++ after) (sym (text_of_levels-append q levels (x ∷ [])))

  walked : (more levels : List LevelEntry) (rest : List ℕ) → AreFirstLevels q levels → text ≡ text_of_levels q levels ++ rest
      → all_levels ≡ levels ++ more → WholeLevels
  walked [] levels rest are split is = all_whole levels rest are split is
  walked (x ∷ more) levels rest are split is =
      elim (cases_lt (length rest) (length (concat (level_pieces q.print x)))) [
        | inl short ↦ none_further levels rest are split x more is short
        | inr long ↦ (
            let on = goes_on levels rest are split x more is long in
            walked more (levels ++ x ∷ []) on.0 (next_are levels rest are split x more is) (next_split levels rest are split x more is on.0 on.1)
            (is ∙ sym (append_assoc levels (x ∷ []) more)))
      ]

  whole_levels : WholeLevels
  whole_levels = walked all_levels [] cut.head.head.0 (no_levels q)
      (cut.head.head.1 ∙ ap (λ (t : List ℕ). t ++ cut.head.head.0) (sym (append-nil (head_text q)))) refl

  -- so a cut listing is a start, or no size is whole in it
  cut_start : length text ≤ most_listing → ((n : ℕ) × CanStart text q n) ⊎ HasFault text NoLevel
  cut_start short =
      let w = whole_levels in
      let below = whole_only q text w.levels w.rest w.are w.split cut.listing cut.is_listing w.fits in
      elim (cases_lt 0 (length w.levels)) [
        | inl some ↦ inl (
          q.rank + length w.levels - 1,
          record {
            short = short;
            cut = cut;
            last = record {
              whole = whole_there q text w.levels w.rest w.are w.split (q.rank + length w.levels - 1) (omega arith) (omega arith);
              greatest = λ m is. let b = below m is in omega arith;
            };
          },
        )
        | inr none ↦ inr (
          short,
          record {
            request = q;
            cut = cut;
            none = λ n is. let b = below n is in let low = is.at_least in absurd (omega arith);
          },
        )
      ]

-- ---- a text

-- what begins with a head
headed : (text : List ℕ) → length text ≤ most_listing → (q : Request) → BeginsWithHead q text → IsSomeStart text ⊎ HasSomeFault text
headed text short q head =
    let listing = listing_exists head.asking q head.stands in
    elim (begins_or_parts text listing.0) [
      | inl front ↦ elim (cut_start q text (record { head = head; listing = listing.0; is_listing = listing.1; front = front }) short) [
        | inl start ↦ inl (q, start.0, start.1)
        | inr fault ↦ inr (NoLevel, fault)
      ]
      | inr p ↦ inr (
        Differs (line_ends p.common + 1),
        (
          short,
          record {
            request = q;
            head = head;
            listing = listing.0;
            is_listing = listing.1;
            parts = λ b. parted_no_front p.common p.mine p.others p.parts
                (subst (λ (t : List ℕ). BeginsWith t (p.common ++ p.mine)) p.other_is (subst (BeginsWith listing.0) p.is b));
            common = p.common;
            is_common = subst (λ (t : List ℕ). IsCommonFront t listing.0 p.common) (sym p.is)
                (subst (λ (t : List ℕ). IsCommonFront (p.common ++ p.mine) t p.common) (sym p.other_is) (parted_common p.common p.mine p.others p.parts));
            line_is = refl;
          },
        ),
      )
    ]

pub start_or_fault : (text : List ℕ) → IsSomeStart text ⊎ HasSomeFault text
start_or_fault text = elim (cases_lt most_listing (length text)) [
  | inl long ↦ inr (TooLong, long)
  | inr short ↦ elim (begins_or_not text) [
    | inl head ↦ headed text short head.0 head.1
    | inr none ↦ inr (Head, (short, none))
  ]
]

-- ---- a wanted size

pub start_or_fault_for : (wanted : ℕ) (text : List ℕ) → IsSomeStartFor wanted text ⊎ HasSomeFaultFor wanted text
start_or_fault_for wanted text = elim (start_or_fault text) [
  | inl start ↦ elim (cases_lt wanted start.1) [
    | inl less ↦ inr (Less start.1, (start.0, start.2, less))
    | inr enough ↦ inl (
      with_size start.0 wanted,
      record { start = start.0; last = start.1; can_start = start.2; enough = enough; asked = refl },
    )
  ]
  | inr fault ↦ inr (fault.0, fault_for wanted text fault.0 fault.1)
]
