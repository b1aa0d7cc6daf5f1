-- The levels of a listing that were written so far, and what is then written of it.
use Rattle.std.proofs.Common.{◌≡◌, ◌∙◌, ℕ, ◌+◌, ◌-◌, ◌<◌, ◌≤◌, List, [], ◌∷◌, ◌++◌, length, Option, refl, sym, ap, subst, arith, append_assoc, length-append}
use Rattle.std.specs.List.{concat}
use Rattle.std.proofs.lemmas.List.{append-nil, append_cancel_right, length-map}
use Rattle.std.specs.Io.KnownBytes.{Appends}
use Rattle.outside.specs.Bytes.{AppendsFront}
use Rattle.outside.proofs.Known.{appends_none, appends_more}
use Rattle.formats.specs.Request.{Request}
use Rattle.formats.specs.Listing.{LevelEntry, level_count, level_pieces, head_text, end_text, listing_blocks, text_of_blocks, end_blocks}
use Rattle.formats.specs.Levels.{AreFirstLevels, AreLevels, IsListing, IsListingUpTo, IsListingCutOff}
use Rattle.formats.specs.Run.{Gains}
use Rattle.formats.proofs.Fronts.{level_blocks, text-append, more_levels, blocks_of_some, blocks_of_all, no_levels, one_more_level}
use Rattle.macek_run.specs.declared.write.Stop.{Stop}
use Rattle.macek_run.specs.declared.write.Stop.TheVariants.{Failed, NoMemory}
use Rattle.macek_run.specs.Steps.{TellsLevel, IsLess}

-- there is a block for each level
count_blocks : (q : Request) (levels : List LevelEntry) → length levels ≡ length (level_blocks q levels)
count_blocks q [] = refl
count_blocks q (x ∷ levels) = omega (arith, length-map levels (level_pieces q.print))

-- with all levels there is the end line
with_end : (q : Request) (levels : List LevelEntry) → 0 < length levels → length levels ≡ level_count q →
    listing_blocks q levels ≡ level_blocks q levels ++ (end_text ∷ []) ∷ []
with_end q [] some all = absurd (omega arith)
with_end q (x ∷ levels) some all = blocks_of_all q x levels all

text_with_end : (q : Request) (levels : List LevelEntry) → 0 < length levels → length levels ≡ level_count q →
    text_of_blocks (listing_blocks q levels) ≡ text_of_blocks (level_blocks q levels) ++ end_text
text_with_end q levels some all =
    ap text_of_blocks (with_end q levels some all)
    ∙ text-append (level_blocks q levels) ((end_text ∷ []) ∷ [])
    ∙ ap (λ (t : List ℕ). text_of_blocks (level_blocks q levels) ++ t) (append-nil (end_text ++ []) ∙ append-nil end_text)

-- the levels up to this size were written, with the head
pub record HaveBegun (q : Request) (size : ℕ) (old new : Option (List ℕ)) : Type 0 where
  pub levels : List LevelEntry
  pub are : AreFirstLevels q levels
  pub last : size + 1 ≡ q.rank + length levels
  pub gained : Appends old new (text_of_blocks (level_blocks q levels))

told_behind : (q : Request) (n m : ℕ) (front other : List ℕ) (Part : List ℕ → Type 0) → n ≡ m → front ≡ other →
    TellsLevel q n front Part → TellsLevel q m other Part
told_behind q n m front other Part sizes fronts told = subst (λ k. TellsLevel q k other Part) sizes (subst (λ (f : List ℕ). TellsLevel q n f Part) fronts told)

module _ (q : Request) (old new : Option (List ℕ)) (room : 0 < level_count q) where
  -- want of memory before the first level
  pub none_begun : Gains old old (IsListingUpTo q 0)
  none_begun = record {
    written = [];
    gained = appends_none old;
    part = record { levels = []; are = no_levels q; count = refl; not_all = room; is = ap text_of_blocks (sym (blocks_of_some q [] room)) };
  }

  first_levels : (Part : List ℕ → Type 0) (told : TellsLevel q q.rank (head_text q) Part) → AreFirstLevels q (told.entry ∷ [])
  first_levels Part told = one_more_level q [] told.entry (no_levels q) told.is_entry (told.at ∙ (let e : q.rank ≡ q.rank + 0 = omega arith in e)) room

  first_cut : TellsLevel q q.rank (head_text q) (AppendsFront old new) → Gains old new (IsListingCutOff q 0)
  first_cut told = record {
    written = told.part.front;
    gained = told.part.added;
    part = record {
      levels = told.entry ∷ [];
      are = first_levels (AppendsFront old new) told;
      cut = record {
        before = [];
        block = head_text q ∷ level_pieces q.print told.entry;
        after = end_blocks _;
        split = refl;
        count = refl;
        part = told.part.front;
        rest = told.part.rest;
        cut = told.part.split;
        proper = told.part.proper;
        is = refl;
      };
    };
  }

  module _ (size : ℕ) (at : size ≡ q.rank) (front : List ℕ) (is : front ≡ head_text q) where
    -- the first level was written, behind the head
    pub first_begun : TellsLevel q size front (Appends old new) → HaveBegun q size old new
    first_begun before =
        let told = told_behind q size q.rank front (head_text q) (Appends old new) at is before in
        record {
          levels = told.entry ∷ [];
          are = first_levels (Appends old new) told;
          last = omega arith;
          gained = subst (λ (t : List ℕ). Appends old new t) (sym (append-nil (concat (head_text q ∷ level_pieces q.print told.entry)))) told.part;
        }

    -- it was not written whole
    pub first_stopped : (why : Stop) → (why ≡ Failed → TellsLevel q size front (AppendsFront old new)) →
        (why ≡ NoMemory → new ≡ old) → Gains old new (IsLess why q 0)
    first_stopped Failed failed no_memory = first_cut (told_behind q size q.rank front (head_text q) (AppendsFront old new) at is (failed refl))
    first_stopped NoMemory failed no_memory = subst (λ (o : Option (List ℕ)). Gains old o (IsListingUpTo q 0)) (sym (no_memory refl)) none_begun

module _ (q : Request) (size : ℕ) (old mid : Option (List ℕ)) (begun : HaveBegun q size old mid) where
  module _ (low : q.rank ≤ size) where
    some_levels : 0 < length begun.levels
    some_levels = omega (arith, begun.last)

    module _ (high : size < q.size) where
      -- want of memory for the next level
      pub stopped : Gains old mid (IsListingUpTo q (size + 1 - q.rank))
      stopped = record {
        written = text_of_blocks (level_blocks q begun.levels);
        gained = begun.gained;
        part = record {
          levels = begun.levels;
          are = begun.are;
          count = omega (arith, begun.last);
          not_all = omega arith;
          is = ap text_of_blocks (sym (blocks_of_some q begun.levels (omega (arith, begun.last))));
        };
      }

      next_levels : (Part : List ℕ → Type 0) (told : TellsLevel q (size + 1) [] Part) → AreFirstLevels q (begun.levels ++ told.entry ∷ [])
      next_levels Part told = one_more_level q begun.levels told.entry begun.are told.is_entry (told.at ∙ begun.last) (omega (arith, begun.last))

      next_blocks : (levels : List LevelEntry) (next : LevelEntry) → 0 < length levels →
          level_blocks q (levels ++ next ∷ []) ≡ level_blocks q levels ++ level_pieces q.print next ∷ []
      next_blocks [] next l = absurd (omega arith)
      next_blocks (x ∷ levels) next l = more_levels q x levels (next ∷ [])

      blocks_behind : (levels : List LevelEntry) → 0 < length levels → (after : List (List (List ℕ)))
          × (listing_blocks q levels ≡ level_blocks q levels ++ after)
      blocks_behind [] l = absurd (omega arith)
      blocks_behind (x ∷ levels) l = (end_blocks _, refl)

      -- the next level was written
      pub next_begun : (new : Option (List ℕ)) → TellsLevel q (size + 1) [] (Appends mid new) → HaveBegun q (size + 1) old new
      next_begun new told = record {
        levels = begun.levels ++ told.entry ∷ [];
        are = next_levels (Appends mid new) told;
        last = omega (arith, begun.last, length-append begun.levels (told.entry ∷ []));
        gained = subst (λ (t : List ℕ). Appends old new t) (
            sym (ap text_of_blocks (next_blocks begun.levels told.entry some_levels)
            ∙ text-append (level_blocks q begun.levels) (level_pieces q.print told.entry ∷ [])
            ∙ ap (λ (t : List ℕ). text_of_blocks (level_blocks q begun.levels) ++ t)
            (append-nil (concat (level_pieces q.print told.entry))))) (appends_more old mid new _ _ begun.gained told.part);
      }

      next_cut : (new : Option (List ℕ)) → TellsLevel q (size + 1) [] (AppendsFront mid new) → Gains old new (IsListingCutOff q (size + 1 - q.rank))
      next_cut new told = record {
        written = text_of_blocks (level_blocks q begun.levels) ++ told.part.front;
        gained = appends_more old mid new _ _ begun.gained told.part.added;
        part = record {
          levels = begun.levels ++ told.entry ∷ [];
          are = next_levels (AppendsFront mid new) told;
          cut = (let behind = blocks_behind (begun.levels ++ told.entry ∷ []) (omega (arith, length-append begun.levels (told.entry ∷ []))) in
              record {
                before = level_blocks q begun.levels;
                block = level_pieces q.print told.entry;
                after = behind.0;
                split = behind.1
                    ∙ ap (λ (bs : List (List (List ℕ))). bs ++ behind.0) (next_blocks begun.levels told.entry some_levels)
                    ∙ append_assoc (level_blocks q begun.levels) (level_pieces q.print told.entry ∷ []) behind.0;
                count = omega (arith, begun.last, count_blocks q begun.levels);
                part = told.part.front;
                rest = told.part.rest;
                cut = told.part.split;
                proper = told.part.proper;
                is = refl;
              });
        };
      }

      -- the next level was not written whole
      pub next_stopped : (new : Option (List ℕ)) (why : Stop) → (why ≡ Failed → TellsLevel q (size + 1) [] (AppendsFront mid new)) →
          (why ≡ NoMemory → new ≡ mid) → Gains old new (IsLess why q (size + 1 - q.rank))
      next_stopped new Failed failed no_memory = next_cut new (failed refl)
      next_stopped new NoMemory failed no_memory =
          subst (λ (o : Option (List ℕ)). Gains old o (IsListingUpTo q (size + 1 - q.rank))) (sym (no_memory refl)) stopped

    -- all levels were written
    pub all_begun : size ≡ q.size → Gains old mid (λ written. IsListing q (written ++ end_text))
    all_begun all =
        let count : length begun.levels ≡ level_count q = omega (arith, begun.last) in
        record {
          written = text_of_blocks (level_blocks q begun.levels);
          gained = begun.gained;
          part = record {
            levels = begun.levels;
            are = record { are_first = begun.are; are_all = count };
            is = sym (text_with_end q begun.levels some_levels count);
          };
        }

module _ (q : Request) (old mid new : Option (List ℕ)) (begun : Gains old mid (λ written. IsListing q (written ++ end_text))) where
  -- the end line was written
  pub all_written : Appends mid new end_text → Gains old new (IsListing q)
  all_written last = record {
    written = begun.written ++ end_text;
    gained = appends_more old mid new begun.written end_text begun.gained last;
    part = begun.part;
  }

  -- a write failed in it
  pub end_cut : 0 < level_count q → AppendsFront mid new end_text → Gains old new (IsListingCutOff q (level_count q))
  end_cut some failed = record {
    written = begun.written ++ failed.front;
    gained = appends_more old mid new begun.written failed.front begun.gained failed.added;
    part = record {
      levels = levels;
      are = are.are_first;
      cut = record {
        before = level_blocks q levels;
        block = end_text ∷ [];
        after = [];
        split = with_end q levels (omega (arith, are.are_all)) are.are_all;
        count = sym are.are_all ∙ count_blocks q levels;
        part = failed.front;
        rest = failed.rest;
        cut = append-nil end_text ∙ failed.split;
        proper = failed.proper;
        is = ap (λ (t : List ℕ). t ++ failed.front)
            (append_cancel_right begun.written (text_of_blocks (level_blocks q levels)) end_text
            (begun.part.is ∙ text_with_end q levels (omega (arith, are.are_all)) are.are_all));
      };
    };
  }
    where
      levels : List LevelEntry
      levels = begun.part.levels

      are : AreLevels q levels
      are = begun.part.are
