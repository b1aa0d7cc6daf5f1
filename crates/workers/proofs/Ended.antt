-- The workers of a new level, and what is known of them when they have ended.
use Rattle.std.proofs.Common.{◌≡◌, ℕ, zero, suc, ◌+◌, ◌*◌, ◌^◌, ◌<◌, ◌≤◌, List, [], ◌∷◌, ◌++◌, map, length, replicate, take, get_or, Option, Some, None, IsSome, slice_index_or, refl, sym, ◌∙◌, ap, subst, arith, length-append}
use Rattle.std.specs.List.{All, AllByRecursion, AllZip, sum_by}
use Rattle.std.proofs.lemmas.List.{length-map, take_more}
use Rattle.std.proofs.lemmas.List.Elements.{All-push, All-from_recursion, recursion_from_All, AllZip-get_or, length_all_zip}
use Rattle.std.proofs.lemmas.List.Folds.{sum_by-replicate}
use Rattle.std.proofs.lemmas.List.Sums.{sum_by-cons, sum_by_more}
use Rattle.list_lemmas.proofs.Lists.{all_push}
use Rattle.matroid_theory.specs.Rep.{Rep}
use Rattle.formats.specs.Request.{Request}
use Rattle.histories.specs.Counts.{entries_with}
use Rattle.class_store.specs.Seen.{AreItsPasses, LevelId, LevelSide, PassSide, Track, blank, calls_with, fresh_passes}
use Rattle.class_store.proofs.Passes.{fresh_are_all, name_of, still_all}
use Rattle.steal_pool.specs.declared.shift.Shift.{Shift}
use Rattle.steal_pool.specs.Shift.{HasEnded, StaysInPool, shift_parents, shift_taken}
use Rattle.steal_pool.specs.Pool.{AllEnded, AreNew, IsPool, IsProper, lists_taken, pool_parents}
use Rattle.steal_pool.proofs.Stays.{pool_stays}
use Rattle.workers.specs.declared.worker.Worker.{Worker}
use Rattle.workers.specs.Seats.{AllWorked, IsSeated, IsWorked}
use Rattle.workers.proofs.Numbers.{found, short}
use Rattle.workers.proofs.Whole.{IsFresh, all_taken, answered, of_answer, taken_by, tried_at_most, tried_by, zipped}

abbrev pub pass_of : Worker → PassSide
pass_of w = w.pass

abbrev pub shift_of : Worker → Shift
shift_of w = w.shift

abbrev pub answer_of : Worker → Option ℕ
answer_of w = w.answer

module _ {X Y : Type 0} (f : X → Y) where
  all_of_map : (P : Y → Type 0) (xs : List X) → AllByRecursion P (map f xs) → AllByRecursion (λ x. P (f x)) xs
  all_of_map P [] all = tt
  all_of_map P (x ∷ xs) all = (all.0, all_of_map P xs all.1)

  pub sum_map : (g : Y → ℕ) (xs : List X) → sum_by g (map f xs) ≡ sum_by (λ x. g (f x)) xs
  sum_map g [] = refl
  sum_map g (x ∷ xs) = sum_by-cons g (f x) (map f xs) ∙ (ap (λ n. g (f x) + n) (sum_map g xs) ∙ sym (sum_by-cons (λ x. g (f x)) x xs))

pub lists_are : (ws : List Worker) → lists_taken (map shift_of ws) ≡ map taken_by ws
lists_are [] = refl
lists_are (w ∷ ws) = ap (λ (l : List (List ℕ)). taken_by w ∷ l) (lists_are ws)

-- ---- before
no_calls : (level : LevelId) (n : ℕ) → AllByRecursion (λ (p : PassSide). (key : List ℕ) → calls_with key p ≡ 0) (fresh_passes level n)
no_calls level zero = tt
no_calls level (suc n) =
    let last : PassSide = record { level = level; number = n; tracks = replicate (length level.tables) blank } in
    all_push (λ (p : PassSide). (key : List ℕ) → calls_with key p ≡ 0) (fresh_passes level n) last (no_calls level n)
    (λ key. let none : calls_with key last ≡ length level.tables * 0 = sum_by-replicate (λ (t : Track). entries_with key t.mine)
    (length level.tables) blank in omega arith)

module _ (level : LevelSide) (parents : ℕ) (before : List Worker) (shifts : List Shift) (new : AreNew level.passes parents shifts)
    (passes_are : map pass_of before ≡ fresh_passes level.level level.passes) (shifts_are : map shift_of before ≡ shifts) where
  pub their_passes : AreItsPasses level (map pass_of before)
  their_passes = subst (AreItsPasses level) (sym passes_are) (fresh_are_all level)

  with_shift : (P : Shift → Type 0) → ((i : ℕ) (d : Shift) → i < length shifts → P (slice_index_or shifts i d)) → AllByRecursion (λ w. P (shift_of w)) before
  with_shift P each = all_of_map shift_of P before (subst (AllByRecursion P) (sym shifts_are) (recursion_from_All P shifts (λ i d l. each i d l)))

  seated_by : (ws : List Worker) → AllByRecursion (λ w. (pass_of w).level ≡ level.level) ws → AllByRecursion (λ w. shift_parents (shift_of w) ≡ parents) ws
      → AllByRecursion (IsSeated level.level parents) ws
  seated_by [] a b = tt
  seated_by (w ∷ ws) a b = (record { pass = a.0; shift = b.0 }, seated_by ws a.1 b.1)

  pub all_seated : All (λ w. IsSeated level.level parents w) before
  all_seated = All-from_recursion (IsSeated level.level parents) before
      (seated_by before (all_of_map pass_of (λ p. p.level ≡ level.level) before (let its = their_passes in its.each))
      (with_shift (λ s. shift_parents s ≡ parents) (λ i d l. let s = new i d l in s.parents_of)))

  fresh_by : (ws : List Worker) → AllByRecursion (λ w. (key : List ℕ) → calls_with key (pass_of w) ≡ 0) ws
      → AllByRecursion (λ w. shift_taken (shift_of w) ≡ []) ws
      → AllByRecursion IsFresh ws
  fresh_by [] a b = tt
  fresh_by (w ∷ ws) a b = (record { taken = b.0; calls = a.0 }, fresh_by ws a.1 b.1)

  pub all_fresh : AllByRecursion IsFresh before
  all_fresh =
      fresh_by before (all_of_map pass_of (λ p. (key : List ℕ) → calls_with key p ≡ 0) before
      (subst (AllByRecursion (λ (p : PassSide). (key : List ℕ) → calls_with key p ≡ 0)) (sym passes_are) (no_calls level.level level.passes)))
      (with_shift (λ s. shift_taken s ≡ []) (λ i d l. let s = new i d l in s.none_taken))

-- ---- after
module _ (q : Request) (parents : List Rep) where
  pub worked_zip : (before after : List Worker) → AllWorked q parents before after → AllZip (IsWorked q parents) before after
  worked_zip before after all = zipped (IsWorked q parents) before after all.count all.each

  same_names : (before after : List Worker) → AllZip (IsWorked q parents) before after → map name_of (map pass_of before) ≡ map name_of (map pass_of after)
  same_names [] [] z = refl
  same_names [] (y ∷ ys) z = absurd z
  same_names (x ∷ xs) [] z = absurd z
  same_names (x ∷ xs) (y ∷ ys) z =
      let s = z.0.pass in
      let same : name_of (pass_of x) ≡ name_of (pass_of y) = λ i. (sym s.level i, sym s.number i) in
      λ i. same i ∷ same_names xs ys z.1 i

  pub passes_still : (level : LevelSide) (before after : List Worker) → AllZip (IsWorked q parents) before after → AreItsPasses level (map pass_of before)
      → AreItsPasses level (map pass_of after)
  passes_still level before after z = still_all level (map pass_of before) (map pass_of after) (same_names before after z)

  stay : (before after : List Worker) → AllZip (IsWorked q parents) before after → AllZip StaysInPool (map shift_of before) (map shift_of after)
  stay [] [] z = tt
  stay [] (y ∷ ys) z = absurd z
  stay (x ∷ xs) [] z = absurd z
  stay (x ∷ xs) (y ∷ ys) z = (z.0.shift, stay xs ys z.1)

  pub shifts_still : (before after : List Worker) → AllZip (IsWorked q parents) before after → IsPool (map shift_of before) → IsPool (map shift_of after)
  shifts_still before after z pool =
      let s = stay before after z in
      pool_stays (map shift_of before) (map shift_of after) pool record {
        count = sym (length_all_zip StaysInPool (map shift_of before) (map shift_of after) s);
        each = λ i d l. AllZip-get_or StaysInPool (map shift_of before) (map shift_of after) i d d s l;
      }

  pub same_parents : (before after : List Worker) → AllZip (IsWorked q parents) before after
      → pool_parents (map shift_of after) ≡ pool_parents (map shift_of before)
  same_parents [] [] z = refl
  same_parents [] (y ∷ ys) z = absurd z
  same_parents (x ∷ xs) [] z = absurd z
  same_parents (x ∷ xs) (y ∷ ys) z = let s = z.0.shift in s.parents

  ended_by : (before after : List Worker) → AllZip (IsWorked q parents) before after → AllByRecursion (λ w. IsSome w.answer) after
      → AllByRecursion (λ s. HasEnded s) (map shift_of after)
  ended_by [] [] z some = tt
  ended_by [] (y ∷ ys) z some = absurd z
  ended_by (x ∷ xs) [] z some = absurd z
  ended_by (x ∷ xs) (y ∷ ys) z some = ((of_answer _ y.answer some.0 z.0.answered).0, ended_by xs ys z.1 some.1)

  pub all_ended : (before after : List Worker) → AllZip (IsWorked q parents) before after → AllByRecursion (λ w. IsSome w.answer) after
      → AllEnded (map shift_of after)
  all_ended before after z some = All-from_recursion (λ s. HasEnded s) (map shift_of after) (ended_by before after z some)

  -- the answers add up to a number that fits
  pub sum_fits : (before after : List Worker) → AllZip (IsWorked q parents) before after → IsProper (length parents) (all_taken after) → length parents < 2 ^ 64
      → sum_by answered (map answer_of after) < 2 ^ 128
  sum_fits before after z proper few =
      let most = tried_at_most q parents before after z in
      let s = short (length parents) (all_taken after) (λ x c. proper.below x (found x (all_taken after) c)) proper.once in
      let same : sum_by answered (map answer_of after) ≡ sum_by tried_by after = sum_map answer_of answered after in
      omega arith

pub all_answered : (after : List Worker) → All (λ answer. IsSome answer) (map answer_of after) → AllByRecursion (λ w. IsSome w.answer) after
all_answered after all = all_of_map answer_of (λ answer. IsSome answer) after (recursion_from_All (λ answer. IsSome answer) (map answer_of after) all)

-- what is known once all have ended
pub record AreDone (q : Request) (parents : List Rep) (level : LevelSide) (before after : List Worker) : Type 0 where
  pub zip : AllZip (IsWorked q parents) before after
  pub fresh : AllByRecursion IsFresh before
  pub proper : IsProper (length parents) (all_taken after)
  pub passes : AreItsPasses level (map pass_of after)

-- ---- answers
pub answers_more : (answers : List (Option ℕ)) (i n total : ℕ) → i < length answers → get_or answers i None ≡ Some n
    → All (λ answer. IsSome answer) (take i answers) → total ≡ sum_by answered (take i answers)
    → All (λ answer. IsSome answer) (take (i + 1) answers) × (total + n ≡ sum_by answered (take (i + 1) answers))
answers_more answers i n total l is there sum = (
  subst (All (λ answer. IsSome answer)) (sym (take_more answers i None l))
      (All-push (λ answer. IsSome answer) (take i answers) (get_or answers i None) there (subst (λ (answer : Option ℕ). IsSome answer) (sym is) refl)),
  (let m = sum_by_more answered answers i None l in let e : answered (get_or answers i None) ≡ n = ap answered is in omega arith),
)

-- there is room for one more of at most 64
pub room_left : (answers : List (Option ℕ)) (rest more all : List Worker) (w : Worker) → answers ++ map answer_of rest ≡ map answer_of all → rest ≡ w ∷ more
    → length all ≤ 64 → length answers < 64
room_left answers rest more all w e r few =
    let a : length (answers ++ map answer_of rest) ≡ length answers + length (map answer_of rest) = length-append answers (map answer_of rest) in
    let b : length (map answer_of rest) ≡ length rest = length-map rest answer_of in
    let c : length rest ≡ suc (length more) = ap (λ (l : List Worker). length l) r in
    let d : length (answers ++ map answer_of rest) ≡ length (map answer_of all) = ap (λ (l : List (Option ℕ)). length l) e in
    let f : length (map answer_of all) ≡ length all = length-map all answer_of in
    omega arith
