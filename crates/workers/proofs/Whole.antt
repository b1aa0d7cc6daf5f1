-- What all workers of a level did together.
use Rattle.std.proofs.Common.{◌≡◌, ◌⊎◌, ◌↔◌, ℕ, zero, suc, ◌+◌, ◌*◌, ◌<◌, ◌≤◌, List, [], ◌∷◌, ◌++◌, map, length, Option, Some, None, IsSome, IfSome, slice_get, slice_index_or, inl, inr, refl, sym, ◌∙◌, ap, subst, arith, bytes_eq, cond, length-append}
use Rattle.std.specs.Prelude.{unwrap_or}
use Rattle.std.specs.List.{AllByRecursion, AllPairs, AllZip, Contains, concat, sum_by}
use Rattle.std.specs.declared.cmp.Ordering.TheVariants.{Less}
use Rattle.std.proofs.lemmas.List.Elements.{Contains-append_left, Contains-append_right, Contains-append_cases}
use Rattle.std.proofs.lemmas.List.Sums.{sum_by-append, sum_by-cons}
use Rattle.matroid_theory.specs.Rep.{Rep}
use Rattle.matroid_theory.specs.Order.{rep_cmp}
use Rattle.matroid_theory.specs.Level.{Family, IsTry}
use Rattle.formats.specs.Request.{Request}
use Rattle.extension.specs.Admissible.{above_values}
use Rattle.formats.specs.Levels.{Grows}
use Rattle.class_store.specs.Seen.{calls_with}
use Rattle.steal_deque.specs.Deque.{times as often}
use Rattle.steal_pool.specs.Shift.{HasEnded, shift_taken}
use Rattle.steal_pool.specs.Pool.{IsWhole}
use Rattle.steal_deque.proofs.Steps.{times-append}
use Rattle.store_laws.specs.TryKeys.{IsTryKey}
use Rattle.level_driver.specs.Grown.{IsParentLevel}
use Rattle.level_driver.proofs.NextLevel.{tries_are}
use Rattle.workers.specs.declared.worker.Worker.{Worker}
use Rattle.workers.specs.Keys.{AreKeysOf, times}
use Rattle.workers.specs.Parts.{IsTryFrom, DoesPart}
use Rattle.workers.specs.Seats.{IsWorked}
use Rattle.workers.proofs.KeyLists.{keys_both, keys_none, keys_same}
use Rattle.workers.proofs.Numbers.{found, place}
use Rattle.workers.proofs.PartKeys.{same_place}

-- what one worker took, and its answer
abbrev pub taken_by : Worker → List ℕ
taken_by w = shift_taken w.shift

abbrev pub answered : Option ℕ → ℕ
answered answer = unwrap_or answer 0

abbrev pub tried_by : Worker → ℕ
tried_by w = answered w.answer

abbrev pub calls_of : List ℕ → Worker → ℕ
calls_of key w = calls_with key w.pass

abbrev pub all_taken : List Worker → List ℕ
all_taken ws = concat (map taken_by ws)

-- a worker that has done nothing
pub record IsFresh (w : Worker) : Type 0 where
  pub taken : taken_by w ≡ []
  pub calls : (key : List ℕ) → calls_of key w ≡ 0

-- the workers place by place
pub zipped : {X : Type 0} (R : X → X → Type 0) (xs ys : List X) → length ys ≡ length xs
    → ((i : ℕ) (d : X) → i < length xs → R (slice_index_or xs i d) (slice_index_or ys i d)) → AllZip R xs ys
zipped R [] [] l each = tt
zipped R [] (y ∷ ys) l each = absurd (omega arith)
zipped R (x ∷ xs) [] l each = absurd (omega arith)
zipped R (x ∷ xs) (y ∷ ys) l each = (each 0 x (omega arith), zipped R xs ys (omega arith) (λ i d m. each (suc i) d (omega arith)))

-- what holds of the answer that is there
pub of_answer : (P : ℕ → Type 0) (answer : Option ℕ) → IsSome answer → IfSome answer P → P (answered answer)
of_answer P None some h = absurd (cc some)
of_answer P (Some tried) some h = h

-- the tries of two lists of numbers that share none
module _ (family : Family) (n : ℕ) (parents : List Rep) (rising : AllPairs (λ M N. rep_cmp M N ≡ Less) parents) where
  pub parts_both : (xs ys : List ℕ) (ks ls : List (List ℕ)) → ((x : ℕ) → often x (xs ++ ys) ≤ 1)
      → AreKeysOf (IsTryFrom family n parents xs) (IsTryKey family n) ks → AreKeysOf (IsTryFrom family n parents ys) (IsTryKey family n) ls
      → AreKeysOf (IsTryFrom family n parents (xs ++ ys)) (IsTryKey family n) (ks ++ ls)
  parts_both xs ys ks ls once a b =
      keys_both (IsTryKey family n) (IsTryFrom family n parents xs) (IsTryFrom family n parents ys) (IsTryFrom family n parents
      (xs ++ ys)) ks ls a b disjoint either
    where
      disjoint : (try : Rep × List ℕ) → IsTryFrom family n parents xs try → IsTryFrom family n parents ys try → ⊥
      disjoint try s t =
          let same : s.number ≡ t.number = same_place parents rising s.number t.number try.0 s.there t.there in
          let first = found s.number xs s.taken in
          let second = found s.number ys (subst (Contains ys) (sym same) t.taken) in
          let o = once s.number in
          let sum = times-append s.number xs ys in
          absurd (omega arith)

      either : (try : Rep × List ℕ) → IsTryFrom family n parents (xs ++ ys) try ↔ (IsTryFrom family n parents xs try ⊎ IsTryFrom family n parents ys try)
      either try = (
        λ t. elim (Contains-append_cases xs ys t.number t.taken) [
          | inl c ↦ inl record { is_try = t.is_try; number = t.number; taken = c; there = t.there }
          | inr c ↦ inr record { is_try = t.is_try; number = t.number; taken = c; there = t.there }
        ],
        λ h. elim h [
          | inl t ↦ record { is_try = t.is_try; number = t.number; taken = Contains-append_left xs ys t.number t.taken; there = t.there }
          | inr t ↦ record { is_try = t.is_try; number = t.number; taken = Contains-append_right xs ys t.number t.taken; there = t.there }
        ],
      )

-- the calls of these workers are the keys of the tries of the parents that they took, and their answers add up to the number of these
pub record HaveDone (family : Family) (n : ℕ) (parents : List Rep) (after : List Worker) : Type 0 where
  pub keys : List (List ℕ)
  pub are_keys : AreKeysOf (IsTryFrom family n parents (all_taken after)) (IsTryKey family n) keys
  pub calls : (key : List ℕ) → sum_by (calls_of key) after ≡ times key keys
  pub count : sum_by tried_by after ≡ length keys

module _ (q : Request) (parents : List Rep) (n : ℕ) (family : Family) (level : IsParentLevel q n parents) (grows : Grows q family) where
  rising : AllPairs (λ M N. rep_cmp M N ≡ Less) parents
  rising = let l = level.level family grows in l.rising

  none_done : HaveDone family (n + 1) parents []
  none_done = record {
    keys = [];
    are_keys = keys_none (IsTryKey family (n + 1)) (IsTryFrom family (n + 1) parents []) (λ try t. let c = t.taken in let l = c.1 in absurd (omega arith));
    calls = λ key. refl;
    count = refl;
  }

  one_more_done : (before after : Worker) (ws : List Worker) → IsWorked q parents before after → IsFresh before → IsSome after.answer
      → ((x : ℕ) → often x (taken_by after ++ all_taken ws) ≤ 1) → HaveDone family (n + 1) parents ws → HaveDone family (n + 1) parents (after ∷ ws)
  one_more_done before after ws worked fresh some once h =
      let does : HasEnded after.shift × DoesPart q parents (taken_by before) (taken_by after) before.pass after.pass (tried_by after) =
      of_answer (λ tried. HasEnded after.shift × DoesPart q parents (taken_by before)
      (taken_by after) before.pass after.pass tried) after.answer some worked.answered in
      let p = does.1 in
      let part = p.part n family level grows in
      let is : p.numbers ≡ taken_by after = sym (p.took ∙ ap (λ (l : List ℕ). l ++ p.numbers) fresh.taken) in
      record {
        keys = part.keys ++ h.keys;
        are_keys = parts_both family (n + 1) parents rising (taken_by after) (all_taken ws) part.keys h.keys once
            (subst (λ (numbers : List ℕ). AreKeysOf (IsTryFrom family (n + 1) parents numbers) (IsTryKey family
            (n + 1)) part.keys) is part.are_keys) h.are_keys;
        calls = λ key.
            let a = part.calls key in let z = fresh.calls key in let b = h.calls key in
            let sum = sum_by-cons (calls_of key) after ws in
            let t : times key (part.keys ++ h.keys) ≡ times key part.keys + times key h.keys =
            sum_by-append (λ (l : List ℕ). cond (bytes_eq key l) 1 0) part.keys h.keys in
            omega arith;
        count =
            let a = part.count in let b = h.count in
            let sum = sum_by-cons tried_by after ws in
            let l = length-append part.keys h.keys in
            omega arith;
      }

  pub all_done : (before after : List Worker) → AllZip (IsWorked q parents) before after → AllByRecursion IsFresh before
      → AllByRecursion (λ w. IsSome w.answer) after
      → ((x : ℕ) → often x (all_taken after) ≤ 1) → HaveDone family (n + 1) parents after
  all_done [] [] z fresh some once = none_done
  all_done [] (y ∷ ys) z fresh some once = absurd z
  all_done (x ∷ xs) [] z fresh some once = absurd z
  all_done (x ∷ xs) (y ∷ ys) z fresh some once =
      one_more_done x y ys z.0 fresh.0 some.0 once
      (all_done xs ys z.1 fresh.1 some.1 (λ p. let o = once p in let s = times-append p (taken_by y) (all_taken ys) in omega arith))

  -- where every number was taken these are all tries
  pub whole_done : (after : List Worker) → IsWhole (length parents) (all_taken after) → (h : HaveDone family (n + 1) parents after)
      → AreKeysOf (IsTry family (n + 1)) (IsTryKey family (n + 1)) h.keys
  whole_done after whole h = keys_same (IsTryKey family (n + 1)) (IsTryFrom family (n + 1) parents (all_taken after)) (IsTry family
      (n + 1)) h.keys all h.are_keys
    where
      at_place : (Ms : List Rep) (k : ℕ) (M : Rep) → k < length Ms → slice_index_or Ms k M ≡ M → slice_get Ms k ≡ Some M
      at_place [] k M l e = absurd (omega arith)
      at_place (N ∷ Ns) zero M l e = ap Some e
      at_place (N ∷ Ns) (suc k) M l e = at_place Ns k M (omega arith) e

      all : (try : Rep × List ℕ) → IsTryFrom family (n + 1) parents (all_taken after) try ↔ IsTry family (n + 1) try
      all try = (
        λ t. t.is_try,
        λ t.
            let both = (tries_are q family grows n parents (level.level family grows) try).1 t in
            let (k, l, e) = both.0 in
            record { is_try = t; number = k; taken = place k (all_taken after) (let w = whole k l in omega arith); there = at_place parents k try.0 l e },
      )

-- ---- the answers fit
took_at_most : (q : Request) (parents : List Rep) (before after : Worker) → IsWorked q parents before after →
    tried_by after ≤ length (taken_by after) * above_values
took_at_most q parents before after worked = by_answer after.answer worked.answered
  where
    by_answer : (answer : Option ℕ)
        → IfSome answer (λ tried. HasEnded after.shift × DoesPart q parents (taken_by before) (taken_by after) before.pass after.pass tried)
        → answered answer ≤ length (taken_by after) * above_values
    by_answer None h = omega arith
    by_answer (Some tried) h =
        let p = h.1 in let f = p.few in
        let l : length (taken_by after) ≡ length (taken_by before) + length p.numbers = ap (λ (l : List ℕ). length l) p.took ∙ length-append
        (taken_by before) p.numbers in
        omega arith

pub tried_at_most : (q : Request) (parents : List Rep) (before after : List Worker) → AllZip (IsWorked q parents) before after
    → sum_by tried_by after ≤ length (all_taken after) * above_values
tried_at_most q parents [] [] z = omega arith
tried_at_most q parents [] (y ∷ ys) z = absurd z
tried_at_most q parents (x ∷ xs) [] z = absurd z
tried_at_most q parents (x ∷ xs) (y ∷ ys) z =
    let here = took_at_most q parents x y z.0 in
    let rest = tried_at_most q parents xs ys z.1 in
    let sum = sum_by-cons tried_by y ys in
    let l = length-append (taken_by y) (all_taken ys) in
    omega arith
