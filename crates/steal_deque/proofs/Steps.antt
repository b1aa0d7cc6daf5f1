-- Each step keeps the rule of a deque.
use Rattle.std.proofs.Common.{◌≡◌, ◌≢◌, ℕ, zero, suc, ◌+◌, ◌<◌, ◌≤◌, ◌||◌, ◌==◌, ◌⊎◌, Bool, true, false, true≢false, List, [], ◌∷◌, ◌++◌, set, sym, refl, ap, ◌∙◌, subst, ⊎_elim, arith, inl, inr}
use mathlib.Core.Option.{some, some-ne-none}
use lib.ListN.{get_elem?}
use Rattle.std.proofs.lemmas.Bool.Decides.{nat_tests}
use Rattle.crossbeam_deque.specs.Tasks.{Pushes, Takes, Forks, Merges, Learns}
use Rattle.crossbeam_deque.proofs.Lists.{at_set, at_snoc}
use Rattle.steal_deque.specs.declared.deque.Knowledge.{Knowledge}
use Rattle.steal_deque.specs.declared.deque.Task.{Task}
use Rattle.steal_deque.specs.declared.deque.Task.TheVariants.{Number, End}
use Rattle.steal_deque.specs.Deque.{knowledge, one, times, total, numbers, EndsLast, NoEnd, Knows, RuleHolds, GotTask, Got, CanPut, Put, kept, given, both, spent, Learned}

pub times-append : (x : ℕ) (xs ys : List ℕ) → times x (xs ++ ys) ≡ times x xs + times x ys
times-append x [] ys = omega arith
times-append x (z ∷ zs) ys = omega (arith, times-append x zs ys)

pub times_same : (x : ℕ) → one (x == x) ≡ 1
times_same x = let e : (x == x) ≡ true = grind (arith, nat_tests) in ap one e

full_not_empty : (n : ℕ) (l : List ℕ) → ¬ (n ∷ l ≡ [])
full_not_empty n l e = cc

total_set : (f : Knowledge → ℕ) (views : List Knowledge) (port : ℕ) (v w : Knowledge) → get_elem? views port ≡ some v
    → total f (set views port w) + f v ≡ total f views + f w
total_set f [] port v w at = absurd (some-ne-none v (sym at))
total_set f (u ∷ us) zero v w at = let e : u ≡ v = cc in let e' : f u ≡ f v = ap f e in omega arith
total_set f (u ∷ us) (suc p) v w at = let e : total f (set us p w) + f v ≡ total f us + f w = total_set f us p v w at in omega arith

total_snoc : (f : Knowledge → ℕ) (views : List Knowledge) (w : Knowledge) → total f (views ++ w ∷ []) ≡ total f views + f w
total_snoc f [] w = omega arith
total_snoc f (u ∷ us) w = omega (arith, total_snoc f us w)

total_at : (f : Knowledge → ℕ) (views : List Knowledge) (port : ℕ) (v : Knowledge) → get_elem? views port ≡ some v → f v ≤ total f views
total_at f [] port v at = absurd (some-ne-none v (sym at))
total_at f (u ∷ us) zero v at = let e : u ≡ v = cc in let e' : f u ≡ f v = ap f e in omega arith
total_at f (u ∷ us) (suc p) v at = let e : f v ≤ total f us = total_at f us p v at in omega arith

total_two : (f : Knowledge → ℕ) (views : List Knowledge) (port other : ℕ) (v u : Knowledge) → other ≢ port → get_elem? views port ≡ some v
    → get_elem? views other ≡ some u → f v + f u ≤ total f views
total_two f [] port other v u apart at at' = absurd (some-ne-none v (sym at))
total_two f (x ∷ xs) zero zero v u apart at at' = absurd (apart refl)
total_two f (x ∷ xs) zero (suc o) v u apart at at' = let e : x ≡ v = cc in let e' : f x ≡ f v = ap f e in
    let t : f u ≤ total f xs = total_at f xs o u at' in omega arith
total_two f (x ∷ xs) (suc p) zero v u apart at at' = let e : x ≡ u = cc in let e' : f x ≡ f u = ap f e in
    let t : f v ≤ total f xs = total_at f xs p v at in omega arith
total_two f (x ∷ xs) (suc p) (suc o) v u apart at at' = let t : f v + f u ≤ total f xs = total_two f xs p o v u (λ e. apart (ap suc e)) at at' in omega arith

total_none : (f : Knowledge → ℕ) (views : List Knowledge) → ((j : ℕ) (u : Knowledge) → get_elem? views j ≡ some u → f u ≡ 0) → total f views ≡ 0
total_none f [] none = refl
total_none f (u ∷ us) none = let a : f u ≡ 0 = none 0 u refl in let b : total f us ≡ 0 = total_none f us (λ j w at. none (suc j) w at) in omega arith

-- where all others add nothing
total_only : (f : Knowledge → ℕ) (views : List Knowledge) (port : ℕ) (v : Knowledge) → get_elem? views port ≡ some v
    → ((j : ℕ) (u : Knowledge) → j ≢ port → get_elem? views j ≡ some u → f u ≡ 0) → total f views ≡ f v
total_only f [] port v at none = absurd (some-ne-none v (sym at))
total_only f (u ∷ us) zero v at none = let e : u ≡ v = cc in let e' : f u ≡ f v = ap f e in
    let b : total f us ≡ 0 = total_none f us (λ j w there. none (suc j) w (λ z. let e : suc j ≡ 0 = z in absurd (omega arith)) there) in omega arith
total_only f (u ∷ us) (suc p) v at none = let a : f u ≡ 0 = none 0 u (λ z. let e : 0 ≡ suc p = z in absurd (omega arith)) refl in
    let b : total f us ≡ f v = total_only f us p v at
    (λ j w apart there. none (suc j) w (λ z. let e : suc j ≡ suc p = z in apart (omega arith)) there) in omega arith

abbrev pub KnowAll : List ℕ → List Task → List Knowledge → Type 0
KnowAll pushed items views = (port : ℕ) (v : Knowledge) → get_elem? views port ≡ some v → Knows pushed items v

known_set : (pushed : List ℕ) (items : List Task) (views : List Knowledge) (port : ℕ) (w : Knowledge) → Knows pushed items w
    → ((j : ℕ) (u : Knowledge) → j ≢ port → get_elem? views j ≡ some u → Knows pushed items u) → KnowAll pushed items (set views port w)
known_set pushed items views port w mine others j u at =
    ⊎_elim (λ (x : (j ≡ port) × (w ≡ u)). subst (Knows pushed items) x.1 mine) (λ (x : (j ≢ port) × (get_elem? views j ≡ some u)). others j u x.0 x.1)
    (at_set views port j w u at)

or_cases : (a b : Bool) → (a || b) ≡ true → (a ≡ true) ⊎ (b ≡ true)
or_cases true b e = inl refl
or_cases false b e = inr e

at_end : (l : List Knowledge) (a b : Knowledge) (j : ℕ) → get_elem? (l ++ a ∷ []) j ≡ some b → (get_elem? l j ≡ some b) ⊎ (a ≡ b)
at_end l a b j e = at_snoc l a b j e

pub begins : RuleHolds [] (knowledge 64 [] [] false false ∷ [])
begins = record {
  pushed = [];
  ends_last = tt;
  parts = refl;
  each = λ x. refl;
  known = λ port v at.
      let w : Knowledge = knowledge 64 [] [] false false in
      let k : Knows [] [] w = record { all = λ _. refl; «open» = λ _ _. tt; ended = λ _ _. refl; idle = λ _. refl } in
      ⊎_elim (λ (x : get_elem? [] port ≡ some v). absurd (some-ne-none v (sym x))) (λ (x : w ≡ v). subst (Knows [] []) x k) (at_end [] w v port at);
}

-- who has every part knows that no other has one
alone : (views : List Knowledge) (port j : ℕ) (v u : Knowledge) → total (λ v. v.parts) views ≡ 64 → get_elem? views port ≡ some v → v.parts ≡ 64
    → j ≢ port → get_elem? views j ≡ some u → u.parts ≡ 0
alone views port j v u all at whole apart there = let t : v.parts + u.parts ≤ total (λ v. v.parts) views = total_two
    (λ v. v.parts) views port j v u apart at there in omega arith

nothing : (pushed : List ℕ) (items : List Task) (u : Knowledge) → u.parts ≡ 0 → u.taken ≡ [] → Knows pushed items u
nothing pushed items u none idle = record {
  all = λ some_part. absurd (omega arith);
  «open» = λ some_part _. absurd
      (omega arith);
  ended = λ some_part _. absurd (omega arith);
  idle = λ _. idle;
}

numbers-append : (xs ys : List Task) → numbers (xs ++ ys) ≡ numbers xs ++ numbers ys
numbers-append [] ys = refl
numbers-append (Number n ∷ xs) ys = ap (λ l. n ∷ l) (numbers-append xs ys)
numbers-append (End ∷ xs) ys = numbers-append xs ys

no_end_last : (xs ys : List Task) → NoEnd xs → EndsLast ys → EndsLast (xs ++ ys)
no_end_last [] ys none last = last
no_end_last (Number n ∷ xs) ys none last = no_end_last xs ys none last
no_end_last (End ∷ xs) ys none last = absurd none

no_end_more : (xs : List Task) (n : ℕ) → NoEnd xs → NoEnd (xs ++ Number n ∷ [])
no_end_more [] n none = tt
no_end_more (Number m ∷ xs) n none = no_end_more xs n none
no_end_more (End ∷ xs) n none = absurd none

end_last : (xs : List Task) → EndsLast xs → EndsLast (xs ++ End ∷ [])
end_last [] last = (refl, tt)
end_last (Number n ∷ xs) last = end_last xs last
end_last (End ∷ xs) last = (numbers-append xs (End ∷ []) ∙ ap (λ (l : List ℕ). l ++ []) last.0, end_last xs last.1)

puts_number : (port : ℕ) (v : Knowledge) (n : ℕ) → v.parts ≡ 64 → v.closed ≡ false → v.ended ≡ false
    → Pushes RuleHolds port v (Number n ∷ []) (Put v (Number n ∷ []))
puts_number port v n whole free fresh items views h at =
    let w : Knowledge = knowledge v.parts (v.pushed ++ n ∷ []) v.taken v.closed v.ended in
    let mine : Knows h.pushed items v = h.known port v at in
    let queued : numbers (items ++ Number n ∷ []) ≡ numbers items ++ n ∷ [] = numbers-append items (Number n ∷ []) in
    let none : NoEnd items = mine.«open» (omega arith) free in (
      w,
      record {
        pushed = h.pushed ++ n ∷ [];
        ends_last = no_end_last items (Number n ∷ []) none tt;
        parts = (let s = total_set (λ v. v.parts) views port v w at in let p = h.parts in omega arith);
        each = λ x.
            let s = total_set (λ v. times x v.taken) views port v w at in
            let e = h.each x in
            let q : times x (numbers (items ++ Number n ∷ [])) ≡ times x (numbers items ++ n ∷ []) = ap (times x) queued in
            omega (arith, times-append x h.pushed (n ∷ []), times-append x (numbers items) (n ∷ []));
        known = known_set (h.pushed ++ n ∷ []) (items ++ Number n ∷ []) views port w
            (record {
              all = λ p. ap (λ (l : List ℕ). l ++ n ∷ []) (mine.all p);
              «open» = λ _ _. no_end_more items n none;
              ended = λ _ e. absurd (true≢false (sym e ∙ fresh));
              idle = λ z. absurd (omega arith);
            })
            (λ j u apart there. let z : u.parts ≡ 0 = alone views port j v u h.parts at whole apart there in
            nothing (h.pushed ++ n ∷ []) (items ++ Number n ∷ []) u z ((h.known j u there).idle z));
      },
      refl,
    )

puts_end : (port : ℕ) (v : Knowledge) → v.parts ≡ 64 → Pushes RuleHolds port v (End ∷ []) (Put v (End ∷ []))
puts_end port v whole items views h at =
    let w : Knowledge = knowledge v.parts v.pushed v.taken true v.ended in
    let mine : Knows h.pushed items v = h.known port v at in
    let queued : numbers (items ++ End ∷ []) ≡ numbers items ++ [] = numbers-append items (End ∷ []) in (
      w,
      record {
        pushed = h.pushed;
        ends_last = end_last items h.ends_last;
        parts = (let s = total_set (λ v. v.parts) views port v w at in let p = h.parts in omega arith);
        each = λ x.
            let s = total_set (λ v. times x v.taken) views port v w at in
            let e = h.each x in
            let q : times x (numbers (items ++ End ∷ [])) ≡ times x (numbers items ++ []) = ap (times x) queued in
            omega (arith, times-append x (numbers items) []);
        known = known_set h.pushed (items ++ End ∷ []) views port w
            (record {
              all = mine.all;
              «open» = λ _ e. absurd (true≢false e);
              ended = λ p e. queued ∙ ap (λ (l : List ℕ). l ++ []) (mine.ended p e);
              idle = mine.idle;
            })
            (λ j u apart there. let z : u.parts ≡ 0 = alone views port j v u h.parts at whole apart there in
            nothing h.pushed (items ++ End ∷ []) u z ((h.known j u there).idle z));
      },
      refl,
    )

pub puts : (port : ℕ) (v : Knowledge) (task : Task) → CanPut v task → Pushes RuleHolds port v (task ∷ []) (Put v (task ∷ []))
puts port v (Number n) can = puts_number port v n can.0 can.1 can.2
puts port v End can = puts_end port v can

takes_one : (port : ℕ) (v : Knowledge) → 0 < v.parts → (t : Task) (items : List Task) (views : List Knowledge) → RuleHolds (t ∷ items) views
    → get_elem? views port ≡ some v
    → (w : Knowledge) × RuleHolds items (set views port w) × GotTask v t w
takes_one port v some_part (Number n) items views h at =
    let w : Knowledge = knowledge v.parts v.pushed (v.taken ++ n ∷ []) v.closed v.ended in
    let mine : Knows h.pushed (Number n ∷ items) v = h.known port v at in (
      w,
      record {
        pushed = h.pushed;
        ends_last = h.ends_last;
        parts = (let s = total_set (λ v. v.parts) views port v w at in let p = h.parts in omega arith);
        each = λ x.
            let s = total_set (λ v. times x v.taken) views port v w at in
            let e = h.each x in
            omega (arith, times-append x v.taken (n ∷ []));
        known = known_set h.pushed items views port w
            (record {
              all = mine.all;
              «open» = mine.«open»;
              ended = λ p e. absurd
                  (full_not_empty n (numbers items) (mine.ended p e));
              idle = λ z. absurd (omega arith);
            })
            (λ j u apart there. let k : Knows h.pushed (Number n ∷ items) u = h.known j u there in
            record { all = k.all; «open» = k.«open»; ended = λ p e. absurd (full_not_empty n (numbers items) (k.ended p e)); idle = k.idle });
      },
      (
        refl,
        (let e = h.each n in let t = total_at (λ v. times n v.taken) views port v at in let o = times_same n in
            let p : times n v.pushed ≡ times n h.pushed = ap (times n) (mine.all some_part) in omega arith),
      ),
    )
takes_one port v some_part End items views h at =
    let w : Knowledge = knowledge v.parts v.pushed v.taken v.closed true in
    let mine : Knows h.pushed (End ∷ items) v = h.known port v at in
    let closed : (u : Knowledge) → Knows h.pushed (End ∷ items) u → 0 < u.parts → u.closed ≡ false → NoEnd items = λ u k p e. absurd (k.«open» p e) in (
      w,
      record {
        pushed = h.pushed;
        ends_last = h.ends_last.1;
        parts = (let s = total_set (λ v. v.parts) views port v w at in let p = h.parts in omega arith);
        each = λ x. (let s = total_set (λ v. times x v.taken) views port v w at in let e = h.each x in omega arith);
        known = known_set h.pushed items views port w
            (record { all = mine.all; «open» = λ p e. closed v mine p e; ended = λ _ _. h.ends_last.0; idle = mine.idle })
            (λ j u apart there. let k : Knows h.pushed (End ∷ items) u = h.known j u there in
            record { all = k.all; «open» = closed u k; ended = k.ended; idle = k.idle });
      },
      refl,
    )

pub takes : (port : ℕ) (v : Knowledge) → 0 < v.parts → Takes RuleHolds port v 1 (Got v)
takes port v p [] items views some_task few h at = absurd (omega arith)
takes port v p (t ∷ []) items views some_task few h at = takes_one port v p t items views h at
takes port v p (t ∷ s ∷ ts) items views some_task few h at = absurd (omega arith)

pub forks : (port : ℕ) (v : Knowledge) → 1 < v.parts → Forks RuleHolds port v (kept v) (given v)
forks port v more items views h at =
    let l : Knowledge = kept v in let r : Knowledge = given v in
    let mine : Knows h.pushed items v = h.known port v at in
    let vs : List Knowledge = set views port l in record {
      pushed = h.pushed;
      ends_last = h.ends_last;
      parts = (let s = total_set (λ v. v.parts) views port v l at in let p = h.parts in omega (arith, total_snoc (λ v. v.parts) vs r));
      each = λ x. (let s = total_set (λ v. times x v.taken) views port v l at in let e = h.each x in omega (arith, total_snoc (λ v. times x v.taken) vs r));
      known = λ j u there.
          ⊎_elim
          (λ (x : get_elem? vs j ≡ some u). known_set h.pushed items views port l
          (record {
            all = λ _. mine.all (omega arith);
            «open» = λ _ e. mine.«open» (omega arith) e;
            ended = λ _ e. mine.ended
                (omega arith) e;
            idle = λ z. absurd (omega arith);
          })
          (λ i w apart here. h.known i w here) j u x)
          (λ (x : r ≡ u). subst (Knows h.pushed items) x
          (record {
            all = λ _. mine.all (omega arith);
            «open» = λ _ e. mine.«open» (omega arith) e;
            ended = λ _ e. absurd
                (true≢false (sym e));
            idle = λ z. absurd (omega arith);
          }))
          (at_end vs r u j there);
    }

pub merges : (port : ℕ) (v : Knowledge) (other : ℕ) (u : Knowledge) → 0 < v.parts → 0 < u.parts → Merges RuleHolds port v other u (both v u) spent
merges port v other u p q items views h at two at' =
    let b : Knowledge = both v u in
    let vs : List Knowledge = set views port b in
    let was : get_elem? views other ≡ some u = ⊎_elim (λ (x : (other ≡ port) × (b ≡ u)). absurd (two x.0))
    (λ (x : (other ≢ port) × (get_elem? views other ≡ some u)). x.1) (at_set views port other b u at') in
    let mine : Knows h.pushed items v = h.known port v at in
    let theirs : Knows h.pushed items u = h.known other u was in record {
      pushed = h.pushed;
      ends_last = h.ends_last;
      parts = (let s = total_set (λ v. v.parts) views port v b at in let t = total_set (λ v. v.parts) vs other u spent at' in let k = h.parts in omega arith);
      each = λ x. (let s = total_set (λ v. times x v.taken) views port v b at in let t = total_set (λ v. times x v.taken) vs other u spent at' in
          let e = h.each x in
          omega (arith, times-append x v.taken u.taken));
      known = known_set h.pushed items vs other spent (nothing h.pushed items spent refl refl)
          (λ j w apart there. known_set h.pushed items views port b
          (record {
            all = λ _. mine.all p;
            «open» = λ _ e. mine.«open» p e;
            ended = λ _ e. ⊎_elim (mine.ended p) (theirs.ended q) (or_cases v.ended u.ended e);
            idle = λ z. absurd (omega arith);
          })
          (λ i y _ here. h.known i y here) j w there);
    }

pub learns : (port : ℕ) (v : Knowledge) → Learns RuleHolds port v (λ items. Learned v)
learns port v items views h at =
    let few : v.parts ≤ 64 = (let t = total_at (λ v. v.parts) views port v at in let p = h.parts in omega arith) in
    let mine : Knows h.pushed items v = h.known port v at in record {
      few = few;
      settled = λ whole.
          let same : v.pushed ≡ h.pushed = mine.all (omega arith) in
          let count : (x : ℕ) → times x v.pushed ≡ times x v.taken + times x (numbers items) = λ x.
          let t : total (λ v. times x v.taken) views ≡ times x v.taken = total_only (λ v. times x v.taken) views port v at
          (λ j u apart there. let z : u.parts ≡ 0 = alone views port j v u h.parts at whole apart there in ap (times x) ((h.known j u there).idle z)) in
          let e = h.each x in let s = ap (times x) same in omega arith in
          record {
            proper = λ x. (let c = count x in omega arith);
            whole = λ e x. (let c = count x in let z : times x (numbers items) ≡ 0 = ap (times x) (mine.ended (omega arith) e) in omega arith);
          };
    }
