-- What a shift has taken of the deques' shares.
use Rattle.std.proofs.Common.{◌≡◌, ◌≢◌, ℕ, zero, suc, ◌+◌, ◌%◌, ◌<◌, ◌≤◌, ◌==◌, true, List, [], ◌∷◌, ◌++◌, length, set, sym, refl, ap, ◌∙◌, ⊎_elim, append_assoc, arith, length-set, append-nil}
use Rattle.std.proofs.lemmas.Bool.{cases_eq}
use Rattle.std.proofs.lemmas.Bool.Decides.{nat_tests}
use Rattle.steal_deque.specs.declared.deque.Knowledge.{Knowledge}
use Rattle.steal_deque.specs.declared.deque.Task.TheVariants.{Number, End}
use Rattle.steal_deque.specs.Deque.{one, times, share, GotTask}
use Rattle.steal_pool.specs.Ring.{ring, view_at, takings, IsShift}
use Rattle.steal_deque.proofs.Steps.{times-append, times_same}
use Rattle.steal_pool.proofs.Rows.{set_each}
use Rattle.steal_deque.proofs.Filling.{one_other, share_times}

ring_apart : (deques number i j : ℕ) → number < deques → i < deques → j < deques → ring deques number i ≡ ring deques number j → i ≡ j
ring_apart deques number i j a b c e = grind (arith, nat_tests)

takings_empty : (views : List Knowledge) → ((j : ℕ) → j < length views → (view_at views j).taken ≡ []) → takings views ≡ []
takings_empty [] none = refl
takings_empty (v ∷ vs) none = ap (λ (l : List ℕ). l ++ takings vs) (none 0 (omega arith)) ∙ takings_empty vs (λ j l. none (suc j) (omega arith))

-- the last deque that was visited gains a number
takings_more : (views : List Knowledge) (d : ℕ) (w : Knowledge) (p : ℕ) → d < length views → w.taken ≡ (view_at views d).taken ++ p ∷ []
    → ((j : ℕ) → d < j → j < length views → (view_at views j).taken ≡ [])
    → takings (set views d w) ≡ takings views ++ p ∷ []
takings_more [] d w p below is later = absurd (omega arith)
takings_more (v ∷ vs) zero w p below is later =
    let rest : takings vs ≡ [] = takings_empty vs (λ j l. later (suc j) (omega arith) (omega arith)) in
    ap (λ (l : List ℕ). w.taken ++ l) rest ∙ append-nil w.taken ∙ is
    ∙ ap (λ (l : List ℕ). l ++ p ∷ []) (sym (append-nil v.taken) ∙ ap (λ (l : List ℕ). v.taken ++ l) (sym rest))
takings_more (v ∷ vs) (suc d) w p below is later =
    ap (λ (l : List ℕ). v.taken ++ l) (takings_more vs d w p (omega arith) is (λ j a b. later (suc j) (omega arith) (omega arith)))
    ∙ sym (append_assoc v.taken (takings vs) (p ∷ []))

takings_same : (views : List Knowledge) (d : ℕ) (w : Knowledge) → w.taken ≡ (view_at views d).taken → takings (set views d w) ≡ takings views
takings_same [] d w is = refl
takings_same (v ∷ vs) zero w is = ap (λ (l : List ℕ). l ++ takings vs) is
takings_same (v ∷ vs) (suc d) w is = ap (λ (l : List ℕ). v.taken ++ l) (takings_same vs d w is)

-- a number that no view has taken is not among the takings
takings_none : (x : ℕ) (views : List Knowledge) → ((j : ℕ) → j < length views → times x (view_at views j).taken ≡ 0) → times x (takings views) ≡ 0
takings_none x [] none = refl
takings_none x (v ∷ vs) none = let a : times x v.taken ≡ 0 = none 0 (omega arith) in
    let b : times x (takings vs) ≡ 0 = takings_none x vs (λ j l. none (suc j) (omega arith)) in omega (arith, times-append x v.taken (takings vs))

shift_set : (deques number parents done after : ℕ) (views : List Knowledge) (w : Knowledge) → IsShift deques number parents done views → done < deques
    → done ≤ after → after ≤ done + 1 → 0 < w.parts
    → w.pushed ≡ (view_at views done).pushed → (done < after → w.ended ≡ true) → ((x : ℕ) → times x w.taken ≤ times x w.pushed)
    → IsShift deques number parents after (set views done w)
shift_set deques number parents done after views w s more a b part same met proper =
    let count = s.count in
    let below : done < length views = omega arith in record {
      count = length-set views done w ∙ s.count;
      own = s.own;
      within = omega arith;
      part = set_each (λ _ v. 0 < v.parts) views deques done w below part (λ j _ l. s.part j l);
      all = set_each (λ j v. v.pushed ≡ share deques (ring deques number j) parents) views deques done w below (same ∙ s.all done more) (λ j _ l. s.all j l);
      ended = λ j l. set_each (λ j v. j < after → v.ended ≡ true) views deques done w below met (λ i isnt _ m. s.ended i (omega arith)) j (omega arith) l;
      later = λ j m l. set_each (λ j v. after < j → v.taken ≡ []) views deques done w below (λ z. absurd (omega arith))
          (λ i isnt k z. s.later i (omega arith) k) j l m;
      proper = λ j x l. set_each (λ _ v. times x v.taken ≤ times x v.pushed) views deques done w below (proper x) (λ i _ k. s.proper i x k) j l;
    }

pub took : (deques number parents done : ℕ) (views : List Knowledge) (w : Knowledge) (p : ℕ) → IsShift deques number parents done views
    → done < deques → GotTask (view_at views done) (Number p) w
    → IsShift deques number parents done (set views done w) × (p < parents) × (times p (takings views) ≡ 0) ×
    (takings (set views done w) ≡ takings views ++ p ∷ [])
took deques number parents done views w p s more got =
    let v : Knowledge = view_at views done in
    let count : length views ≡ deques = s.count in
    let taken : w.taken ≡ v.taken ++ p ∷ [] = ap (λ (h : Knowledge). h.taken) got.0 in
    let pushed : w.pushed ≡ v.pushed = ap (λ (h : Knowledge). h.pushed) got.0 in
    let parts : w.parts ≡ v.parts = ap (λ (h : Knowledge). h.parts) got.0 in
    let some_part : 0 < v.parts = s.part done more in
    let there : times p v.pushed ≡ times p (share deques (ring deques number done) parents) = ap (times p) (s.all done more) in
    let fewer : times p v.taken < times p v.pushed = got.1 in
    let Shared : Type 0 = (times p v.taken ≡ 0) × (p < parents) × (p % deques ≡ ring deques number done) in
    let here : Shared = ⊎_elim (λ (z : times p (share deques (ring deques number done) parents) ≡ 0). absurd {A = Shared} (omega arith))
    (λ (h : (times p (share deques (ring deques number done) parents) ≡ 1) × (p < parents) × (p % deques ≡ ring deques number done)). let t = h.0 in
    (omega arith, h.1, h.2))
    (share_times deques (ring deques number done) p parents) in (
      shift_set deques number parents done done views w s more (omega arith) (omega arith) (omega arith) pushed (λ z. absurd (omega arith))
          (λ x. let sum : times x w.taken ≡ times x v.taken + (one (x == p) + 0) = ap (times x) taken ∙ times-append x v.taken (p ∷ []) in
          let same : times x w.pushed ≡ times x v.pushed = ap (times x) pushed in
          let old : times x v.taken ≤ times x v.pushed = s.proper done x more in
          ⊎_elim
          (λ (is : x ≡ p). let o : one (x == p) ≡ 1 = ap (λ (y : ℕ). one (x == y)) (sym is) ∙ times_same x in
          let t : times x v.taken ≡ times p v.taken = ap (λ (y : ℕ). times y v.taken) is in
          let u : times x v.pushed ≡ times p v.pushed = ap (λ (y : ℕ). times y v.pushed) is in omega arith)
          (λ (isnt : x ≢ p). let o : one (x == p) ≡ 0 = one_other x p isnt in omega arith)
          (cases_eq x p)),
      here.1,
      takings_none p views (λ j l. let l' : j < deques = omega arith in
          ⊎_elim
          (λ (is : j ≡ done). ap (λ (i : ℕ). times p (view_at views i).taken) is ∙ here.0)
          (λ (isnt : j ≢ done).
          let most : times p (view_at views j).taken ≤ times p (view_at views j).pushed = s.proper j p l' in
          let of : times p (view_at views j).pushed ≡ times p (share deques (ring deques number j) parents) = ap (times p) (s.all j l') in
          ⊎_elim (λ (z : times p (share deques (ring deques number j) parents) ≡ 0). omega arith)
          (λ (h : (times p (share deques (ring deques number j) parents) ≡ 1) × (p < parents) × (p % deques ≡ ring deques number j)).
          absurd (isnt (ring_apart deques number j done s.own l' more (sym h.2 ∙ here.2))))
          (share_times deques (ring deques number j) p parents))
          (cases_eq j done)),
      takings_more views done w p (omega arith) taken (λ j a l. s.later j a (omega arith)),
    )

pub met_end : (deques number parents done : ℕ) (views : List Knowledge) (w : Knowledge) → IsShift deques number parents done views → done < deques
    → GotTask (view_at views done) End w
    → IsShift deques number parents (done + 1) (set views done w) × (takings (set views done w) ≡ takings views)
met_end deques number parents done views w s more got =
    let v : Knowledge = view_at views done in
    let taken : w.taken ≡ v.taken = ap (λ (h : Knowledge). h.taken) got in
    let pushed : w.pushed ≡ v.pushed = ap (λ (h : Knowledge). h.pushed) got in
    let parts : w.parts ≡ v.parts = ap (λ (h : Knowledge). h.parts) got in
    let some_part : 0 < v.parts = s.part done more in (
      shift_set deques number parents done (done + 1) views w s more (omega arith) (omega arith) (omega arith) pushed (λ _. ap (λ (h : Knowledge). h.ended) got)
          (λ x. let a : times x w.taken ≡ times x v.taken = ap (times x) taken in let b : times x w.pushed ≡ times x v.pushed = ap (times x) pushed in
          let old : times x v.taken ≤ times x v.pushed = s.proper done x more in omega arith),
      takings_same views done w taken,
    )
