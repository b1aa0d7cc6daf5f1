use Rattle.std.proofs.Common.{List, ℕ, ap, sym, ◌∙◌, subst, Contains}
use Rattle.std.specs.List.{flat_map}
use Rattle.std.proofs.lemmas.List.Sorted.{IsPermutation-sym}
use Rattle.class_store.specs.declared.closed.ClosedStripe.{ClosedStripe}
use Rattle.histories.specs.declared.entry.Entry.{Entry}
use Rattle.class_store.specs.Seen.{IsNewIn}
use Rattle.class_store.proofs.Told.{rises, same_keys, new_in}
use Rattle.class_store.proofs.closed.Closed.rising.Goals as goal

pub returns-clause-rising : goal.returns-clause-rising
returns-clause-rising c = rises c.in_ok-keys.keys.items c.sort_unstable.new.self.items c.dedup.new.self.items c.sort_unstable.ensures.sorted
    c.dedup.ensures.filtered

pub returns-clause-keys : goal.returns-clause-keys
returns-clause-keys c key =
    let there = c.sort_unstable.ensures.permutation in
    let same = same_keys c.in_ok-keys.keys.items c.sort_unstable.new.self.items c.dedup.new.self.items key there
    (IsPermutation-sym _ _ there) c.dedup.ensures.filtered in
    let new = new_in c.self.inside.stripes.items key c.self.invariant.replayed in
    let all = c.in_ok-keys.ensures ∙ ap (flat_map (λ (c : ClosedStripe). c.set.keys)) c.as_slice.ensures.value in (
      (λ k. subst (λ (h : List (List Entry)). IsNewIn h key) c.self.view_is (new.0 (subst (λ (l : List (List ℕ)). Contains l key) all (same.0 k)))),
      (λ n. same.1 (subst (λ (l : List (List ℕ)). Contains l key) (sym all) (new.1 (subst (λ (h : List (List Entry)). IsNewIn h key) (sym c.self.view_is) n)))),
    )
