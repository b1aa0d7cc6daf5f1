use Rattle.std.proofs.Common.{◌≡◌, ℕ, List, sym, subst}
use Rattle.std.specs.List.{All, AllZip}
use Rattle.std.specs.List.Sorted.{IsStrictlySortedBy}
use Rattle.std.specs.Cmp.Lexicographic.{slice_cmp}
use Rattle.std.specs.Ordering.{nat_cmp}
use Rattle.std.specs.Map.Iter.{deref}
use Rattle.std.proofs.lemmas.List.Elements.{Contains-get_or}
use Rattle.std.proofs.lemmas.Map.Iter.{iter_end}
use Rattle.std.proofs.lemmas.Map.Views.{All-turn}
use Rattle.matroid_theory.specs.Rep.{Rep}
use Rattle.form_key.specs.Packing.{IsPackedAs}
use Rattle.level_driver.specs.Keys.{HavePacking}
use Rattle.level_driver.proofs.KeyLemmas.{packed_next}
use Rattle.level_driver.proofs.found.Found.to_list.Goals as goal

pub push_unpacked-requires-clause-packing : goal.push_unpacked-requires-clause-packing
push_unpacked-requires-clause-packing c =
    let P : List ℕ → Type 0 = λ key. (M : Rep) × IsPackedAs (record { factors = c.args.factors.now; rank = c.args.rank; size = c.args.size }) key M in
    let keys : List (List ℕ) = c.self.inside.keys.keys in
    let e : keys ≡ c.args.self.now = c.self.view_is in
    let have : HavePacking (record { factors = c.args.factors.now; rank = c.args.rank; size = c.args.size }) keys =
    subst (HavePacking (record { factors = c.args.factors.now; rank = c.args.rank; size = c.args.size })) (sym e) c.requires.packings in
    let all : All P keys = λ k d l. have _ (Contains-get_or keys k d l) in
    All-turn deref P keys _ _ _ _ _ _ all (c.into_iter-key-iterator.ensures.into_iter_gives.0) c.loop-key.yielded_by c.in-Some.is c.next.ensures.steps

pub loop-key-preserved : goal.loop-key-preserved
loop-key-preserved c =
    packed_next (record { factors = c.args.factors.now; rank = c.args.rank; size = c.args.size }) c.loop-key.forms c.push_unpacked.new.self
    c.loop-key.yielded c.in-Some.key c.loop-key.invariant c.in_ok-push_unpacked.ensures

pub returns-clause-forms : goal.returns-clause-forms
returns-clause-forms c =
    let e : c.self.inside.keys.keys ≡ c.args.self.now = c.self.view_is in
    let all = iter_end deref c.self.inside.keys.keys c.loop-key.yielded
    _ _ _ _ c.into_iter-key-iterator.ensures.into_iter_gives.0 c.loop-key.yielded_by c.in-None.is c.next.ensures.steps in
    subst (λ (keys : List (List ℕ)).
    AllZip (λ M key. IsPackedAs (record { factors = c.args.factors.now; rank = c.args.rank; size = c.args.size }) key M) c.loop-key.forms keys) e
    (subst (λ (keys : List (List ℕ)).
    AllZip (λ M key. IsPackedAs (record { factors = c.args.factors.now; rank = c.args.rank; size = c.args.size }) key M) c.loop-key.forms keys)
    all.0 c.loop-key.invariant)

pub returns-clause-rising : goal.returns-clause-rising
returns-clause-rising c = subst (IsStrictlySortedBy (slice_cmp nat_cmp)) c.self.view_is c.into_iter-key-iterator.ensures.into_iter_gives.4
