use Rattle.std.proofs.Common.{◌≡◌, ℕ, ◌+◌, List, [], ◌∷◌, ◌++◌, take, get_or, sym, ◌∙◌, ap, subst}
use Rattle.std.specs.List.{AllZip}
use Rattle.std.proofs.lemmas.List.{take_more}
use Rattle.std.proofs.lemmas.Option.{get_or_from_slice_get, slice_get_within}
use Rattle.matroid_theory.specs.Rep.{Shape}
use Rattle.form_key.specs.Packing.{IsPackedAs}
use Rattle.level_driver.proofs.KeyLemmas.{packed_more}
use Rattle.level_driver.proofs.NextLevel.{inside}
use Rattle.workers.proofs.forms.forms_of.Goals as goal

pub push_unpacked-requires-clause-packing : goal.push_unpacked-requires-clause-packing
push_unpacked-requires-clause-packing c = c.requires.packings c.in-Some.key.now (inside c.args.keys.now c.loop-i.i c.in-Some.key.now c.in-Some.ensures)

pub loop-i-preserved : goal.loop-i-preserved
loop-i-preserved c =
    let s : Shape = record { factors = c.args.factors.now; rank = c.args.rank; size = c.args.size } in
    let keys : List (List ℕ) = c.args.keys.now in
    let key : List ℕ = c.in-Some.key.now in
    let i : ℕ = c.loop-i.i in
    let same : get_or keys i key ≡ key = get_or_from_slice_get keys i key key c.in-Some.ensures in
    let more : take (i + 1) keys ≡ take i keys ++ key ∷ [] =
    take_more keys i key (slice_get_within keys i key c.in-Some.ensures) ∙ ap (λ (k : List ℕ). take i keys ++ k ∷ []) same in
    let (M, p, is) = c.in_ok-push_unpacked.ensures in
    subst (AllZip (λ M key. IsPackedAs s key M) c.push_unpacked.new.self) (sym more)
    (packed_more s c.loop-i.forms c.push_unpacked.new.self (take i keys) M key c.loop-i.invariant p is)
