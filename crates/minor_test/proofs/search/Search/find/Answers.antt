use Rattle.std.proofs.Common.{◌≡◌, length, arith, sym, ◌∙◌, refl}
use Rattle.std.proofs.lemmas.Bool.{false≢true}
use Rattle.std.proofs.lemmas.List.{get_or-set_same}
use Rattle.minor_test.proofs.Contracted.{contracted_independent, empty_alike, begins}
use Rattle.minor_test.proofs.search.Search.find.Goals as goal

pub returns-then-not-may_be_contracted-clause-none : goal.returns-then-not-may_be_contracted-clause-none
returns-then-not-may_be_contracted-clause-none c _ f _ h = false≢true (sym c.if-not-may_be_contracted.true ∙ c.may_be_contracted.ensures.1 (
  h.contracted,
  contracted_independent c.args.self.now.sought.now c.args.self.now.whole.now c.args.self.now.contracted c.laws.ensures f h,
  empty_alike c.args.self.now.sought.now c.args.self.now.whole.now c.args.self.now.contracted f h,
))

pub complete-requires-clause-images : goal.complete-requires-clause-images
complete-requires-clause-images c =
    let w = c.may_be_contracted.ensures.0 c.if-not-may_be_contracted.false in
    let s : length c.args.sets.now ≡ 1024 = c.requires.sets in
    begins c.args.self.now.sought.now c.args.self.now.whole.now c.args.self.now.contracted c.requires.set
    (record { list = c.new.result; used = c.args.self.now.contracted }) _ c.new.ensures refl
    (get_or-set_same c.args.sets.now 0 c.args.self.now.contracted 0 (omega arith)) w.0 w.2
