use Rattle.std.proofs.Common.{◌≡◌, ◌<◌, ◌-◌, ℕ, suc, List, Option, IfSome, length, slice_index, sym, subst, arith}
use Rattle.matroid_theory.specs.Rep.{Rep}
use Rattle.form_search.specs.Search.{IsFrame, Covers, numbers_of}
use Rattle.form_states.specs.States.{IsShapeOf, entries_of}
use Rattle.fast_form.proofs.Owned.{own_classes}
use Rattle.form_states.proofs.Shapes.{shaped}
use Rattle.fast_form.proofs.Begun.{zero_test_is, first_frame}
use Rattle.fast_form.proofs.form.found.Goals as goal

last_row : (M : Rep) (fields : List ℕ) (factors rank total : ℕ) → IsShapeOf M fields factors rank total → M.rank ≡ suc (rank - 1)
last_row M fields factors rank total h = let p : 0 < M.rank = (let r = h.is_rep in r.rank_positive) in let e : rank ≡ M.rank = h.rank_is in omega arith

pub zero_numbers-settled-requires-clause-test : goal.zero_numbers-settled-requires-clause-test
zero_numbers-settled-requires-clause-test c =
    zero_test_is c.args.rep.now c.args.shape.now.fields c.args.shape.now.count c.args.shape.now.rank c.args.shape.now.size c.requires
    c.columns_of-columns.result c.nonzero_marks-marks.result c.columns_of-columns.ensures.columns c.nonzero_marks-marks.ensures.zeros
    c.nonzero_marks-marks.ensures.nonzero

pub rows-better-requires-clause-state : goal.rows-better-requires-clause-state
rows-better-requires-clause-state c = (
  c.zero_numbers-settled.ensures.trail,
  subst (λ k. IsFrame c.args.rep.now k (slice_index c.first_groups-groups.result) c.zero_numbers-settled.result
      (entries_of c.args.rep.now c.normalised_columns-after.result c.nonzero_marks-marks.result) c.zero_numbers-settled.ensures.trail)
      (last_row _ _ _ _ _ c.requires)
      (first_frame c.args.rep.now c.args.shape.now.fields c.args.shape.now.count c.args.shape.now.rank c.args.shape.now.size c.requires
      c.columns_of-columns.result c.nonzero_marks-marks.result c.columns_of-columns.ensures.columns c.nonzero_marks-marks.ensures.zeros
      c.nonzero_marks-marks.ensures.nonzero
      (slice_index c.first_groups-groups.result) c.zero_numbers-settled.result c.normalised_columns-after.result c.normalised_columns-after.ensures.normalised
      c.zero_numbers-settled.ensures),
)

pub returns-clause-covers : goal.returns-clause-covers
returns-clause-covers c q m N r =
    c.zero_numbers-settled.ensures.covers c.rows-better.new.best
    (subst (λ k. Covers c.args.rep.now c.zero_numbers-settled.ensures.trail k (length c.zero_numbers-settled.result) c.rows-better.new.best)
    (sym (last_row _ _ _ _ _ c.requires))
    (c.rows-better.ensures.covers q c.zero_numbers-settled.ensures.trail
    (subst (λ k. IsFrame c.args.rep.now k (slice_index c.first_groups-groups.result) c.zero_numbers-settled.result
    (entries_of c.args.rep.now c.normalised_columns-after.result c.nonzero_marks-marks.result) c.zero_numbers-settled.ensures.trail)
    (last_row _ _ _ _ _ c.requires)
    (first_frame c.args.rep.now c.args.shape.now.fields c.args.shape.now.count c.args.shape.now.rank c.args.shape.now.size c.requires
    c.columns_of-columns.result c.nonzero_marks-marks.result c.columns_of-columns.ensures.columns c.nonzero_marks-marks.ensures.zeros
    c.nonzero_marks-marks.ensures.nonzero
    (slice_index c.first_groups-groups.result) c.zero_numbers-settled.result c.normalised_columns-after.result c.normalised_columns-after.ensures.normalised
    c.zero_numbers-settled.ensures)))) m N r

pub rows-better-requires-clause-sound : goal.rows-better-requires-clause-sound
rows-better-requires-clause-sound c = own_classes c.args.rep.now (shaped _ _ _ _ _ c.requires) c.requires.standard c.first_best-best.result
    c.first_best-best.ensures.own

pub returns-clause-own : goal.returns-clause-own
returns-clause-own c e = subst (λ (o : Option (List ℕ)). IfSome o (λ least. least ≡ numbers_of c.args.rep.now c.args.rep.now))
    (sym (c.rows-better.ensures.improves.kept e)) c.first_best-best.ensures.own
