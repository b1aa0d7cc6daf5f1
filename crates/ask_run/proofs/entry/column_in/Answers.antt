use Rattle.std.proofs.Common.{ℕ, ◌/◌, ◌%◌, ◌<◌, ap, arith, List, ◌∷◌, [], length, length-append, slice_index}
use Rattle.ask_run.specs.Layouts.{HasEntry}
use Rattle.ask_run.specs.Texts.{texts_of}
use Rattle.ask_run.proofs.Columns.{is_column, one_more, row_below, factor_below}
use Rattle.ask_run.proofs.entry.column_in.Goals as goal

pub returns-in_err-entry_in : goal.returns-in_err-entry_in
returns-in_err-entry_in c =
    let L = c.args.layout.now in
    rw c.from_residual.ensures record {
      factor = c.loop-at.at % L.factors;
      row = c.loop-at.at / L.factors;
      factor_below = factor_below L.factors c.loop-at.at c.requires.layout.some;
      row_below = row_below L.rows L.factors c.loop-at.at c.requires.layout.some c.loop-at-test.true;
      none = c.in_err-entry_in.ensures;
    }

pub loop-at-preserved : goal.loop-at-preserved
loop-at-preserved c =
    let L = c.args.layout.now in
    let xs = c.loop-at.column.items in
    record {
      rows = omega (arith, ap (λ (ys : List ℕ). length ys) c.push.ensures.items, length-append xs (c.in_ok-entry_in.field-0 ∷ []), c.loop-at.invariant.rows);
      entries = one_more (λ k x. (x < slice_index c.args.factors.now (k % L.factors))
          × HasEntry (texts_of c.args.words.now) L (k % L.factors) (k / L.factors) c.args.j x)
          xs c.push.new.self.items c.loop-at.at c.in_ok-entry_in.field-0 c.loop-at.invariant.rows c.push.ensures.items
          c.loop-at.invariant.entries c.in_ok-entry_in.ensures;
    }

pub returns : goal.returns
returns c =
    is_column (texts_of c.args.words.now) c.args.factors.now c.args.layout.now c.args.j c.loop-at.at c.loop-at.column.items c.loop-at.invariant.rows
    (omega (arith, c.loop-at-test.false, c.loop-at.auto.at-end)) c.loop-at.invariant.entries
