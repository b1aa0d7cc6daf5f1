use Rattle.std.proofs.Common.{◌≡◌, ℕ, ◌+◌, ◌<◌, sym, ◌∙◌, ap, subst, arith, add-one}
use Rattle.matroid_theory.specs.Rep.{Rep, size, matrix}
use Rattle.matroid_laws.proofs.Followed.{size_followed}
use Rattle.ask_run.specs.Layouts.{HasEntry}
use Rattle.ask_run.specs.Texts.{texts_of}
use Rattle.ask_run.proofs.Columns.{next_entries}
use Rattle.ask_run.proofs.entry.matrices_in.Goals as goal

pub loop-j-preserved : goal.loop-j-preserved
loop-j-preserved c =
    let L = c.args.layout.now in
    let P = c.loop-j.rep in
    let v = c.in_ok-column_in.field-0.items in
    let h = c.loop-j.invariant in
    let e = c.push_column.ensures in
    record {
      factors = ap (λ Q. Q.factors) e ∙ h.factors;
      rank = ap (λ Q. Q.rank) e ∙ h.rank;
      columns = ap size e ∙ size_followed P v ∙ sym (add-one (size P)) ∙ ap (λ (k : ℕ). k + 1) h.columns;
      entries = λ f i k l m o.
          subst (λ (Q : Rep). HasEntry (texts_of c.args.words.now) L f i k (matrix Q f i k)) (sym e)
          (next_entries (texts_of c.args.words.now) c.args.factors.now L P c.loop-j.j v h.factors c.requires.factors h.columns
          c.in_ok-column_in.ensures h.entries f i k l m o);
    }

pub returns : goal.returns
returns c =
    let h = c.loop-j.invariant in
    let e : c.loop-j.j ≡ c.args.layout.now.columns = omega (arith, c.loop-j-test.false, c.loop-j.auto.j-end) in
    record {
      shape_is = λ t. record { factors = h.factors t; rank = h.rank t; size = (h.columns ∙ e) t };
      entries = λ f i j l m n. h.entries f i j l m (subst (λ (k : ℕ). j < k) (sym e) n);
    }
