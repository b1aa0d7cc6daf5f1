use Rattle.std.proofs.Common.{ℕ, sym, ◌∙◌, subst, arith, refl, List, length, inl, inr}
use Rattle.std.proofs.lemmas.Bool.{cases_lt}
use Rattle.base_iso.specs.Started.{Begins}
use Rattle.base_iso.proofs.Places.{place}
use Rattle.base_iso.proofs.Whole.{whole}
use Rattle.base_iso.proofs.Cuts.{begins_more}
use Rattle.base_iso.proofs.search.+try_labels.Goals as goal
use Rattle.base_iso.proofs.search.+try_labels.Goals.{in-Some+in_default-try_labels, in_default}

pub returns-then-len-from-clause-found : goal.returns-then-len-from-clause-found
returns-then-len-from-clause-found t c = (
  place c.args.labels.items,
  whole c.args.a.now c.args.b.now c.size.ensures.is_base_list c.requires.alike c.args.labels.items c.requires.labels
      (sym c.len.ensures.value ∙ c.if-len-from.true ∙ c.from.ensures ∙ c.size.ensures.value) c.requires.bases,
)

pub loop-label-preserved : goal.loop-label-preserved
loop-label-preserved t c p u s l i =
    elim (cases_lt (p (length c.args.labels.items)) c.loop-label.label) [
      | inl b ↦ c.loop-label.invariant p u s b i
      | inr g ↦ elim c.match-extended.branch [
        | in-Some+in_default-try_labels w ↦
            w.in_default-try_labels.ensures.none refl p u
            (subst (λ (xs : List ℕ). Begins xs p) (sym w.in-Some.ensures.labels)
            (begins_more c.args.labels.items c.loop-label.label p s (omega arith))) i
        | in_default w ↦ w.in_default.ensures.none refl p u (begins_more c.args.labels.items c.loop-label.label p s (omega arith)) i
      ]
    ]
