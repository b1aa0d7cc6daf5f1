use Rattle.std.proofs.Common.{◌≡◌, ◌∙◌, ℕ, List, refl, sym, subst, ap, inl}
use Rattle.macek_run.specs.declared.run.Report.{Report}
use Rattle.formats.specs.declared.refusal.Status.TheVariants.{Refused}
use Rattle.formats.specs.Request.{StandsFor}
use Rattle.formats.specs.Refusal.{HasRefusal}
use Rattle.formats.proofs.Unique.{not_both, refusal_same}
use Rattle.macek_run.specs.Run.{LeavesRefused}
use Rattle.macek_run.proofs.Runs.{text_taken, accepted_taken, text_refused, refused_taken, told, one_why}
use Rattle.macek_workers.proofs.run.list_source.Goals as goal

pub returns-in-Err-clause-refused : goal.returns-in-Err-clause-refused
returns-in-Err-clause-refused g c = λ why is.
    let taken = text_taken _ _ _ _ c.in-Ok.ensures.ok in
    let refused : HasRefusal c.in-Ok.text.items c.in-Err.refusal = rw (← c.deref.ensures.value) c.in-Err.ensures.err in
    let made = c.nothing-in-Err.ensures in
    let status : c.nothing-in-Err.result.status ≡ Refused c.in-Err.refusal = ap (λ (r : Report). r.status) made in
    let same : c.in-Err.refusal ≡ why = one_why c.in-Err.refusal why (sym status ∙ is) in (
      subst (λ r. LeavesRefused (g.S.Source.left c.args.source.now) r) same
          (refused_taken _ c.in-Ok.text.items taken c.in-Err.refusal refused),
      c.in-Ok.ensures.kept,
      refl,
      refl,
      ap (λ (r : Report). r.levels) made,
    )

pub returns-in-Err-clause-complete : goal.returns-in-Err-clause-complete
returns-in-Err-clause-complete g c = λ text q left stands source sink.
    let taken = text_taken _ _ _ _ c.in-Ok.ensures.ok in
    let refused : HasRefusal c.in-Ok.text.items c.in-Err.refusal = rw (← c.deref.ensures.value) c.in-Err.ensures.err in
    let all_refused = text_refused _ c.in-Ok.text.items taken c.in-Err.refusal refused in
    absurd (not_both taken.text q c.in-Err.refusal (subst (λ (t : List ℕ). StandsFor t q) (sym (told _ c.in-Ok.text.items taken text left)) stands) all_refused)

pub returns-in-Err-clause-complete_refused : goal.returns-in-Err-clause-complete_refused
returns-in-Err-clause-complete_refused g c = λ text why left wrong source.
    let taken = text_taken _ _ _ _ c.in-Ok.ensures.ok in
    let refused : HasRefusal c.in-Ok.text.items c.in-Err.refusal = rw (← c.deref.ensures.value) c.in-Err.ensures.err in
    let all_refused = text_refused _ c.in-Ok.text.items taken c.in-Err.refusal refused in
    let same = refusal_same taken.text c.in-Err.refusal why all_refused
    (subst (λ (t : List ℕ). HasRefusal t why) (sym (told _ c.in-Ok.text.items taken text left)) wrong) in
    let status : c.nothing-in-Err.result.status ≡ Refused c.in-Err.refusal = ap (λ (r : Report). r.status) c.nothing-in-Err.ensures in
    inl (status ∙ ap Refused same)

pub returns-clause-complete_refused : goal.returns-clause-complete_refused
returns-clause-complete_refused g c = λ text why left wrong source.
    let taken = text_taken _ _ _ _ c.in-Ok.ensures.ok in
    let q = c.in-Ok-read_request.request in
    let stands : StandsFor c.in-Ok.text.items q = rw (← c.deref.ensures.value) c.in-Ok-read_request.ensures.ok in
    absurd (not_both taken.text q why (accepted_taken _ c.in-Ok.text.items taken q stands)
    (subst (λ (t : List ℕ). HasRefusal t why) (sym (told _ c.in-Ok.text.items taken text left)) wrong))
