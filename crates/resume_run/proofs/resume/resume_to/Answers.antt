use Rattle.std.proofs.Common.{◌≡◌, ◌∙◌, ℕ, List, refl, sym, subst, arith, ap, inl, inr}
use Rattle.resume_formats.specs.declared.fault.LevelFault.{LevelFault}
use Rattle.resume_formats.specs.declared.status.ResumeStatus.TheVariants.{BadListing}
use Rattle.resume_formats.specs.Fault.{HasFaultFor}
use Rattle.resume_formats.specs.Resumed.{CanResume, LeavesFault}
use Rattle.resume_formats.proofs.FaultLemmas.{fault_for_same, resumed_never_faulty}
use Rattle.resume_run.specs.declared.resume.ResumeReport.{ResumeReport}
use Rattle.macek_run.proofs.Runs.{text_taken}
use Rattle.resume_run.proofs.Runs.{fault_taken, leaves_fault, resumed_taken, resumes_taken, told_text}
use Rattle.resume_run.proofs.resume.resume_to.Goals as goal

one_why : (v w : LevelFault) → BadListing v ≡ BadListing w → v ≡ w
one_why v w e = cc (e)

pub returns-in-Err-Bad-clause-bad_listing : goal.returns-in-Err-Bad-clause-bad_listing
returns-in-Err-Bad-clause-bad_listing g c = λ why is.
    let bytes = c.in-Ok.text.items in
    let taken = text_taken _ _ _ _ c.in-Ok.ensures.ok in
    let faulty : HasFaultFor c.args.size bytes c.in-Err-Bad.why = rw (← c.deref.ensures.value) (rw c.in-Err-Bad.field-0-is at c.in-Err-Bad.ensures.err) in
    let made = c.nothing-in-Err-Bad.ensures in
    let status : c.nothing-in-Err-Bad.result.status ≡ BadListing c.in-Err-Bad.why = rw c.in-Err-Bad.field-0-is at (ap (λ (r : ResumeReport). r.status) made) in
    let same : c.in-Err-Bad.why ≡ why = one_why c.in-Err-Bad.why why (sym status ∙ is) in (
      subst (λ r. LeavesFault c.args.size (g.S.Source.left c.args.source.now) r) same (leaves_fault c.args.size _ bytes taken c.in-Err-Bad.why faulty),
      c.in-Ok.ensures.kept,
      refl,
      ap (λ (r : ResumeReport). r.levels) made,
    )

pub returns-in-Err-Bad-clause-complete : goal.returns-in-Err-Bad-clause-complete
returns-in-Err-Bad-clause-complete g c = λ text q left can source sink.
    let bytes = c.in-Ok.text.items in
    let taken = text_taken _ _ _ _ c.in-Ok.ensures.ok in
    let faulty : HasFaultFor c.args.size bytes c.in-Err-Bad.why = rw (← c.deref.ensures.value) (rw c.in-Err-Bad.field-0-is at c.in-Err-Bad.ensures.err) in
    absurd (resumed_never_faulty c.args.size taken.text q c.in-Err-Bad.why
    (subst (λ (t : List ℕ). CanResume c.args.size t q) (sym (told_text c.args.size _ bytes taken text left)) can)
    (fault_taken c.args.size _ bytes taken c.in-Err-Bad.why faulty))

pub returns-in-Err-Bad-clause-complete_bad : goal.returns-in-Err-Bad-clause-complete_bad
returns-in-Err-Bad-clause-complete_bad g c = λ text why left wrong source.
    let bytes = c.in-Ok.text.items in
    let taken = text_taken _ _ _ _ c.in-Ok.ensures.ok in
    let faulty : HasFaultFor c.args.size bytes c.in-Err-Bad.why = rw (← c.deref.ensures.value) (rw c.in-Err-Bad.field-0-is at c.in-Err-Bad.ensures.err) in
    let same = fault_for_same c.args.size taken.text c.in-Err-Bad.why why (fault_taken c.args.size _ bytes taken c.in-Err-Bad.why faulty)
    (subst (λ (t : List ℕ). HasFaultFor c.args.size t why) (sym (told_text c.args.size _ bytes taken text left)) wrong) in
    let status : c.nothing-in-Err-Bad.result.status ≡ BadListing c.in-Err-Bad.why =
    rw c.in-Err-Bad.field-0-is at (ap (λ (r : ResumeReport). r.status) c.nothing-in-Err-Bad.ensures) in
    inl (status ∙ ap BadListing same)

pub returns-clause-write_fault : goal.returns-clause-write_fault
returns-clause-write_fault g c = λ same.
    let bytes = c.in-Ok.text.items in
    let taken = text_taken _ _ _ _ c.in-Ok.ensures.ok in
    let q = c.in-Ok-read_start.start.request in
    let can : CanResume c.args.size bytes q = rw (← c.deref.ensures.value) c.in-Ok-read_start.ensures.ok.can in
    let (gains, rose) = c.write_listing.ensures.write_fault same in
    (resumes_taken c.args.size _ bytes taken _ _ _ q can gains, rose, c.in-Ok.ensures.kept)

pub returns-clause-no_memory : goal.returns-clause-no_memory
returns-clause-no_memory g c = λ same.
    let bytes = c.in-Ok.text.items in
    let taken = text_taken _ _ _ _ c.in-Ok.ensures.ok in
    let q = c.in-Ok-read_start.start.request in
    let can : CanResume c.args.size bytes q = rw (← c.deref.ensures.value) c.in-Ok-read_start.ensures.ok.can in
    inr (resumes_taken c.args.size _ bytes taken _ _ _ q can (c.write_listing.ensures.no_memory same))

pub returns-clause-done : goal.returns-clause-done
returns-clause-done g c = λ same.
    let bytes = c.in-Ok.text.items in
    let taken = text_taken _ _ _ _ c.in-Ok.ensures.ok in
    let q = c.in-Ok-read_start.start.request in
    let can : CanResume c.args.size bytes q = rw (← c.deref.ensures.value) c.in-Ok-read_start.ensures.ok.can in
    let (gains, levels, kept) = c.write_listing.ensures.done same in (
      resumes_taken c.args.size _ bytes taken _ _ _ q can (record { written = gains.written; gained = gains.gained; part = (gains.part, levels) }),
      (let short = can.can_start.short in c.in-Ok.ensures.ok.whole (omega arith)),
      c.in-Ok.ensures.kept,
      kept,
    )

pub returns-clause-complete_bad : goal.returns-clause-complete_bad
returns-clause-complete_bad g c = λ text why left wrong source.
    let bytes = c.in-Ok.text.items in
    let taken = text_taken _ _ _ _ c.in-Ok.ensures.ok in
    let q = c.in-Ok-read_start.start.request in
    let can : CanResume c.args.size bytes q = rw (← c.deref.ensures.value) c.in-Ok-read_start.ensures.ok.can in
    absurd (resumed_never_faulty c.args.size taken.text q why (resumed_taken c.args.size _ bytes taken q can)
    (subst (λ (t : List ℕ). HasFaultFor c.args.size t why) (sym (told_text c.args.size _ bytes taken text left)) wrong))
