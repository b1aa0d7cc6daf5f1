use Rattle.std.proofs.Common.{◌≡◌, subst, inl, inr}
use Rattle.resume_formats.specs.Fault.{HasFaultFor}
use Rattle.resume_formats.specs.Resumed.{CanResume}
use Rattle.macek_run.specs.Run.{texts_of}
use Rattle.resume_run.proofs.Runs.{one_size, asked_resumes, asked_fault}
use Rattle.resume_run.proofs.resume.resume_alone.Goals as goal

pub returns-in-Some-clause-usage : goal.returns-in-Some-clause-usage
returns-in-Some-clause-usage g c = (λ same. absurd (c.resume_to.ensures.usage same), λ none. absurd (none c.in-Some.size c.in-Some.ensures))

pub returns-in-Some-clause-bad_listing : goal.returns-in-Some-clause-bad_listing
returns-in-Some-clause-bad_listing g c = λ why is.
    let (leaves, faults, sink, levels) = c.resume_to.ensures.bad_listing why is in
    (asked_fault (texts_of c.args.words.now) c.in-Some.size c.in-Some.ensures _ why leaves, faults, sink, levels)

pub returns-in-Some-clause-write_fault : goal.returns-in-Some-clause-write_fault
returns-in-Some-clause-write_fault g c = λ same.
    let (resumed, rose, faults) = c.resume_to.ensures.write_fault same in
    (asked_resumes (texts_of c.args.words.now) c.in-Some.size c.in-Some.ensures _ _ _ _ resumed, rose, faults)

pub returns-in-Some-clause-no_memory : goal.returns-in-Some-clause-no_memory
returns-in-Some-clause-no_memory g c = λ same.
    elim (c.resume_to.ensures.no_memory same) [
      | inl nothing ↦ inl nothing
      | inr resumed ↦ inr (asked_resumes (texts_of c.args.words.now) c.in-Some.size c.in-Some.ensures _ _ _ _ resumed)
    ]

pub returns-in-Some-clause-done : goal.returns-in-Some-clause-done
returns-in-Some-clause-done g c = λ same.
    let (resumed, at_end, faults, kept) = c.resume_to.ensures.done same in
    (asked_resumes (texts_of c.args.words.now) c.in-Some.size c.in-Some.ensures _ _ _ _ resumed, at_end, faults, kept)

pub returns-in-Some-clause-complete : goal.returns-in-Some-clause-complete
returns-in-Some-clause-complete g c = λ size text q asked left can source sink.
    let same : size ≡ c.in-Some.size = one_size (texts_of c.args.words.now) size c.in-Some.size asked c.in-Some.ensures in
    c.resume_to.ensures.complete text q left (subst (λ n. CanResume n text q) same can) source sink

pub returns-in-Some-clause-complete_bad : goal.returns-in-Some-clause-complete_bad
returns-in-Some-clause-complete_bad g c = λ size text why asked left wrong source.
    let same : size ≡ c.in-Some.size = one_size (texts_of c.args.words.now) size c.in-Some.size asked c.in-Some.ensures in
    c.resume_to.ensures.complete_bad text why left (subst (λ n. HasFaultFor n text why) same wrong) source
