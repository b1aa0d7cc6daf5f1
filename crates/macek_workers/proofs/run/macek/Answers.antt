use Rattle.std.proofs.Common.{◌≡◌, ◌∙◌, ℕ, false, List, None, Some, subst, inr, inl}
use Rattle.std.specs.Prelude.{unwrap_or}
use Rattle.formats.specs.Refusal.{HasRefusal}
use Rattle.formats.specs.Words.{StandsAtMacek, sample_text}
use Rattle.formats.proofs.Unique.{not_both}
use Rattle.command_words.specs.Asking.{IsAsked}
use Rattle.command_words.proofs.AskedTexts.{known_text}
use Rattle.macek_run.specs.Run.{texts_of}
use Rattle.macek_run.proofs.Runs.{left_known}
use Rattle.macek_workers.specs.Stored.{HasCallsBelow}
use Rattle.macek_workers.proofs.Words.{asked_from, none_lists, none_refused, sample_lists, no_sample, workers_asked}
use Rattle.macek_workers.proofs.run.macek.Goals as goal

pub returns-in-Some-clause-complete_refused : goal.returns-in-Some-clause-complete_refused
returns-in-Some-clause-complete_refused g c = λ text why asks wrong source.
    let words = texts_of c.args.words.now in
    let sample_is : c.in-Ok-Some.asked.sample ≡ Some c.in-Some.number = rw c.in-Ok-Some.field-0-is at c.in-Some.is in
    let asked : IsAsked StandsAtMacek words c.in-Ok-Some.asked.workers (Some c.in-Some.number) false =
    asked_from words _ _ _ c.in-Ok-Some.ensures.reads c.in-Ok-Some.field-0-is sample_is in
    let same : text ≡ sample_text c.in-Some.number = known_text words c.in-Ok-Some.asked.workers (Some c.in-Some.number) false asked _ text asks in
    absurd (not_both (sample_text c.in-Some.number) c.sample_request-request.result why c.sample_request-request.ensures
    (subst (λ (t : List ℕ). HasRefusal t why) same wrong))

pub returns-in-None-clause-sample : goal.returns-in-None-clause-sample
returns-in-None-clause-sample g c = λ named.
    let words = texts_of c.args.words.now in
    let sample_is : c.in-Ok-Some.asked.sample ≡ None = rw c.in-Ok-Some.field-0-is at c.in-None.is in
    let asked : IsAsked StandsAtMacek words c.in-Ok-Some.asked.workers None false =
    asked_from words _ _ _ c.in-Ok-Some.ensures.reads c.in-Ok-Some.field-0-is sample_is in
    absurd (no_sample words (g.S.Source.left c.args.source.now) c.in-Ok-Some.asked.workers asked named)

pub returns-in-None-clause-refused : goal.returns-in-None-clause-refused
returns-in-None-clause-refused g c = λ why is.
    let words = texts_of c.args.words.now in
    let sample_is : c.in-Ok-Some.asked.sample ≡ None = rw c.in-Ok-Some.field-0-is at c.in-None.is in
    let asked : IsAsked StandsAtMacek words c.in-Ok-Some.asked.workers None false =
    asked_from words _ _ _ c.in-Ok-Some.ensures.reads c.in-Ok-Some.field-0-is sample_is in
    let (leaves, faults, sink, store, levels) = c.list_source.ensures.refused why is in
    (none_refused words _ c.in-Ok-Some.asked.workers why asked leaves, faults, sink, store, levels)

pub returns-in-None-clause-complete : goal.returns-in-None-clause-complete
returns-in-None-clause-complete g c = λ text q asks stands source sink.
    let words = texts_of c.args.words.now in
    let sample_is : c.in-Ok-Some.asked.sample ≡ None = rw c.in-Ok-Some.field-0-is at c.in-None.is in
    let asked : IsAsked StandsAtMacek words c.in-Ok-Some.asked.workers None false =
    asked_from words _ _ _ c.in-Ok-Some.ensures.reads c.in-Ok-Some.field-0-is sample_is in
    c.list_source.ensures.complete text q (left_known _ text (known_text words c.in-Ok-Some.asked.workers None false asked _ text asks)) stands source sink

pub returns-in-None-clause-complete_refused : goal.returns-in-None-clause-complete_refused
returns-in-None-clause-complete_refused g c = λ text why asks wrong source.
    let words = texts_of c.args.words.now in
    let sample_is : c.in-Ok-Some.asked.sample ≡ None = rw c.in-Ok-Some.field-0-is at c.in-None.is in
    let asked : IsAsked StandsAtMacek words c.in-Ok-Some.asked.workers None false =
    asked_from words _ _ _ c.in-Ok-Some.ensures.reads c.in-Ok-Some.field-0-is sample_is in
    c.list_source.ensures.complete_refused text why (left_known _ text (known_text words c.in-Ok-Some.asked.workers None false asked _ text asks)) wrong source

pub returns-in-Some-clause-no_memory : goal.returns-in-Some-clause-no_memory
returns-in-Some-clause-no_memory g c = λ same.
    let words = texts_of c.args.words.now in
    let sample_is : c.in-Ok-Some.asked.sample ≡ Some c.in-Some.number = rw c.in-Ok-Some.field-0-is at c.in-Some.is in
    let asked : IsAsked StandsAtMacek words c.in-Ok-Some.asked.workers (Some c.in-Some.number) false =
    asked_from words _ _ _ c.in-Ok-Some.ensures.reads c.in-Ok-Some.field-0-is sample_is in
    let (gains, closed) = c.write_listing.ensures.no_memory same in
    inr (sample_lists words _ c.in-Ok-Some.asked.workers c.in-Some.number c.sample_request-request.result _ _ _ asked c.sample_request-request.ensures
    (record { written = gains.written; gained = gains.gained; part = (gains.part, closed) }))

pub returns-in-None-clause-no_memory : goal.returns-in-None-clause-no_memory
returns-in-None-clause-no_memory g c = λ same.
    let words = texts_of c.args.words.now in
    let sample_is : c.in-Ok-Some.asked.sample ≡ None = rw c.in-Ok-Some.field-0-is at c.in-None.is in
    let asked : IsAsked StandsAtMacek words c.in-Ok-Some.asked.workers None false =
    asked_from words _ _ _ c.in-Ok-Some.ensures.reads c.in-Ok-Some.field-0-is sample_is in
    elim (c.list_source.ensures.no_memory same) [
      | inl nothing ↦ inl nothing
      | inr lists ↦ inr (none_lists words _ c.in-Ok-Some.asked.workers _ _ _ asked lists)
    ]

pub returns-in-Some-clause-callers : goal.returns-in-Some-clause-callers
returns-in-Some-clause-callers g c = λ n ask.
    let words = texts_of c.args.words.now in
    let sample_is : c.in-Ok-Some.asked.sample ≡ Some c.in-Some.number = rw c.in-Ok-Some.field-0-is at c.in-Some.is in
    let asked : IsAsked StandsAtMacek words c.in-Ok-Some.asked.workers (Some c.in-Some.number) false =
    asked_from words _ _ _ c.in-Ok-Some.ensures.reads c.in-Ok-Some.field-0-is sample_is in
    let workers_are : c.workers_of-workers.result ≡ unwrap_or c.in-Ok-Some.asked.workers 4 = rw c.in-Ok-Some.field-0-is at c.workers_of-workers.ensures.is in
    subst (λ (m : ℕ). HasCallsBelow m c.args.store.now c.write_listing.new.store)
    (workers_are ∙ workers_asked words (g.S.Source.left c.args.source.now) c.in-Ok-Some.asked.workers (Some c.in-Some.number) n asked ask)
    c.write_listing.ensures.callers

pub returns-in-None-clause-callers : goal.returns-in-None-clause-callers
returns-in-None-clause-callers g c = λ n ask.
    let words = texts_of c.args.words.now in
    let sample_is : c.in-Ok-Some.asked.sample ≡ None = rw c.in-Ok-Some.field-0-is at c.in-None.is in
    let asked : IsAsked StandsAtMacek words c.in-Ok-Some.asked.workers None false =
    asked_from words _ _ _ c.in-Ok-Some.ensures.reads c.in-Ok-Some.field-0-is sample_is in
    let workers_are : c.workers_of-workers.result ≡ unwrap_or c.in-Ok-Some.asked.workers 4 = rw c.in-Ok-Some.field-0-is at c.workers_of-workers.ensures.is in
    subst (λ (m : ℕ). HasCallsBelow m c.args.store.now c.list_source.new.store)
    (workers_are ∙ workers_asked words (g.S.Source.left c.args.source.now) c.in-Ok-Some.asked.workers None n asked ask)
    c.list_source.ensures.callers
