use Rattle.std.proofs.Common.{◌≡◌, ◌+◌, List, ℕ, [], ap, ◌∙◌, get_or}
use Rattle.std.proofs.lemmas.List.{get_or_default}
use Rattle.class_store.specs.Seen.{calls_with}
use Rattle.workers.specs.Keys.{times}
use Rattle.workers.proofs.Calls.{batch_calls}
use Rattle.workers.proofs.batches.offer_stripe.Goals as goal

pub returns-clause-calls : goal.returns-clause-calls
returns-clause-calls g c = λ key.
    let keys : List (List ℕ) = c.replace-batch.result in
    let same : keys ≡ get_or c.args.batches.now c.args.stripe [] = c.replace-batch.ensures.value
    ∙ get_or_default c.args.batches.now c.args.stripe c.index-batches-stripe.result [] c.requires.stripe in
    batch_calls c.args.pass.now c.offer_batch.new.pass c.args.stripe keys c.in_default.field-0 c.in_default.ensures.offered key
    ∙ ap (λ (l : List (List ℕ)). calls_with key c.args.pass.now + times key l) same
