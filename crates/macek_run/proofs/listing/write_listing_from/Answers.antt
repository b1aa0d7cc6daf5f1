use Rattle.std.proofs.Common.{◌≡◌, ◌∙◌, ◌+◌, ℕ, List, subst, arith}
use Rattle.outside.specs.Bytes.{AppendsFront}
use Rattle.outside.specs.Causes.{Rose}
use Rattle.formats.specs.Listing.{level_count}
use Rattle.formats.specs.Levels.{IsListingCutOff}
use Rattle.formats.specs.Run.{Gains}
use Rattle.macek_run.proofs.Begun.{end_cut}
use Rattle.macek_run.proofs.listing.write_listing_from.Goals as goal

pub returns-in-Err-put-clause-write_fault : goal.returns-in-Err-put-clause-write_fault
returns-in-Err-put-clause-write_fault g c = λ same.
    let held = g.K.Sink.held in
    let q = c.args.request.now in
    let all : level_count q ≡ c.from-levels.result + 1 = omega (arith, c.laws.ensures.limits.size) in
    let failed = subst (λ (piece : List ℕ). AppendsFront (held c.write_levels.new.sink) (held c.put.new.sink) piece)
    (c.as_slice.ensures.value ∙ c.end_text.ensures) c.in-Err-put.ensures.err in (
      subst (λ n. Gains (held c.args.sink.now) (held c.put.new.sink) (IsListingCutOff q n)) all
          (end_cut q (held c.args.sink.now) (held c.write_levels.new.sink) (held c.put.new.sink) c.in-Ok.ensures.ok
          (omega (arith, c.laws.ensures.limits.size)) failed),
      subst (λ before. Rose before (g.K.Sink.faults c.put.new.sink)) c.in-Ok.ensures.kept c.in-Err-put.ensures.cause.failed,
    )
