use Rattle.std.proofs.Common.{ℕ, ◌*◌, ◌<◌, ◌≤◌, length, subst, sym, arith}
use Rattle.extension.specs.Steps.{IsLead, IsRaised}
use Rattle.extension.proofs.Nexts.{places_most, rise_small, last_normalised, next_normalised}
use Rattle.extension.proofs.normalised.following.Goals as goal

pub returns-in_err-place : goal.returns-in_err-place
returns-in_err-place c =
    rw c.from_residual.ensures
    (last_normalised c.args.factors.now c.count-count.ensures.are_factors c.args.rank c.args.column.now c.lead-lead.result c.args.rows
    c.requires.rows c.requires.start
    (subst (λ (n : ℕ). IsLead n c.args.rank c.args.column.now c.lead-lead.result) c.count-count.ensures.count c.lead-lead.ensures) (c.in_err-place.ensures))

pub raised-requires-clause-code : goal.raised-requires-clause-code
raised-requires-clause-code c = rise_small c.args.factors.now c.count-count.ensures.are_factors c.args.rank c.args.column.now
    c.lead-lead.result c.in_ok-place.place c.in_ok-place.ensures.can_rise

pub returns : goal.returns
returns c =
    next_normalised c.args.factors.now c.count-count.ensures.are_factors c.args.rank c.args.column.now c.raised.result.items
    c.lead-lead.result c.in_ok-place.place c.args.rows c.requires.rows c.requires.start
    (subst (λ (n : ℕ). IsLead n c.args.rank c.args.column.now c.lead-lead.result) c.count-count.ensures.count c.lead-lead.ensures) (c.in_ok-place.ensures)
    (subst (λ (n : ℕ). IsRaised n (c.args.rank * n) c.in_ok-place.place c.args.column.now c.raised.result.items) c.count-count.ensures.count c.raised.ensures)

pub raised-requires-clause-place : goal.raised-requires-clause-place
raised-requires-clause-place c =
    let l : c.in_ok-place.place < c.args.rows * length c.args.factors.now = c.in_ok-place.ensures.place_below in
    let m : c.args.rows * length c.args.factors.now ≤ c.args.rank * length c.args.factors.now =
    places_most c.args.factors.now c.count-count.ensures.are_factors c.args.rank c.args.rows c.requires.rows in
    subst (λ (n : ℕ). c.in_ok-place.place < c.args.rank * n) (sym c.count-count.ensures.count) (omega arith)
