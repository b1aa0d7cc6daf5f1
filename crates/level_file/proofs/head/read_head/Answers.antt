use Rattle.std.proofs.Common.{◌<◌, length, sym, subst, arith, below_more}
use Rattle.formats.specs.Listing.{head_text}
use Rattle.resume_formats.specs.Heads.{IsHeadOf}
use Rattle.resume_formats.proofs.WholeHeads.{head_short, ends_there, ends_within}
use Rattle.level_file.proofs.head.read_head.Goals as goal

pub loop-end-preserved : goal.loop-end-preserved
loop-end-preserved c = below_more _ _ c.loop-end.invariant (λ q h. c.in_default.ensures q (subst (IsHeadOf q) (sym c.split_at.ensures.front) h))

pub returns : goal.returns
returns c = λ q b.
    let text = c.args.text.now in
    let short = head_short q b.asking b.stands in
    let within = ends_within q text b in
    let l : length (head_text q) < c.loop-end.end = omega (arith, short, within, c.min-most.ensures, c.loop-end-test.false) in
    c.loop-end.invariant (length (head_text q)) l q (ends_there q text b)
