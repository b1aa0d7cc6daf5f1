use Rattle.std.proofs.Common.{◌∙◌, ap, length, arith}
use Rattle.std.specs.Io.KnownBytes.{Appends}
use Rattle.outside.specs.Bytes.{AppendsFront}
use Rattle.macek_run.proofs.Entries.{tells}
use Rattle.macek_run.proofs.write.write_level.Goals as goal

pub returns-in-Ok-write_pieces-clause-ok : goal.returns-in-Ok-write_pieces-clause-ok
returns-in-Ok-write_pieces-clause-ok g c =
    tells c.args.request.now c.laws.ensures.forbidden.0 c.laws.ensures.forbidden.1 c.laws.ensures.wanted.0 c.laws.ensures.wanted.1
    (Appends (g.K.Sink.held c.args.sink.now) (g.K.Sink.held c.write_pieces.new.sink)) c.args.size c.args.front.now
    _ c.args.level.now.forms c.in-Ok.shown.items _ _ _ _ c.args.level.now.tried c.requires.forms c.requires.tried c.in-Ok.ensures
    (c.as_slice.ensures.value ∙ c.level_text-line.ensures) c.len.ensures
    (omega (arith, c.len-2.ensures, c.deref.ensures.len, ap length c.deref.ensures.value)) c.deref.ensures.value
    (λ e. c.printed_of-printed.ensures.forms (c.print.ensures ∙ e)) (λ e. c.printed_of-printed.ensures.counts (c.print.ensures ∙ e))
    c.in-Ok-write_pieces.ensures.ok

pub returns-clause-failed : goal.returns-clause-failed
returns-clause-failed g c = λ is.
    tells c.args.request.now c.laws.ensures.forbidden.0 c.laws.ensures.forbidden.1 c.laws.ensures.wanted.0 c.laws.ensures.wanted.1
    (AppendsFront (g.K.Sink.held c.args.sink.now) (g.K.Sink.held c.write_pieces.new.sink)) c.args.size c.args.front.now
    _ c.args.level.now.forms c.in-Ok.shown.items _ _ _ _ c.args.level.now.tried c.requires.forms c.requires.tried c.in-Ok.ensures
    (c.as_slice.ensures.value ∙ c.level_text-line.ensures) c.len.ensures
    (omega (arith, c.len-2.ensures, c.deref.ensures.len, ap length c.deref.ensures.value)) c.deref.ensures.value
    (λ e. c.printed_of-printed.ensures.forms (c.print.ensures ∙ e)) (λ e. c.printed_of-printed.ensures.counts (c.print.ensures ∙ e)) c.in-Err.ensures.err
