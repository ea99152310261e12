use mathlib.Core.Path.{sym, ap, ◌∙◌}
use native.Mathlib.Omega.{arith}
use Rattle.settings.specs.declared.Reading.{Reading}
use Rattle.settings.specs.Settings.{in_range}
use Rattle.settings.specs.Record.{reading_of}
use Rattle.settings.proofs.Ranges.{read-in-range}
use Rattle.lines.specs.Listing.{settings_refused_of}
use Rattle.lines.proofs.Puts.{put-at}
use Rattle.lines.proofs.Whole.{put_whole}
use Rattle.board.specs.State.{reset_to}
use Rattle.event_log.specs.Output.{output_from}
use Rattle.event_log.proofs.Outputs.{accepted-plays, refused_says}
use Rattle.program.proofs.Whole.{first}
use Rattle.replay.proofs.output_with.Goals as goal

pub output_from-requires : goal.output_from-requires
output_from-requires c = ap (λ (y : Reading). in_range y.settings) (sym (ap reading_of c.in-Ok.is) ∙ c.accepted.ensures) ∙ read-in-range c.args.bytes.now

pub returns-in-Ok : goal.returns-in-Ok
returns-in-Ok c =
    let e = sym (ap reading_of c.in-Ok.is) ∙ c.accepted.ensures in
    let plays = ap (λ (y : Reading). output_from (reset_to y.settings) c.args.log.now) e ∙ sym (accepted-plays c.args.bytes.now (sym (ap (λ (y : Reading). y.answer) e)) c.args.log.now) in
    c.output_from.ensures ∙ plays

pub returns-in-Err : goal.returns-in-Err
returns-in-Err c =
    let r = c.in-Err.refusal in
    let e = sym (ap reading_of c.in-Err.is) ∙ c.accepted.ensures in
    let says = first _ _ _ _ (put_whole (settings_refused_of r) c.args.out.now c.refused-n.new.out c.refused-n.result (put-at (settings_refused_of r) c.args.out.now 0 c.refused-n.new.out c.refused-n.result (omega arith) c.refused-n.ensures.out_after)) in
    says ∙ sym (refused_says c.args.bytes.now r (sym (ap (λ (y : Reading). y.answer) e)) c.args.log.now)
