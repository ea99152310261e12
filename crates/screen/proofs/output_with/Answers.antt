use mathlib.Core.Path.{◌∙◌}
use native.Mathlib.Omega.{arith}
use Rattle.lines.specs.Listing.{settings_refused_of}
use Rattle.lines.proofs.Puts.{put-at}
use Rattle.lines.proofs.Whole.{put_whole}
use Rattle.program.proofs.Whole.{first}
use Rattle.screen.proofs.Outputs.{read-ranged, rejected, settled}
use Rattle.screen.proofs.output_with.Goals as goal

pub output_from-requires : goal.output_from-requires
output_from-requires c = read-ranged c.args.bytes.now c.accepted.result c.accepted.ensures c.args.pin c.in-Ok.settings c.in-Ok.is

pub returns-in-Ok : goal.returns-in-Ok
returns-in-Ok c = c.output_from.ensures ∙ settled c.args.bytes.now c.accepted.result c.accepted.ensures c.args.pin c.in-Ok.settings c.in-Ok.is c.args.log.now

pub returns-in-Err : goal.returns-in-Err
returns-in-Err c =
    let r = c.in-Err.refusal in
    first _ _ _ _ (put_whole (settings_refused_of r) c.args.out.now c.refused-n.new.out c.refused-n.result (put-at (settings_refused_of r) c.args.out.now 0 c.refused-n.new.out c.refused-n.result (omega arith) c.refused-n.ensures.out_after))
    ∙ rejected c.args.bytes.now c.accepted.result c.accepted.ensures c.args.pin r c.in-Err.is c.args.log.now
