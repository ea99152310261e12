use mathlib.Core.Path.{◌∙◌}
use native.Mathlib.Omega.{arith}
use Rattle.lines.specs.Line.{refused_of}
use Rattle.lines.proofs.Puts.{put-at}
use Rattle.program.proofs.Whole.{first}
use Rattle.screen.proofs.Outputs.{told-well, turned_down, accepted}
use Rattle.screen.proofs.output_from.Goals as goal

pub played-requires : goal.played-requires
played-requires c = told-well c.args.settings c.args.pin c.args.log.now c.requires c.told-turn.result c.told-turn.ensures

pub returns-in-Refused : goal.returns-in-Refused
returns-in-Refused c =
    let r = c.in-Refused.refusal in
    first _ _ _ _ (turned_down c.args.settings c.args.pin c.args.log.now c.told-turn.result c.told-turn.ensures r c.in-Refused.is c.args.out.now c.refused-n.new.out c.refused-n.result
    (put-at (refused_of r) c.args.out.now 0 c.refused-n.new.out c.refused-n.result (omega arith) c.refused-n.ensures.out_after))

pub returns-in_default : goal.returns-in_default
returns-in_default c = c.played.ensures ∙ accepted c.args.settings c.args.pin c.args.log.now c.told-turn.result c.told-turn.ensures c.in_default.not-Refused
