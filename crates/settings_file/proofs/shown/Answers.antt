use mathlib.Core.Path.{◌∙◌}
use native.Mathlib.Omega.{arith}
use Rattle.lines.specs.Line.{refused_of}
use Rattle.lines.specs.Listing.{text_of}
use Rattle.lines.proofs.Puts.{put-at, put_if}
use Rattle.lines.proofs.Whole.{put_whole}
use Rattle.program.proofs.Whole.{first}
use Rattle.settings_file.proofs.Outputs.{text-shown, refusal-shown}
use Rattle.settings_file.proofs.shown.Goals as goal

pub returns-in-Ok : goal.returns-in-Ok
returns-in-Ok c =
    let x = c.in-Ok.settings in
    first _ _ _ _ (put_whole (text_of x) c.args.out.now c.text-n.new.out c.text-n.result (put_if 128 (text_of x) c.args.out.now 0 c.text-n.new.out c.text-n.result (omega arith) c.text-n.ensures.out_after))
    ∙ text-shown c.args.bytes.now c.accepted.result c.accepted.ensures x c.in-Ok.is

pub returns-in-Err : goal.returns-in-Err
returns-in-Err c =
    let r = c.in-Err.refusal in
    first _ _ _ _ (put_whole (refused_of r) c.args.out.now c.refused-n.new.out c.refused-n.result (put-at (refused_of r) c.args.out.now 0 c.refused-n.new.out c.refused-n.result (omega arith) c.refused-n.ensures.out_after))
    ∙ refusal-shown c.args.bytes.now c.accepted.result c.accepted.ensures r c.in-Err.is
