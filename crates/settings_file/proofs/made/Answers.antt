use mathlib.Core.Path.{sym}
use native.Mathlib.Omega.{arith}
use Rattle.answers.specs.declared.Refusal.TheVariants as refusal
use Rattle.lines.specs.Line.{refused_of}
use Rattle.lines.specs.Listing.{text_of}
use Rattle.lines.proofs.Puts.{put-at, put_if}
use Rattle.program.proofs.Whole.{first}
use Rattle.settings_file.proofs.Outputs.{some-of, none-of, not-true, turned_down, whole-made}
use Rattle.settings_file.proofs.made.Goals as goal

pub returns-in-Some-clause-text_value : goal.returns-in-Some-clause-text_value
returns-in-Some-clause-text_value c =
    let k = some-of _ _ _ _ c.taken.ensures c.in-Some.is in
    let p = whole-made c.args.asked c.args.file.now c.args.out.now c.text-n.new.out c.text-n.result c.in-Some.settings k.1 k.0 c.told-file c.write.new.out c.write.ensures.1
    (put_if 128 (text_of c.in-Some.settings) c.args.out.now 0 c.text-n.new.out c.text-n.result (omega arith) c.text-n.ensures.out_after) in
    first _ _ _ _ p.0

pub returns-in-Some-clause-file_value : goal.returns-in-Some-clause-file_value
returns-in-Some-clause-file_value c =
    let k = some-of _ _ _ _ c.taken.ensures c.in-Some.is in
    let p = whole-made c.args.asked c.args.file.now c.args.out.now c.text-n.new.out c.text-n.result c.in-Some.settings k.1 k.0 c.told-file c.write.new.out c.write.ensures.1
    (put_if 128 (text_of c.in-Some.settings) c.args.out.now 0 c.text-n.new.out c.text-n.result (omega arith) c.text-n.ensures.out_after) in
    p.1

pub returns-in-None-clause-text_value : goal.returns-in-None-clause-text_value
returns-in-None-clause-text_value c =
    let no = not-true _ (none-of _ _ _ c.taken.ensures c.in-None.is) in
    let p = turned_down c.args.asked c.args.file.now c.args.out.now c.refused-n.new.out c.refused-n.result no
    (put-at (refused_of refusal.Range) c.args.out.now 0 c.refused-n.new.out c.refused-n.result (omega arith) c.refused-n.ensures.out_after) in
    first _ _ _ _ p.0

pub returns-in-None-clause-file_value : goal.returns-in-None-clause-file_value
returns-in-None-clause-file_value c = (sym (not-true _ (none-of _ _ _ c.taken.ensures c.in-None.is)), tt)
