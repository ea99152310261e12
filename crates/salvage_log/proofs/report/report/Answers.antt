use mathlib.Core.Path.{◌∙◌}
use native.Mathlib.Omega.{arith}
use Rattle.lines.specs.Line.{heading_line, kept_line}
use Rattle.lines.proofs.Puts.{put-at}
use Rattle.salvage_log.proofs.Telling.{line_at, start, alike, room, turn, finish}
use Rattle.salvage_log.proofs.report.report.Goals as goal

pub loop-i-init : goal.loop-i-init
loop-i-init c =
    start c.args.list.now c.args.stretches c.args.records c.args.out.now c.requires.records_in_bounds c.heading-at.new.out c.heading-at.result
    (put-at heading_line c.args.out.now 0 c.heading-at.new.out c.heading-at.result (omega (arith, c.requires.records_in_bounds)) c.heading-at.ensures.out_after)

pub loop-i-preserved : goal.loop-i-preserved
loop-i-preserved c =
    turn c.args.list.now c.args.stretches c.args.records c.heading-at.new.out c.heading-at.result c.loop-i.out c.loop-i.i c.loop-i.at c.loop-i.invariant (omega arith) c.skipped-at.new.out c.skipped-at.result
    (put-at (line_at c.args.list.now c.loop-i.i) c.loop-i.out c.loop-i.at c.skipped-at.new.out c.skipped-at.result
    (room c.args.list.now c.args.stretches c.args.records c.heading-at.new.out c.heading-at.result c.loop-i.out c.loop-i.i c.loop-i.at c.loop-i.invariant)
    c.skipped-at.ensures.out_after)

pub shape_of-out : goal.shape_of-out
shape_of-out c =
    c.kept.auto.out ∙ alike c.args.list.now c.args.stretches c.args.records c.heading-at.new.out c.heading-at.result c.loop-i.out c.loop-i.i c.loop-i.at c.loop-i.invariant ∙ c.heading-at.auto.out

pub returns : goal.returns
returns c =
    finish c.args.list.now c.args.stretches c.args.records c.heading-at.new.out c.heading-at.result c.loop-i.out c.loop-i.i c.loop-i.at c.loop-i.invariant (omega arith) c.kept.new.out c.kept.result
    (put-at (kept_line c.args.records) c.loop-i.out c.loop-i.at c.kept.new.out c.kept.result
    (room c.args.list.now c.args.stretches c.args.records c.heading-at.new.out c.heading-at.result c.loop-i.out c.loop-i.i c.loop-i.at c.loop-i.invariant)
    c.kept.ensures.out_after)
    c.args.out.now
    (put-at heading_line c.args.out.now 0 c.heading-at.new.out c.heading-at.result (omega (arith, c.requires.records_in_bounds)) c.heading-at.ensures.out_after)
    c.heading-at.auto.out
