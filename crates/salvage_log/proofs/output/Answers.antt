use native.Mathlib.Omega.{arith}
use Rattle.lines.specs.Line.{too_long}
use Rattle.lines.proofs.Puts.{put-at}
use Rattle.program.proofs.Whole.{within, first}
use Rattle.salvage_log.proofs.Outputs.{turned_down, never, inside, room, whole}
use Rattle.salvage_log.proofs.output.Goals as goal

pub returns-then-log-gt262144-clause-text_value : goal.returns-then-log-gt262144-clause-text_value
returns-then-log-gt262144-clause-text_value c =
    let p = turned_down c.args.log.now (omega (arith, c.if-log-gt262144.true)) c.args.kept.now c.args.out.now c.too_long-n.new.out c.too_long-n.result
    (put-at too_long c.args.out.now 0 c.too_long-n.new.out c.too_long-n.result (omega arith) c.too_long-n.ensures.out_after) in
    first _ _ _ _ p.0

pub report-n-requires-clause-stretches_in_bounds : goal.report-n-requires-clause-stretches_in_bounds
report-n-requires-clause-stretches_in_bounds c =
    inside c.args.log.now c.args.kept.now c.args.list.now (omega (arith, c.if-log-gt262144.false)) (omega arith) (omega arith) c.salvage.result c.salvage.new.kept c.salvage.new.list c.salvage.ensures.0 c.salvage.ensures.1 c.salvage.ensures.2 c.in-Ok.got c.in-Ok.is

pub report-n-requires-clause-records_in_bounds : goal.report-n-requires-clause-records_in_bounds
report-n-requires-clause-records_in_bounds c =
    room c.args.log.now c.args.kept.now c.args.list.now (omega (arith, c.if-log-gt262144.false)) (omega arith) (omega arith) c.salvage.result c.salvage.new.kept c.salvage.new.list c.salvage.ensures.0 c.salvage.ensures.1 c.salvage.ensures.2 c.in-Ok.got c.in-Ok.is c.args.out.now (omega arith)

pub shared_ref_as_front-result-in-Ok : goal.shared_ref_as_front-result-in-Ok
shared_ref_as_front-result-in-Ok c =
    let p = whole c.args.log.now c.args.kept.now c.args.list.now (omega (arith, c.if-log-gt262144.false)) (omega arith) (omega arith) c.salvage.result c.salvage.new.kept c.salvage.new.list c.salvage.ensures.0 c.salvage.ensures.1 c.salvage.ensures.2 c.in-Ok.got c.in-Ok.is c.args.out.now c.report-n.new.out c.report-n.result c.report-n.ensures in
    omega (arith, within _ _ _ _ (p.1.1, p.1.2))

pub returns-in-Ok-clause-text_value : goal.returns-in-Ok-clause-text_value
returns-in-Ok-clause-text_value c =
    let q = whole c.args.log.now c.args.kept.now c.args.list.now (omega (arith, c.if-log-gt262144.false)) (omega arith) (omega arith) c.salvage.result c.salvage.new.kept c.salvage.new.list c.salvage.ensures.0 c.salvage.ensures.1 c.salvage.ensures.2 c.in-Ok.got c.in-Ok.is c.args.out.now c.report-n.new.out c.report-n.result c.report-n.ensures in
    first _ _ _ _ q.0

pub returns-in-Ok-clause-file_value : goal.returns-in-Ok-clause-file_value
returns-in-Ok-clause-file_value c =
    let r = whole c.args.log.now c.args.kept.now c.args.list.now (omega (arith, c.if-log-gt262144.false)) (omega arith) (omega arith) c.salvage.result c.salvage.new.kept c.salvage.new.list c.salvage.ensures.0 c.salvage.ensures.1 c.salvage.ensures.2 c.in-Ok.got c.in-Ok.is c.args.out.now c.report-n.new.out c.report-n.result c.report-n.ensures in
    (r.1.0, first _ _ _ _ (r.1.1, r.1.2))

pub returns-in-Err-clause-text_value : goal.returns-in-Err-clause-text_value
returns-in-Err-clause-text_value c =
    absurd (never c.args.log.now c.args.kept.now c.args.list.now (omega (arith, c.if-log-gt262144.false)) (omega arith) (omega arith) c.salvage.result c.salvage.new.kept c.salvage.new.list c.salvage.ensures.0 c.salvage.ensures.1 c.salvage.ensures.2 c.in-Err.field-0 c.in-Err.is)

pub returns-in-Err-clause-file_value : goal.returns-in-Err-clause-file_value
returns-in-Err-clause-file_value c =
    absurd (never (c.args.log.now) c.args.kept.now c.args.list.now (omega (arith, c.if-log-gt262144.false)) (omega arith) (omega arith) c.salvage.result c.salvage.new.kept c.salvage.new.list c.salvage.ensures.0 c.salvage.ensures.1 c.salvage.ensures.2 c.in-Err.field-0 c.in-Err.is)
