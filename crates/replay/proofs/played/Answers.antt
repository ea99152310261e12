use native.Mathlib.Omega.{arith}
use Rattle.lines.specs.Line.{too_long}
use Rattle.lines.proofs.Puts.{put-at}
use Rattle.event_log.proofs.Outputs.{refused, whole}
use Rattle.program.proofs.Whole.{within, first}
use Rattle.replay.proofs.played.Goals as goal

pub returns-then-log-gt65536 : goal.returns-then-log-gt65536
returns-then-log-gt65536 c =
    first _ _ _ _ (refused c.args.board c.args.log.now (omega (arith, c.if-log-gt65536.true)) c.args.out.now c.too_long-n.new.out c.too_long-n.result
    (put-at too_long c.args.out.now 0 c.too_long-n.new.out c.too_long-n.result (omega arith) c.too_long-n.ensures.out_after))

pub shared_ref_as_front-result-2 : goal.shared_ref_as_front-result-2
shared_ref_as_front-result-2 c =
    omega (arith, within _ _ _ _ (whole c.args.board c.args.log.now c.requires (omega (arith, c.if-log-gt65536.false)) c.args.out.now c.replay-r.new.out (omega arith) c.replay-r.result c.replay-r.ensures.0 c.replay-r.ensures.1))

pub returns : goal.returns
returns c =
    first _ _ _ _ (whole c.args.board c.args.log.now c.requires (omega (arith, c.if-log-gt65536.false)) c.args.out.now c.replay-r.new.out (omega arith) c.replay-r.result c.replay-r.ensures.0 c.replay-r.ensures.1)
