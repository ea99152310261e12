use mathlib.Core.Path.{refl, sym, ap, ◌∙◌}
use native.Mathlib.Omega.{arith}
use Rattle.lines.specs.Line.{too_long}
use Rattle.lines.proofs.Puts.{put-at}
use Rattle.event_log.proofs.Outputs.{refused, taken}
use Rattle.program.proofs.Whole.{first}
use Rattle.twin.proofs.Verdicts.{written_in}
use Rattle.twin.proofs.played.Goals as goal

pub returns-then-log-gt65536 : goal.returns-then-log-gt65536
returns-then-log-gt65536 c = (
  refl,
  first _ _ _ _ (refused c.args.board c.args.log.now (omega (arith, c.if-log-gt65536.true)) c.args.out.now c.too_long-n.new.out c.too_long-n.result
      (put-at too_long c.args.out.now 0 c.too_long-n.new.out c.too_long-n.result (omega arith) c.too_long-n.ensures.out_after)),
)

pub returns-in-Ok : goal.returns-in-Ok
unfolding written_in
returns-in-Ok c =
    (refl, first _ _ _ _ (ap written_in (sym c.in-Ok.is ∙ c.fill.ensures.0), c.fill.ensures.1) ∙ sym (taken c.args.board c.args.log.now (omega (arith, c.if-log-gt65536.false))))
