use mathlib.Core.Path.{refl, sym, ap, ◌∙◌}
use mathlib.Core.List.{List}
use Prim.Native.Nat.{ℕ}
use native.Mathlib.Omega.{arith}
use Rattle.lines.specs.Listing.{settings_refused_of}
use Rattle.lines.proofs.Puts.{put-at}
use Rattle.board.specs.State.{reset_to}
use Rattle.event_log.specs.Output.{output_from, output_by}
use Rattle.event_log.proofs.Outputs.{by-refused, by-taken, with-so}
use Rattle.program.proofs.Whole.{first, through}
use Rattle.twin.proofs.output_with.Goals as goal

pub returns-in-Refused : goal.returns-in-Refused
returns-in-Refused c =
    let x = c.read-reading.result in
    let r = c.in-Refused.refusal in (
      refl,
      first _ _ _ _ (by-refused x.settings c.args.log.now c.args.out.now c.refused-n.new.out c.refused-n.result x.answer r c.in-Refused.is
          (put-at (settings_refused_of r) c.args.out.now 0 c.refused-n.new.out c.refused-n.result (omega arith) c.refused-n.ensures.out_after))
          ∙ with-so c.args.bytes.now c.args.log.now x c.read-reading.ensures,
    )

pub returns-in_default : goal.returns-in_default
returns-in_default c =
    let x = c.read-reading.result in
    let e = through (output_from (reset_to x.settings) c.args.log.now) (output_by x.settings x.answer c.args.log.now) (λ o o' n. by-taken x.settings c.args.log.now o o' n x.answer c.in_default.not-Refused)
    ∙ with-so c.args.bytes.now c.args.log.now x c.read-reading.ensures in
    (c.output_from.ensures.0, rw (sym e) c.output_from.ensures.1)
