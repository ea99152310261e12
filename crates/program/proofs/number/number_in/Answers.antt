use mathlib.Core.Path.{sym, ◌∙◌}
use native.Mathlib.Omega.{arith}
use Rattle.program.proofs.Numbers.{other, next}
use Rattle.program.proofs.number.number_in.Goals as goal

pub returns-in_default : goal.returns-in_default
returns-in_default c = other c.args.base c.args.text.now c.loop-x.x-index c.loop-x.n c.requires.0 (omega arith) c.loop-x.invariant c.in-Some.d (sym c.in-Some.is ∙ c.digit.ensures) (omega arith)

pub loop-x-preserved : goal.loop-x-preserved
loop-x-preserved c = next c.args.base c.args.text.now c.loop-x.x-index c.loop-x.n c.requires.0 (omega arith) c.loop-x.invariant c.in-Some.d c.longer-n.result (sym c.in-Some.is ∙ c.digit.ensures) (omega arith) c.longer-n.ensures
