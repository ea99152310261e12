use native.Mathlib.Omega.{arith}
use lib.Bits.{or_add_and, and_high}
use Rattle.entries.specs.Word.{shown}
use Rattle.entries.proofs.Low.shown.Goals as goal

pub returns-then-eligible : goal.returns-then-eligible
unfolding shown
returns-then-eligible c =
    let w = c.args.self.0 in
    rw c.if-eligible.true (omega (arith, or_add_and w 4096, and_high w 1 12))

pub returns-else-eligible : goal.returns-else-eligible
unfolding shown
returns-else-eligible c = rw c.if-eligible.false
