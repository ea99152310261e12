use native.Mathlib.Omega.{arith}
use lib.Bits.{or_add_and, and_high}
use Rattle.entries.specs.Word.{with_remote}
use Rattle.entries.proofs.Low.with_remote.Goals as goal

pub returns : goal.returns
unfolding with_remote
returns c = let w = c.args.self.0 in omega (arith, or_add_and w 16384, and_high w 1 14)
