use Prim.Native.Nat.{◌<◌, ◌^◌, ◌/◌}
use native.Mathlib.Omega.{arith}
use lib.Bits.{and_le_r}
use Rattle.entries.specs.Word.{remote_of, level_of, word_ok}
use Rattle.entries.proofs.Fields.{stored-bits}
use Rattle.entries.proofs.Low.word_ok.Goals as goal

pub overflow_sub-result : goal.overflow_sub-result
overflow_sub-result c = omega (arith, and_le_r (c.args.self.0 / 2) 0x4000)

pub returns : goal.returns
unfolding word_ok level_of remote_of
returns c =
    let w = c.args.self.0 in
    let fits : w < 2 ^ 32 = omega arith in
    stored-bits w fits
