use Prim.Native.Nat.{◌/◌, ◌%◌, ◌^◌, ◌<◌}
use native.Mathlib.Nat.{mod-eq_of_lt}
use native.Mathlib.Omega.{arith}
use lib.Dec.{lit<}
use lib.Bits.{and_mask, and_high}
use Rattle.pins.proofs.Bit.{and_split}
use Rattle.entries.specs.Word.{without_remote}
use Rattle.entries.proofs.Low.without_remote.Goals as goal

pub returns : goal.returns
unfolding without_remote
returns c =
    let w = c.args.self.0 in
    let small : w / 2 ^ 14 / 2 < 2 ^ 17 = omega arith in
    let low : w % 2 ^ 14 < 2 ^ 14 = omega arith in
    omega (arith, and_split w 14 0x3fffe 0x3fff (lit< tt), and_high (w / 2 ^ 14) 17 1, and_mask (w % 2 ^ 14) 14, mod-eq_of_lt small, mod-eq_of_lt low)
